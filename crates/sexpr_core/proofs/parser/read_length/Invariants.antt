-- The octets that were read so far are the digits of a number.
use Rattle.std.proofs.Common.{◌≡◌, ℕ, ◌++◌, ◌-◌, ◌≤◌, min, length, drop}
use Rattle.sexpr_core.specs.Value.{decimal}
use Rattle.sexpr_core.proofs.parser.read_length.Given as goal

abbrev pub invariant-loop-octet : goal.invariant-loop-octet
invariant-loop-octet l = record {
  written : ℕ;
  capped : l.number ≡ min written 1048577;
  spelled : drop l.at l.text ≡ decimal written ++ drop l.i l.text;
  within : l.i ≤ length l.text;
}

abbrev pub decreases-loop-octet : goal.decreases-loop-octet
decreases-loop-octet l = length l.text - l.i
