use Rattle.std.proofs.Common.{◌-◌, length}
use Rattle.sexpr_text.specs.Reads.{Keeps}
use Rattle.sexpr_text.proofs.hexadecimal_strings.gather_digits.Given as goal

abbrev pub invariant-loop-octet : goal.invariant-loop-octet
invariant-loop-octet l = Keeps l.text l.at l.digits.items l.i

abbrev pub decreases-loop-octet : goal.decreases-loop-octet
decreases-loop-octet l = length l.text - l.i
