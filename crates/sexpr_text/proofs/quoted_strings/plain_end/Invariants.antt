use Rattle.std.proofs.Common.{ℕ, List, ◌-◌, length}
use Rattle.sexpr_text.specs.Reads.{ReadsPlain}
use Rattle.sexpr_text.proofs.quoted_strings.plain_end.Given as goal

abbrev pub invariant-loop-octet : goal.invariant-loop-octet
invariant-loop-octet l = (octets : List ℕ) × ReadsPlain l.text l.at octets l.i

abbrev pub decreases-loop-octet : goal.decreases-loop-octet
decreases-loop-octet l = length l.text - l.i
