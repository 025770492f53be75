use Rattle.std.proofs.Common.{◌+◌, ◌-◌, length}
use Rattle.sexpr_text.proofs.StringLaws.{ReadsPieces}
use Rattle.sexpr_text.proofs.quoted_strings.read_quoted.Given as goal

abbrev pub invariant-loop-octet : goal.invariant-loop-octet
invariant-loop-octet l = ReadsPieces l.text (l.at + 1) l.octets.items l.i

abbrev pub decreases-loop-octet : goal.decreases-loop-octet
decreases-loop-octet l = length l.text - l.i
