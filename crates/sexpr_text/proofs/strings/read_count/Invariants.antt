use Rattle.std.proofs.Common.{◌<◌, ◌-◌, length}
use Rattle.sexpr_text.specs.Reads.{ReadsCount}
use Rattle.sexpr_text.proofs.strings.read_count.Given as goal

abbrev pub invariant-loop-octet : goal.invariant-loop-octet
invariant-loop-octet l = ReadsCount l.text l.at l.number l.i × (0 < l.number)

abbrev pub decreases-loop-octet : goal.decreases-loop-octet
decreases-loop-octet l = length l.text - l.i
