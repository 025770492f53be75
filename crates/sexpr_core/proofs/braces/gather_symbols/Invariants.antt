use Rattle.std.proofs.Common.{◌-◌, length}
use Rattle.sexpr_core.proofs.Spans.{Gathers}
use Rattle.sexpr_core.proofs.braces.gather_symbols.Given as goal

abbrev pub invariant-loop-octet : goal.invariant-loop-octet
invariant-loop-octet l = Gathers l.text l.at l.symbols.items l.i

abbrev pub decreases-loop-octet : goal.decreases-loop-octet
decreases-loop-octet l = length l.text - l.i
