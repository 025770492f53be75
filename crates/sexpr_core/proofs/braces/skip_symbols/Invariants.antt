use Rattle.std.proofs.Common.{◌-◌, length}
use Rattle.sexpr_core.specs.Reading.{Passed, is_symbol}
use Rattle.sexpr_core.proofs.braces.skip_symbols.Given as goal

abbrev pub invariant-loop-octet : goal.invariant-loop-octet
invariant-loop-octet l = Passed is_symbol l.text l.at l.i

abbrev pub decreases-loop-octet : goal.decreases-loop-octet
decreases-loop-octet l = length l.text - l.i
