use Rattle.std.proofs.Common.{◌≡◌, ◌++◌, replicate}
use Rattle.sexpr_core.proofs.braces.pad.Given as goal

abbrev pub invariant-loop-index : goal.invariant-loop-index
invariant-loop-index l = l.symbols.items ≡ l.initial.symbols.items ++ replicate l.index 61
