-- The lines so far.
use Rattle.std.proofs.Common.{ℕ, List, take}
use Rattle.spki_guard.specs.Lines.{AreFoldLines}
use Rattle.spki_guard.proofs.reports.print_folds.Given as goal

abbrev pub invariant-loop-index : goal.invariant-loop-index
invariant-loop-index g l =
    (lines : List ℕ) × AreFoldLines 1 (take l.index l.folds) lines × g.S.Sink.takes l.initial.sink lines l.sink
