-- None so far.
use Rattle.std.proofs.Common.{◌≡◌, drop}
use Rattle.spki_guard.specs.Lines.{some_done}
use Rattle.spki_guard.proofs.reports.some_done.Given as goal

abbrev pub invariant-loop-fold : goal.invariant-loop-fold
invariant-loop-fold l = some_done (drop l.fold-index l.folds) ≡ some_done l.folds
