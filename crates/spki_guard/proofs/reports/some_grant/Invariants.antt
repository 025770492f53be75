-- None so far.
use Rattle.std.proofs.Common.{◌≡◌, drop}
use Rattle.spki_guard.specs.Lines.{some_grant}
use Rattle.spki_guard.proofs.reports.some_grant.Given as goal

abbrev pub invariant-loop-reason : goal.invariant-loop-reason
invariant-loop-reason l = some_grant (drop l.reason-index l.reasons) ≡ some_grant l.reasons
