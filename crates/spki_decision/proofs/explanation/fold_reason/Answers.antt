use Rattle.std.proofs.Common.{◌≡◌, []}
use Rattle.spki_case.specs.View.{model}
use Rattle.spki_decision.{specs.CertificateTests.{with_entries}, proofs.Explanations.{reasoned, is_own}}
use Rattle.spki_reduce.specs.{Reduction.{five, entry_tuple, five_tuple}, Chain.{FoldsTo, HasMet}}
use Rattle.spki_decision.proofs.explanation.fold_reason.Goals as goal

pub returns-in-Done : goal.returns-in-Done
returns-in-Done c es tuples e h =
    let f = c.in-Done.five in
    let first = five (entry_tuple e) in
    let became : FoldsTo c.args.case.now.policy first tuples f × HasMet first tuples f × (tuples ≡ [] → five_tuple f ≡ entry_tuple e) =
    rw c.in-Done.is at h in
    let folds = became.0 in
    rw c.reason_of.ensures (reasoned (with_entries (model c.args.case.now) es) tuples e f c.missing_grant-missing.result folds became.1
    (c.missing_grant-missing.ensures.missing folds.root folds.reduced)
    (c.missing_grant-missing.ensures.supported first tuples folds (is_own (with_entries (model c.args.case.now) es) tuples e f folds)))

pub returns-in-Stopped : goal.returns-in-Stopped
returns-in-Stopped c es tuples e h = rw c.in-Stopped.is at h
