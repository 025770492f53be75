-- What the entries so far become.
use Rattle.std.proofs.Common.{List}
use Rattle.spki_case.specs.View.{model}
use Rattle.spki_reduce.specs.Chain.{tuples_of}
use Rattle.spki_decision.specs.{CertificateTests.{with_entries}, declared.reduction.EntryFold.{EntryFold}, Requirements.{work_left, IsBudgetFor}}
use Rattle.spki_decision.proofs.EntryChains.{ArePut, FoldedTo}
use Rattle.spki_decision.proofs.reduction.put_folds.Given as goal

abbrev pub invariant-loop-index : goal.invariant-loop-index
invariant-loop-index g l = (folds : List EntryFold) × g.S.FoldSink.takes l.initial.sink folds l.sink × ArePut l.index folds
    × FoldedTo (with_entries (model l.case) l.acl) (tuples_of l.steps) l.index (work_left l.budget) folds
    × IsBudgetFor (tuples_of l.steps) l.budget
