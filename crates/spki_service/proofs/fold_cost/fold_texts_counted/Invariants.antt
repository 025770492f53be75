-- What the entries of the texts so far become.
use Rattle.std.proofs.Common.{◌≡◌, ◌+◌, ◌≤◌, List, take}
use Rattle.spki_reduce.specs.Chain.{tuples_of}
use Rattle.spki_case.specs.View.{model}
use Rattle.spki_decision.{specs.{declared.reduction.EntryFold.{EntryFold}, Requirements.{work_left, IsBudgetFor}}, proofs.EntryChains.{ArePut}}
use Rattle.spki_service.{specs.Cost.{all_octets}, proofs.{AnswerLaws.{TextsTo}, Costs.{TicksTo}}}
use Rattle.spki_service.proofs.fold_cost.fold_texts_counted.Given as goal

abbrev pub invariant-loop-place : goal.invariant-loop-place
invariant-loop-place g l = (folds : List EntryFold) × g.S.FoldSink.takes l.initial.sink folds l.sink × ArePut l.place folds
    × TextsTo l.texts (model l.case) (tuples_of l.steps) l.place (work_left l.budget) folds
    × IsBudgetFor (tuples_of l.steps) l.budget
    × (l.case.uncounted ≡ 0 → TicksTo l.case.most_work l.texts l.fn.ticks l.place (work_left l.budget) l.ticks)
    × (l.fn.ticks + all_octets (take l.place l.texts) + l.place ≤ l.ticks)
