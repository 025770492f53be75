use Rattle.spki_decision.proofs.Charges.{charge_taken}
use Rattle.spki_decision.proofs.reduction.entry_fold_with_new_count.Goals as goal

pub returns-clause-left : goal.returns-clause-left
returns-clause-left g c = charge_taken _ _ _ _ _ _ _ _ c.entry_fold_counted.ensures.cost
