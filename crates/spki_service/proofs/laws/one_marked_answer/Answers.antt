use Rattle.std.proofs.Common.{refl}
use Rattle.spki_decision.proofs.OneDecision.{explained_one, reduced_one}
use Rattle.spki_service.proofs.AnswerLaws.{decided_marked_one, marked_one}
use Rattle.spki_service.proofs.laws.one_marked_answer.Goals as goal

pub returns-clause-decision : goal.returns-clause-decision
returns-clause-decision c a es x y are h k = decided_marked_one a es x y are h k

pub returns-clause-explanation : goal.returns-clause-explanation
returns-clause-explanation c a es x y are found known h k = marked_one _ _ explained_one _ (λ s. (refl, refl)) a es are x y found known h k

pub returns-clause-reduction : goal.returns-clause-reduction
returns-clause-reduction c a es x y are found known h k = marked_one _ _ reduced_one _ (λ s. (refl, refl)) a es are x y found known h k
