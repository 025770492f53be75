use Rattle.spki_decision.{proofs.OneDecision.{decision_one, explained_one, reduced_one}, specs.CertificateTests.{with_entries}}
use Rattle.spki_service.proofs.AnswerLaws.{answer_one}
use Rattle.spki_service.proofs.laws.one_answer.Goals as goal

pub returns-clause-decision : goal.returns-clause-decision
returns-clause-decision g c verifier a es x y are h k =
    decision_one (with_entries a.case es) (g.V.Verifier.accepted verifier) x y (h es are) (k es are)

pub returns-clause-explanation : goal.returns-clause-explanation
returns-clause-explanation g c verifier = answer_one _ _ explained_one (g.V.Verifier.accepted verifier)

pub returns-clause-reduction : goal.returns-clause-reduction
returns-clause-reduction g c verifier = answer_one _ _ reduced_one (g.V.Verifier.accepted verifier)
