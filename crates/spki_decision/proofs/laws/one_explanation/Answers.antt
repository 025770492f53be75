use Rattle.spki_decision.proofs.OneDecision.{explained_one, of_text, own_of_text}
use Rattle.spki_decision.proofs.laws.one_explanation.Goals as goal

pub returns-clause-verified : goal.returns-clause-verified
returns-clause-verified g c verifier = of_text _ _ explained_one (g.V.Verifier.accepted verifier)

pub returns-clause-own : goal.returns-clause-own
returns-clause-own g c = own_of_text _ _ explained_one

pub returns-clause-same_case : goal.returns-clause-same_case
returns-clause-same_case g c verifier k = explained_one k (g.V.Verifier.accepted verifier)
