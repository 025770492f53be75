use Rattle.spki_decision.proofs.OneDecision.{decided_one, decided_or_large, decision_one, of_text, own_of_text}
use Rattle.spki_decision.proofs.laws.one_decision.Goals as goal

pub returns-clause-verified : goal.returns-clause-verified
returns-clause-verified g c verifier = of_text _ _ decided_one (g.V.Verifier.accepted verifier)

pub returns-clause-own : goal.returns-clause-own
returns-clause-own g c = own_of_text _ _ decided_one

pub returns-clause-same_case : goal.returns-clause-same_case
returns-clause-same_case g c verifier k = decided_one k (g.V.Verifier.accepted verifier)

pub returns-clause-members : goal.returns-clause-members
returns-clause-members g c verifier k = decision_one k (g.V.Verifier.accepted verifier)

pub returns-clause-alike : goal.returns-clause-alike
returns-clause-alike g c verifier k = decided_or_large k (g.V.Verifier.accepted verifier)
