use Rattle.spki_decision.proofs.Monotony.{supported_wider, granted_wider, no_narrower, entries_narrower}
use Rattle.spki_decision.proofs.laws.narrower.Goals as goal

pub returns-clause-chain : goal.returns-clause-chain
returns-clause-chain g c = supported_wider

pub returns-clause-granted : goal.returns-clause-granted
returns-clause-granted g c verifier narrow wide n is = granted_wider (g.V.Verifier.accepted verifier) narrow wide is n

pub returns-clause-no : goal.returns-clause-no
returns-clause-no g c verifier = no_narrower (g.V.Verifier.accepted verifier)

pub returns-clause-entries : goal.returns-clause-entries
returns-clause-entries g c verifier k = entries_narrower k (g.V.Verifier.accepted verifier)
