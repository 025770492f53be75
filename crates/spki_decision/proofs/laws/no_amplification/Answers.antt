use Rattle.spki_decision.proofs.Audited.{held_throughout, held_by_all, have_issuers}
use Rattle.spki_decision.proofs.laws.no_amplification.Goals as goal

pub returns-clause-chain : goal.returns-clause-chain
returns-clause-chain g c = held_throughout

pub returns-clause-granted : goal.returns-clause-granted
returns-clause-granted g c verifier k = held_by_all k (g.V.Verifier.accepted verifier)

pub returns-clause-issuers : goal.returns-clause-issuers
returns-clause-issuers g c = have_issuers
