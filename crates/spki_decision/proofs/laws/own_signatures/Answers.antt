use Rattle.spki_decision.proofs.Audited.{signed_by_issuer}
use Rattle.spki_decision.proofs.laws.own_signatures.Goals as goal

pub returns : goal.returns
returns g c verifier k = signed_by_issuer k (g.V.Verifier.accepted verifier)
