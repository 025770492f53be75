use Rattle.spki_service.proofs.AnswerLaws.{decided_told}
use Rattle.spki_service.proofs.laws.marked_as_verified.Goals as goal

pub returns : goal.returns
returns g k verifier a d tell decided = decided_told (g.V.Verifier.accepted verifier) a tell d decided
