use Rattle.spki_decision.proofs.Monotony.{supported_then, granted_then, yes_then, answer_then}
use Rattle.spki_decision.proofs.laws.other_moment.Goals as goal

pub returns-clause-chain : goal.returns-clause-chain
returns-clause-chain g c = supported_then

pub returns-clause-granted : goal.returns-clause-granted
returns-clause-granted g c verifier k moment = granted_then k moment (g.V.Verifier.accepted verifier)

pub returns-clause-yes : goal.returns-clause-yes
returns-clause-yes g c verifier k moment n index e d number stands here all granted decided =
    yes_then k moment (g.V.Verifier.accepted verifier) n index e number stands here all granted d decided

pub returns-clause-answer : goal.returns-clause-answer
returns-clause-answer g c verifier k moment n index e x number stands here all decided other =
    answer_then k moment (g.V.Verifier.accepted verifier) n index e number stands here all decided x other
