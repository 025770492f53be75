use Rattle.spki_decision.proofs.Until.{yes_till, none_after}
use Rattle.spki_decision.proofs.laws.holds_until.Goals as goal

pub returns-clause-yes : goal.returns-clause-yes
returns-clause-yes g c verifier k moment grant d holds later before first decided =
    yes_till k (g.V.Verifier.accepted verifier) moment grant holds later before first d decided

pub returns-clause-after : goal.returns-clause-after
returns-clause-after g c verifier k moment grant holds after = none_after k (g.V.Verifier.accepted verifier) moment grant holds after
