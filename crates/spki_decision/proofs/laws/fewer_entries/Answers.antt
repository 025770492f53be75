use Rattle.spki_decision.proofs.Monotony.{no_shorter, decided_shorter}
use Rattle.spki_decision.proofs.laws.fewer_entries.Goals as goal

pub returns-clause-no : goal.returns-clause-no
returns-clause-no g c verifier k = no_shorter k (g.V.Verifier.accepted verifier)

pub returns-clause-answer : goal.returns-clause-answer
returns-clause-answer g c verifier k = decided_shorter k (g.V.Verifier.accepted verifier)
