use Rattle.spki_decision.proofs.Monotony.{decided_longer, yes_longer, yes_behind}
use Rattle.spki_decision.proofs.laws.more_entries.Goals as goal

pub returns-clause-answer : goal.returns-clause-answer
returns-clause-answer g c verifier k = decided_longer k (g.V.Verifier.accepted verifier)

pub returns-clause-yes : goal.returns-clause-yes
returns-clause-yes g c verifier k = yes_longer k (g.V.Verifier.accepted verifier)

pub returns-clause-no : goal.returns-clause-no
returns-clause-no g c verifier k = yes_behind k (g.V.Verifier.accepted verifier)
