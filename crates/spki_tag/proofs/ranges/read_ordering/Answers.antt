use Rattle.spki_tag.proofs.Named.{ordering-other}
use Rattle.spki_tag.proofs.ranges.read_ordering.Goals as goal

pub returns-in-None-clause-named : goal.returns-in-None-clause-named
returns-in-None-clause-named c = ordering-other _ _ (rw c.in-String-None-default.hint-is at c.in-String-None-default.ensures) c.in-None.ensures
