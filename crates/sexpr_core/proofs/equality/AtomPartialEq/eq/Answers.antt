use Rattle.sexpr_core.proofs.TreeLaws.{same_given}
use Rattle.sexpr_core.proofs.equality.AtomPartialEq.eq.Goals as goal

pub returns-clause-test : goal.returns-clause-test
returns-clause-test c = same_given _ _ _ c.same_atoms.ensures
