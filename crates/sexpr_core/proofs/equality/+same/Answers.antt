use Rattle.sexpr_core.{specs.Value.{sexp_value}, proofs.TreeLaws.{member_differs, lists_same}}
use Rattle.sexpr_core.proofs.equality.+same.Goals as goal

pub same_trees-returns-in-List-other-2 : goal.same_trees-returns-in-List-other-2
same_trees-returns-in-List-other-2 t c =
    lists_same _ _ _ _ _ c.in-List.is c.in-List-other-2.is (rw (c.deref.ensures.value, c.deref-in-List-other-2.ensures.value) at c.same_members.ensures)

pub same_members-returns-then-not-same_trees : goal.same_members-returns-then-not-same_trees
same_members-returns-then-not-same_trees t c =
    member_differs sexp_value _ _ _ _ _ c.loop-i-test.true c.if-members-others.false (rw (c.index-members-i.is, c.index-others-i.is) at c.if-not-same_trees.ensures)
