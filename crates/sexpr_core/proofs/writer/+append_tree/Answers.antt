use Rattle.sexpr_core.{specs.Value.{sexp_value}, proofs.TreeLaws.{member_written, list_written}}
use Rattle.sexpr_core.proofs.writer.+append_tree.Goals as goal

pub loop-member-preserved : goal.loop-member-preserved
loop-member-preserved t c =
    member_written sexp_value _ _ _ _ _ _ c.loop-member-test.true c.loop-member.invariant (rw c.member-item.is at c.in_ok-append_tree-in-List.ensures)

pub returns-in_ok-push-in-List-2 : goal.returns-in_ok-push-in-List-2
returns-in_ok-push-in-List-2 t c =
    list_written _ _ _ _ _ _ _ _ c.in-List.is c.deref-member-items.ensures.value c.loop-member-test.false c.in_ok-push-in-List.ensures.items c.loop-member.invariant c.in_ok-push-in-List-2.ensures.items
