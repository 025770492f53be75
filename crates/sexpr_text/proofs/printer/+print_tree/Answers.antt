use Rattle.sexpr_core.{specs.Value.{sexp_value}, proofs.TreeLaws.{more_octets, list_octets}}
use Rattle.sexpr_text.proofs.Printed.{member_behind, list_between, in_three}
use Rattle.sexpr_text.proofs.printer.+print_tree.Goals as goal

pub loop-i-preserved : goal.loop-i-preserved
loop-i-preserved g t c = (
  in_three g.S.Sink.takes g.met.S.Sink.both _ c.loop-i.invariant.0 c.print_gap.ensures (rw c.member-item.is at c.print_tree.ensures.printed)
      (member_behind sexp_value _ _ _ c.loop-i-test.true),
  more_octets sexp_value _ _ _ c.loop-i-test.true c.loop-i.invariant.1 (rw c.member-item.is at c.print_tree.ensures.octets),
)

pub returns-after-loop-i-clause-printed : goal.returns-after-loop-i-clause-printed
returns-after-loop-i-clause-printed g t c =
    in_three g.S.Sink.takes g.met.S.Sink.both _ c.put_octet.ensures c.loop-i.invariant.0 c.put_octet-in-List.ensures
    (list_between _ _ _ _ c.in-List.is c.deref-member-items.ensures.value c.loop-i-test.false)

pub returns-after-loop-i-clause-octets : goal.returns-after-loop-i-clause-octets
returns-after-loop-i-clause-octets g t c =
    list_octets _ _ _ _ c.in-List.is c.deref-member-items.ensures.value c.loop-i-test.false c.loop-i.invariant.1
