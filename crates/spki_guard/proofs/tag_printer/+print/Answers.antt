use Rattle.std.proofs.Common.{refl, arith, rules}
use Rattle.spki_tag.proofs.Members.{nodes_le-of_read}
use Rattle.sexpr_text.proofs.Printed.{in_two, in_three}
use Rattle.spki_guard.proofs.PrintedTags.{star_whole, member_behind, list_whole, set_whole}
use Rattle.spki_guard.proofs.tag_printer.+print.Goals as goal

pub print_each-print_tag-requires : goal.print_each-print_tag-requires
print_each-print_tag-requires g t c κs within =
    (omega (arith, c.decreases, nodes_le-of_read c.args.members.now c.loop-member.member-index c.member-item.result c.loop-member-test.true c.member-item.is), within)

pub print_each-loop-member-preserved : goal.print_each-loop-member-preserved
print_each-loop-member-preserved g t c =
    in_three g.S.Sink.takes g.met.S.Sink.both _ c.loop-member.invariant c.put_octet.ensures c.print_tag.ensures
    (member_behind c.args.members.now c.loop-member.member-index c.member-item.result c.loop-member-test.true c.member-item.is)

pub print_tag-returns-in-Everything : goal.print_tag-returns-in-Everything
print_tag-returns-in-Everything g t c = search (rules, star_whole)

pub print_tag-returns-in-List : goal.print_tag-returns-in-List
print_tag-returns-in-List g t c =
    let takes = g.S.Sink.takes in
    let both = g.met.S.Sink.both in
    in_two takes both _ (in_three takes both _ c.put_octet.ensures c.print_octets-in-List.ensures.printed c.print_each.ensures refl)
    c.put_octet-in-List.ensures (list_whole c.args.tag.now c.in-List.head.now c.in-List.further.now c.in-List.ensures)

pub print_tag-returns-in-Set : goal.print_tag-returns-in-Set
print_tag-returns-in-Set g t c =
    in_three g.S.Sink.takes g.met.S.Sink.both _ c.put-in-Set.ensures c.print_each-in-Set.ensures c.put_octet-in-Set.ensures
    (set_whole c.args.tag.now c.in-Set.members.now c.in-Set.ensures)
