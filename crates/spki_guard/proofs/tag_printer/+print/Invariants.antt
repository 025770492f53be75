use Rattle.std.proofs.Common.{◌+◌, ◌*◌, take}
use Rattle.sexpr_text.specs.AdvancedForm.{adv_all}
use Rattle.spki_tag.specs.Tag.{tags, tag_values, nodes, nodes_all}
use Rattle.spki_guard.proofs.tag_printer.+print.Given as goal

abbrev pub decreases-print_tag : goal.decreases-print_tag
decreases-print_tag g l = 2 * nodes l.tag.now

abbrev pub decreases-print_each : goal.decreases-print_each
decreases-print_each g l = 2 * nodes_all (tags l.members.now) + 1

abbrev pub invariant-print_each-loop-member : goal.invariant-print_each-loop-member
invariant-print_each-loop-member g l =
    g.S.Sink.takes l.initial.sink (adv_all 1 (tag_values (tags (take l.member-index l.members)))) l.sink
