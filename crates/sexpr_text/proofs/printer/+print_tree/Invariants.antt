use Rattle.std.proofs.Common.{map, take}
use Rattle.sexpr_core.specs.Value.{values, HaveOctets, sexp_value}
use Rattle.sexpr_text.specs.AdvancedForm.{adv_all}
use Rattle.sexpr_text.proofs.printer.+print_tree.Given as goal

abbrev pub invariant-loop-i : goal.invariant-loop-i
invariant-loop-i g l =
    g.S.Sink.takes l.initial.sink (adv_all 0 (values (map sexp_value (take l.i l.member-items)))) l.sink
    × HaveOctets (values (map sexp_value (take l.i l.member-items)))
