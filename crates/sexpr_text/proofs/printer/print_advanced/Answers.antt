use Rattle.std.proofs.Common.{sym, subst, rules}
use Rattle.sexpr_core.specs.Value.{sexp_value}
use Rattle.sexpr_text.specs.AdvancedForm.{Spells}
use Rattle.sexpr_text.proofs.Printed.{printed_spelled}
use Rattle.sexpr_text.proofs.printer.print_advanced.Goals as goal

pub returns-clause-printed : goal.returns-clause-printed
returns-clause-printed c = search rules

pub returns-clause-spells : goal.returns-clause-spells
returns-clause-spells c =
    let v = sexp_value c.args.tree.now in
    subst (λ t. Spells t v) (sym (returns-clause-printed c)) (printed_spelled v c.print_tree.ensures.octets)
