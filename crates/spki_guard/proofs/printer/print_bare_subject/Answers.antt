use Rattle.std.proofs.Common.{◌≡◌, false, true, refl, sym, ◌∙◌}
use Rattle.sexpr_text.proofs.Printed.{in_two, in_three}
use Rattle.spki_guard.proofs.PrintedFives.{named_whole}
use Rattle.spki_guard.proofs.printer.print_bare_subject.Goals as goal

pub returns : goal.returns
returns g c =
    let takes = g.S.Sink.takes in
    let both = g.met.S.Sink.both in
    let (owner, is, printed) = c.print_principal-2.ensures in
    let whole =
    named_whole owner c.args.subject.now.names (λ none. let clash : false ≡ true = sym c.if-is_empty.false ∙ c.is_empty.ensures.1 none in cc) in
    (_, (owner, is, refl), in_two takes both _ (in_three takes both _ c.put.ensures printed c.print_names.ensures refl) c.put_octet.ensures whole)
