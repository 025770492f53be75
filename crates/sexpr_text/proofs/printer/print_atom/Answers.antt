use Rattle.sexpr_text.proofs.Printed.{hinted_whole, in_two}
use Rattle.sexpr_text.proofs.printer.print_atom.Goals as goal

pub returns-in-Some-clause-printed : goal.returns-in-Some-clause-printed
returns-in-Some-clause-printed g c =
    in_two g.S.Sink.takes g.met.S.Sink.both _ c.print_hint.ensures.printed c.print_octets-in-Some.ensures.printed
    (hinted_whole c.args.atom.now c.in-Some.hint _ _ c.in-Some.is c.deref-in-Some.ensures.value c.deref-in-Some-2.ensures.value)
