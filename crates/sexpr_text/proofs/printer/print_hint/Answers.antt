use Rattle.std.proofs.Common.{refl}
use Rattle.sexpr_text.proofs.Printed.{in_three}
use Rattle.sexpr_text.proofs.printer.print_hint.Goals as goal

pub returns-clause-printed : goal.returns-clause-printed
returns-clause-printed g c =
    in_three g.S.Sink.takes g.met.S.Sink.both _ c.put_octet.ensures c.print_octets.ensures.printed c.put_octet-2.ensures refl
