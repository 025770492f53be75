use Rattle.std.proofs.Common.{refl}
use Rattle.sexpr_text.proofs.Printed.{in_three}
use Rattle.spki_guard.proofs.PrintedFives.{issuer_whole}
use Rattle.spki_guard.proofs.printer.print_issuer.Goals as goal

pub returns-in-Key : goal.returns-in-Key
returns-in-Key g c =
    let (key, is, printed) = c.print_key.ensures in
    rw c.in-Key.is
    (_, (key, is, refl), in_three g.S.Sink.takes g.met.S.Sink.both _ c.put.ensures printed c.put_octet.ensures (issuer_whole key))
