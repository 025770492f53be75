use Rattle.std.proofs.Common.{refl}
use Rattle.sexpr_text.proofs.Printed.{in_three}
use Rattle.spki_guard.proofs.PrintedFives.{date_whole}
use Rattle.spki_guard.proofs.printer.print_date.Goals as goal

pub returns-in-Some : goal.returns-in-Some
returns-in-Some g c =
    let takes = g.S.Sink.takes in
    let both = g.met.S.Sink.both in
    let word = in_three takes both _ c.put.ensures c.print_octets.ensures.printed c.put_octet.ensures refl in
    rw c.in-Some.is
    (in_three takes both _ word (rw c.as_slice.ensures at c.print_octets-in-Some.ensures.printed) c.put_octet-in-Some.ensures (date_whole _ _))
