use Rattle.std.proofs.Common.{refl}
use Rattle.sexpr_text.proofs.Printed.{in_three}
use Rattle.spki_guard.proofs.PrintedFives.{hash_whole}
use Rattle.spki_guard.proofs.printer.print_hash.Goals as goal

pub returns : goal.returns
returns g c =
    let takes = g.S.Sink.takes in
    let both = g.met.S.Sink.both in
    let name = in_three takes both _ c.put.ensures (rw c.name.ensures at c.print_octets.ensures.printed) c.put_octet.ensures refl in
    in_three takes both _ name c.print_octets-2.ensures.printed c.put_octet-2.ensures (hash_whole _ _)
