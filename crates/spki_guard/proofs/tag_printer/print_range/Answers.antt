use Rattle.std.proofs.Common.{refl}
use Rattle.sexpr_text.proofs.Printed.{in_three}
use Rattle.spki_guard.proofs.PrintedTags.{range_whole}
use Rattle.spki_guard.proofs.tag_printer.print_range.Goals as goal

pub returns : goal.returns
returns g c =
    let takes = g.S.Sink.takes in
    let both = g.met.S.Sink.both in
    in_three takes both _
    (in_three takes both _ c.put.ensures (rw c.ordering_name.ensures at c.print_octets.ensures.printed) c.print_limit.ensures refl)
    c.print_limit-2.ensures c.put_octet.ensures (range_whole _ _ _)
