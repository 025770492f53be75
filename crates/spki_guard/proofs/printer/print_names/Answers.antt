use Rattle.sexpr_text.proofs.Printed.{in_three}
use Rattle.spki_guard.proofs.PrintedFives.{name_behind}
use Rattle.spki_guard.proofs.printer.print_names.Goals as goal

pub loop-index-init : goal.loop-index-init
loop-index-init g c = g.met.S.Sink.nothing _

pub loop-index-preserved : goal.loop-index-preserved
loop-index-preserved g c =
    in_three g.S.Sink.takes g.met.S.Sink.both _ c.loop-index.invariant c.put_octet.ensures c.print_octets.ensures.printed
    (name_behind c.args.names.now c.loop-index.index c.at.result.now _ c.at.ensures c.as_slice.ensures)
