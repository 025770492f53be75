use Rattle.sexpr_text.proofs.Printed.{in_three}
use Rattle.spki_guard.proofs.PrintedFives.{tag_whole}
use Rattle.spki_guard.proofs.printer.print_tag_part.Goals as goal

pub returns : goal.returns
returns g c =
    in_three g.S.Sink.takes g.met.S.Sink.both _ c.put.ensures c.print_tag.ensures c.put_octet.ensures (tag_whole c.args.tag.now)
