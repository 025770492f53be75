use Rattle.sexpr_text.proofs.Printed.{in_three}
use Rattle.spki_guard.proofs.PrintedTags.{prefix_whole}
use Rattle.spki_guard.proofs.tag_printer.print_prefix.Goals as goal

pub returns : goal.returns
returns g c =
    in_three g.S.Sink.takes g.met.S.Sink.both _ c.put.ensures c.print_octets.ensures.printed c.put_octet.ensures (prefix_whole c.args.octets.now)
