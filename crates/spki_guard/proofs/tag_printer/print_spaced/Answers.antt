use Rattle.sexpr_text.proofs.Printed.{in_two}
use Rattle.spki_guard.proofs.PrintedTags.{word_whole}
use Rattle.spki_guard.proofs.tag_printer.print_spaced.Goals as goal

pub returns : goal.returns
returns g c = in_two g.S.Sink.takes g.met.S.Sink.both _ c.put_octet.ensures c.print_octets.ensures.printed (word_whole c.args.octets.now)
