use Rattle.sexpr_text.proofs.Printed.{in_two}
use Rattle.spki_guard.proofs.PrintedTags.{limit_whole}
use Rattle.spki_guard.proofs.tag_printer.print_limit.Goals as goal

pub returns-in-Some : goal.returns-in-Some
returns-in-Some g c =
    rw c.in-Some.is (in_two g.S.Sink.takes g.met.S.Sink.both _ c.print_limit_word.ensures c.print_spaced.ensures (limit_whole _ _))
