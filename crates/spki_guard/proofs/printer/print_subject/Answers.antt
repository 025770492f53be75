use Rattle.sexpr_text.proofs.Printed.{in_three}
use Rattle.spki_guard.proofs.PrintedFives.{subject_whole}
use Rattle.spki_guard.proofs.printer.print_subject.Goals as goal

pub returns : goal.returns
returns g c =
    let (s, is, printed) = c.print_bare_subject.ensures in
    (s, is, in_three g.S.Sink.takes g.met.S.Sink.both _ c.put.ensures printed c.put_octet.ensures (subject_whole s))
