use Rattle.sexpr_text.proofs.Printed.{in_three}
use Rattle.spki_guard.proofs.ReportLines.{fold_whole}
use Rattle.spki_guard.proofs.reports.print_done.Goals as goal

pub returns : goal.returns
returns g c =
    let (v, is, printed) = c.print_five.ensures in
    (v, is, in_three g.S.Sink.takes g.met.S.Sink.both _ c.print_entry.ensures printed c.put_octet.ensures (fold_whole c.args.entry _))
