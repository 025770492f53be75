use Rattle.sexpr_text.proofs.Printed.{in_two}
use Rattle.spki_guard.proofs.ReportLines.{reason_behind}
use Rattle.spki_guard.proofs.reports.print_reasons.Goals as goal

pub loop-index-init : goal.loop-index-init
loop-index-init g c = g.met.S.Sink.nothing _

pub loop-index-preserved : goal.loop-index-preserved
loop-index-preserved g c =
    in_two g.S.Sink.takes g.met.S.Sink.both _ c.loop-index.invariant c.print_reason.ensures
    (reason_behind c.args.reasons.now c.loop-index.index _ c.loop-index-test.true)
