use Rattle.std.proofs.Common.{[], ◌++◌, refl}
use Rattle.spki_guard.proofs.ReportLines.{lines_more}
use Rattle.spki_guard.proofs.reports.print_folds.Goals as goal

pub loop-index-init : goal.loop-index-init
loop-index-init g c = ([], refl, g.met.S.Sink.nothing _)

pub loop-index-preserved : goal.loop-index-preserved
loop-index-preserved g c =
    let (lines, are, before) = c.loop-index.invariant in
    let (line, is, printed) = c.print_fold.ensures in (
      lines ++ line,
      lines_more c.args.folds.now c.loop-index.index c.index-folds-index.result lines line c.loop-index-test.true c.index-folds-index.is are is,
      g.met.S.Sink.both _ _ _ lines line before printed,
    )
