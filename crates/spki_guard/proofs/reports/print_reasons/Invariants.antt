-- The lines so far.
use Rattle.std.proofs.Common.{take}
use Rattle.spki_guard.specs.Lines.{reason_lines}
use Rattle.spki_guard.proofs.reports.print_reasons.Given as goal

abbrev pub invariant-loop-index : goal.invariant-loop-index
invariant-loop-index g l = g.S.Sink.takes l.initial.sink (reason_lines 1 (take l.index l.reasons)) l.sink
