use Rattle.spki_guard.proofs.Sending.{cut_at_flush}
use Rattle.std.proofs.Common.{rules}
use Rattle.spki_guard.proofs.pages.PageSink.end.Goals as goal

pub returns-clause-err : goal.returns-clause-err
returns-clause-err g c = search (rules, cut_at_flush)
