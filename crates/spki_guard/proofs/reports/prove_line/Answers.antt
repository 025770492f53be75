use Rattle.std.proofs.Common.{[], ◌∷◌, refl}
use Rattle.sexpr_text.specs.AdvancedForm.{adv}
use Rattle.spki_guard.specs.Lines.{entry_line, stopped_line}
use Rattle.spki_guard.proofs.reports.prove_line.Goals as goal

pub returns-in-Done : goal.returns-in-Done
returns-in-Done c = let (v, written) = c.prove_writable.ensures in (entry_line c.args.entry (adv v ∷ []), rw c.in-Done.is (v, written, refl))

pub returns-in-Stopped : goal.returns-in-Stopped
returns-in-Stopped c = (stopped_line c.args.entry c.in-Stopped.item c.in-Stopped.cause, rw c.in-Stopped.is refl)
