use Rattle.std.proofs.Common.{inl}
use Rattle.spki_guard.proofs.Sending.{refusal_apart}
use Rattle.spki_guard.proofs.separate_rows.answer_apart.Goals as goal

pub returns-in-Ok-clause-answer : goal.returns-in-Ok-clause-answer
returns-in-Ok-clause-answer c printed is = inl (c.in-Ok.ensures.answered printed is)

pub returns-in-Err-clause-answer : goal.returns-in-Err-clause-answer
returns-in-Err-clause-answer c = refusal_apart c.args.text.now c.args.rows.now c.in-Err.refusal c.in-Err.ensures.refused
