use Rattle.spki_guard.proofs.Sending.{refusal_answers}
use Rattle.spki_guard.proofs.commands.answer_source.Goals as goal

pub returns-in-Err-try_answer-clause-answer : goal.returns-in-Err-try_answer-clause-answer
returns-in-Err-try_answer-clause-answer c text read refused =
    refusal_answers c.args.command text c.in-Err-try_answer.refusal (c.in-Err-try_answer.ensures.refused text (rw c.in-Ok.is at read))
