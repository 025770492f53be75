use Rattle.std.proofs.Common.{◌∙◌}
use Rattle.spki_guard.proofs.AnswerLaws.{answered_by, err_by}
use Rattle.spki_guard.proofs.commands.try_answer.Goals as goal

pub answer_octets-requires : goal.answer_octets-requires
answer_octets-requires c = let read = rw c.in-Converted.is at c.requires.1 in read.0

pub returns-in-Case-clause-answered : goal.returns-in-Case-clause-answered
returns-in-Case-clause-answered c text is = let read = rw c.in-Case.is at is in rw read.0 (c.answer_query.ensures.answered text read.1)

pub returns-in-Case-clause-refused : goal.returns-in-Case-clause-refused
returns-in-Case-clause-refused c text is = let read = rw c.in-Case.is at is in rw read.0 (c.answer_query.ensures.refused text read.1)

pub returns-in-Converted-clause-answered : goal.returns-in-Converted-clause-answered
returns-in-Converted-clause-answered c text is =
    let (off, v, t, e) = rw c.in-Converted.is at is in
    answered_by c.args.command text v c.answer_octets.result t (c.answer_octets.ensures.answered v (c.deref.ensures.value ∙ e))

pub returns-in-Converted-clause-refused : goal.returns-in-Converted-clause-refused
returns-in-Converted-clause-refused c text is =
    let (off, v, t, e) = rw c.in-Converted.is at is in
    err_by c.args.command text v c.answer_octets.result t (c.answer_octets.ensures.refused v (c.deref.ensures.value ∙ e))
