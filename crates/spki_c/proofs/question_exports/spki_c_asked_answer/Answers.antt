use Rattle.std.proofs.Common.{◌≡◌, rules, arith, w64, FitsSigned, to_z-of_z, sym, ap, subst}
use Rattle.spki_service.specs.{GuardQuestions.{IsOpened}, declared.owned_question.OwnedQuestion.{OwnedQuestion}}
use Rattle.spki_guard.specs.TextAnswers.{written_by}
use Rattle.spki_c.{specs.Until.{IsHeldUntil}, proofs.{Answering.{answered}, Until.{held_until}}}
use Rattle.spki_c.proofs.question_exports.spki_c_asked_answer.Goals as goal

pub returns-clause-answered : goal.returns-clause-answered
returns-clause-answered c o w q held e opened =
    let found = c.in-Some-question.opened.now in
    let same : found ≡ o = search rules in
    let here = subst (λ (p : OwnedQuestion). IsOpened p.guard q p) (sym same) opened in
    let answer = c.answer_opened-answer.result.answer in
    answered w c.in-Some.query c.args.query e c.in-Some.ensures
    o.guard found.guard q o.marks.items found.marks.items
    answer.verdict (written_by answer) c.args.buffer.now c.hand_over-status.new.buffer c.hand_over-status.new.needed c.hand_over-status.result
    c.query_status-answered.result
    (ap (λ (p : OwnedQuestion). p.guard) same) (ap (λ (p : OwnedQuestion). p.marks.items) same) (c.answer_opened-answer.ensures.answer q here)
    c.query_status-answered.ensures c.hand_over-status.ensures

pub returns-clause-until : goal.returns-clause-until
returns-clause-until c o q held opened nine =
    let found = c.in-Some-question.opened.now in
    let same : found ≡ o = search rules in
    let here = subst (λ (p : OwnedQuestion). IsOpened p.guard q p) (sym same) opened in
    let value : IsHeldUntil o.guard q o.marks.items c.until_number.result =
    subst (λ (p : OwnedQuestion). IsHeldUntil p.guard q p.marks.items c.until_number.result) same
    (held_until c.in-Some.query found q c.answer_opened-answer.result.answer.verdict c.answer_opened-answer.result.grant c.until_number.result
    c.args.buffer.now c.hand_over-status.new.buffer c.hand_over-status.new.needed c.hand_over-status.result c.query_status-answered.result
    (written_by c.answer_opened-answer.result.answer)
    (c.answer_opened-answer.ensures.grant q here) c.query_status-answered.ensures c.hand_over-status.ensures nine c.until_number.ensures.yes) in
    let fits : FitsSigned w64 c.until_number.result = first_of (search rules, omega arith, omega (arith, c.until_number.type_inv)) in
    simp to_z-of_z value
