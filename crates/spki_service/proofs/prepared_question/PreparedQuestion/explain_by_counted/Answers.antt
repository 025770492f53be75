use Rattle.std.proofs.{Common.{inr, refl, arith}, lemmas.Result.{IfOk-weaker}}
use Rattle.spki_decision.specs.{CertificateTests.{signed_of}, Answered.{IsExplained}}
use Rattle.spki_service.proofs.AnswerLaws.{marked_whole}
use Rattle.spki_service.proofs.prepared_question.PreparedQuestion.explain_by_counted.Goals as goal

pub returns-in-None-clause-answer : goal.returns-in-None-clause-answer
returns-in-None-clause-answer g c =
    marked_whole IsExplained _ c.args.self.now c.explained_counted.result (rw c.in-None.is at c.unmarked_counted.ensures.answer)
    c.explained_counted.ensures.answer

pub returns-in-None-clause-cost : goal.returns-in-None-clause-cost
returns-in-None-clause-cost g c counted = omega (arith, c.unmarked_counted.ensures.cost, c.explained_counted.ensures.cost counted)

pub returns-in-Some-clause-answer : goal.returns-in-Some-clause-answer
returns-in-Some-clause-answer g c = inr (signed_of c.in-Some.one.now, rw c.in-Some.is at c.unmarked_counted.ensures.answer, refl)

pub returns-in-None-clause-each : goal.returns-in-None-clause-each
returns-in-None-clause-each g c tuples shows all =
    let looked = rw c.in-None.is at c.unmarked_counted.ensures.each in
    IfOk-weaker c.explained_counted.result _ _ (λ _ reads. omega (arith, looked, reads)) (c.explained_counted.ensures.each tuples shows)

pub returns-in-Some-clause-each : goal.returns-in-Some-clause-each
returns-in-Some-clause-each g c tuples shows all =
    let unmarked = rw c.in-Some.is at c.unmarked_counted.ensures.answer in
    absurd (unmarked.not_marked (all unmarked.index _ unmarked.stands))
