use Rattle.spki_case.specs.View.{model}
use Rattle.spki_guard.proofs.AnswerLaws.{apart_answered, apart_refused, err_lifted}
use Rattle.spki_guard.proofs.separate_rows.decide_texts.Goals as goal

pub returns-in_err-text-clause-refused : goal.returns-in_err-text-clause-refused
returns-in_err-text-clause-refused c =
    err_lifted c.from_residual.result _ _ c.from_residual.ensures.1 (λ outer is. rw is (c.in_err-text.ensures.refused.1 c.args.rows.now))

pub returns-in_err-case-clause-refused : goal.returns-in_err-case-clause-refused
returns-in_err-case-clause-refused c =
    err_lifted c.from_residual-in_err-case.result _ _ c.from_residual-in_err-case.ensures.1 (λ outer is.
    rw is ((c.in_err-case.ensures.refused c.args.text.now c.in_ok-text.ensures.read).1 c.args.rows.now))

pub returns-clause-answered : goal.returns-clause-answered
returns-clause-answered c =
    apart_answered c.args.text.now c.args.rows.now (model c.in_ok-case.case) c.decide_by_rows.result
    (c.in_ok-case.ensures.read c.args.text.now c.in_ok-text.ensures.read) c.decide_by_rows.ensures.answered

pub returns-clause-refused : goal.returns-clause-refused
returns-clause-refused c =
    apart_refused c.args.text.now c.args.rows.now (model c.in_ok-case.case) c.decide_by_rows.result
    (c.in_ok-case.ensures.read c.args.text.now c.in_ok-text.ensures.read) c.decide_by_rows.ensures.refused
