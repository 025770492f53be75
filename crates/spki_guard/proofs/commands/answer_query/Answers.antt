use Rattle.std.proofs.Common.{refl}
use Rattle.spki_guard.{specs.Inner.Prints.{command_of}, proofs.AnswerLaws.{answered_by, err_by, err_lifted, on_case}}
use Rattle.spki_guard.proofs.commands.answer_query.Goals as goal

pub returns-clause-answered : goal.returns-clause-answered
returns-clause-answered c given r =
    let t = c.in_ok-case.ensures.read given r in
    answered_by (command_of c.args.query) given t.value c.answer_case-answer.result t.read (c.answer_case-answer.ensures.answered t.value t.is_case)

pub returns-clause-refused : goal.returns-clause-refused
returns-clause-refused c given r =
    let t = c.in_ok-case.ensures.read given r in
    err_by (command_of c.args.query) given t.value c.answer_case-answer.result t.read (c.answer_case-answer.ensures.refused t.value t.is_case)

pub returns-in_err-case-clause-refused : goal.returns-in_err-case-clause-refused
returns-in_err-case-clause-refused c given r = err_lifted c.from_residual.result _ _ c.from_residual.ensures.1 (λ outer is.
    rw is ((c.in_err-case.ensures.refused given r).0 (command_of c.args.query) (on_case (command_of c.args.query) c.args.query refl)))
