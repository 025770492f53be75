use Rattle.spki_decision.specs.Until.{decision_of}
use Rattle.spki_guard.{specs.TextAnswers.{IsLineOf}, proofs.Sending.{printed_as}}
use Rattle.spki_guard.proofs.opened_answers.print_grant.Goals as goal

pub returns : goal.returns
returns c =
    printed_as (IsLineOf (decision_of c.args.grant.now)) c.answer_of_decision.result (rw c.decision.ensures at c.answer_of_decision.ensures) _ _
    c.of.ensures
