use Rattle.spki_decision.specs.Until.{decision_of}
use Rattle.spki_service.proofs.AnswerLaws.{some_yes}
use Rattle.spki_service.proofs.prepared_question.PreparedQuestion.is_possible.Goals as goal

pub returns-in-Ok : goal.returns-in-Ok
returns-in-Ok c = record {
  decision = decision_of c.in-Ok.grant;
  decides = c.in-Ok.ensures.0;
  answer = some_yes c.in-Ok.grant c.is_some.result c.is_some.ensures;
}
