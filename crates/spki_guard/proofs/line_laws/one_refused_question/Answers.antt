use Rattle.spki_guard.proofs.HeldAnswers.{unread_one}
use Rattle.spki_guard.proofs.line_laws.one_refused_question.Goals as goal

pub returns : goal.returns
returns c = unread_one
