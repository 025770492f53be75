use Rattle.spki_guard.proofs.HeldAnswers.{answer_one}
use Rattle.spki_guard.proofs.line_laws.one_answer_held.Goals as goal

pub returns : goal.returns
returns c = answer_one
