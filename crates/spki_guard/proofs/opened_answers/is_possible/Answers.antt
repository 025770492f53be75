use Rattle.spki_decision.specs.Until.{decision_of}
use Rattle.spki_guard.proofs.HeldAnswers.{opened_possible}
use Rattle.spki_guard.proofs.opened_answers.is_possible.Goals as goal

pub returns : goal.returns
returns c q opened =
    let kept = opened.kept in
    opened_possible q c.args.opened.now opened kept.read kept.is (decision_of c.args.opened.now.if_valid) c.is_possible.result kept.grant_is.0 c.is_possible.ensures
