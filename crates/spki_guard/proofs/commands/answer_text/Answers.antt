use Rattle.spki_guard.proofs.Sending.{printed_answers, printed_long}
use Rattle.spki_guard.proofs.commands.answer_text.Goals as goal

pub returns-clause-answer : goal.returns-clause-answer
returns-clause-answer c =
    printed_answers c.args.command c.args.text.now c.answer_source-answer.result
    (c.answer_source-answer.ensures.answer c.args.text.now c.source_of-source.ensures.read c.source_of-source.ensures.refused) _ _ c.of-printed.ensures

pub returns-clause-too_long : goal.returns-clause-too_long
returns-clause-too_long c long =
    printed_long c.answer_source-answer.result _ _ (c.answer_source-answer.ensures.refused _ (c.source_of-source.ensures.too_long long))
    c.of-printed.ensures
