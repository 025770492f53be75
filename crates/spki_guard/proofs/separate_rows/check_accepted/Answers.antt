use Rattle.spki_guard.proofs.Sending.{printed_apart, printed_long}
use Rattle.spki_guard.proofs.separate_rows.check_accepted.Goals as goal

pub returns-clause-answer : goal.returns-clause-answer
returns-clause-answer c =
    printed_apart c.args.text.now c.args.rows.now c.answer_apart.result c.answer_apart.ensures.answer _ _ c.of.ensures

pub returns-clause-too_long : goal.returns-clause-too_long
returns-clause-too_long c long = printed_long c.answer_apart.result _ _ (c.answer_apart.ensures.too_long long) c.of.ensures
