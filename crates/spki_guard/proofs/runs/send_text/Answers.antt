use Rattle.spki_guard.proofs.Sending.{sends_also, printed_answers}
use Rattle.spki_guard.proofs.runs.send_text.Goals as goal

pub returns : goal.returns
returns g c =
    sends_also g.W.Write.contents _ _ _ _ _
    (printed_answers c.args.command c.args.text.now c.answer_source-answer.result
    (c.answer_source-answer.ensures.answer c.args.text.now c.source_of-source.ensures.read c.source_of-source.ensures.refused))
    c.send-status.ensures
