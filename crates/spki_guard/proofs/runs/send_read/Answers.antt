use Rattle.spki_guard.proofs.Sending.{sends_also, unread_reply}
use Rattle.spki_guard.proofs.runs.send_read.Goals as goal

pub returns-in-Err : goal.returns-in-Err
returns-in-Err g c known left ended read =
    sends_also g.W.Write.contents _ _ _ _ _ (unread_reply c.args.command known left ended c.in-Err.refusal (rw c.in-Err.is at read)) c.send.ensures
