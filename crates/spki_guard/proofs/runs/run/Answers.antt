use Rattle.std.proofs.Common.{◌∙◌}
use Rattle.metered_io.specs.MeteredCalls.{inner_of, ended_of}
use Rattle.spki_guard.specs.{declared.answers.Verdict.TheVariants.{Done, No}, TextAnswers.{IsReply}}
use Rattle.spki_guard.proofs.Sending.{sends_written, sends_cut, sends_faultless, sends_no_read_fault, sends_ended}
use Rattle.spki_guard.proofs.runs.run.Goals as goal

pub returns-in-Some-clause-ended_at_done : goal.returns-in-Some-clause-ended_at_done
returns-in-Some-clause-ended_at_done g c e =
    sends_ended g.W.Write.contents _ _ _ _ _ _ _ (c.send_read.ensures _ _ _ c.in-Some.ensures.read) Done e (λ refused. cc)

pub returns-in-Some-clause-ended_at_no : goal.returns-in-Some-clause-ended_at_no
returns-in-Some-clause-ended_at_no g c e =
    sends_ended g.W.Write.contents _ _ _ _ _ _ _ (c.send_read.ensures _ _ _ c.in-Some.ensures.read) No e (λ refused. cc)

pub returns-in-Some-clause-read_fault : goal.returns-in-Some-clause-read_fault
returns-in-Some-clause-read_fault g c e =
    let reply = IsReply c.args.command (g.R.Read.remaining (inner_of c.args.reader.now)) (g.R.Read.remaining (inner_of c.read_text.new.reader))
    (ended_of c.read_text.new.reader) in
    let sent = c.send_read.ensures _ _ _ (rw c.restart.ensures.inner at c.in-Some.ensures.read) in
    absurd (sends_no_read_fault g.W.Write.contents reply c.args.writer.now c.restart-2.new.self c.send_read.new.writer c.send_read.result
    c.restart-2.ensures.inner sent e)

pub returns-in-Some-clause-unwritten : goal.returns-in-Some-clause-unwritten
returns-in-Some-clause-unwritten g c e =
    let reply = IsReply c.args.command (g.R.Read.remaining (inner_of c.args.reader.now)) (g.R.Read.remaining (inner_of c.read_text.new.reader))
    (ended_of c.read_text.new.reader) in
    let sent = c.send_read.ensures _ _ _ (rw c.restart.ensures.inner at c.in-Some.ensures.read) in
    absurd (sends_no_read_fault g.W.Write.contents reply c.args.writer.now c.restart-2.new.self c.send_read.new.writer c.send_read.result
    c.restart-2.ensures.inner sent e)

pub returns-in-Some-clause-no_write_fault : goal.returns-in-Some-clause-no_write_fault
returns-in-Some-clause-no_write_fault g c =
    let reply = IsReply c.args.command (g.R.Read.remaining (inner_of c.args.reader.now)) (g.R.Read.remaining (inner_of c.read_text.new.reader))
    (ended_of c.read_text.new.reader) in
    let sent = c.send_read.ensures _ _ _ (rw c.restart.ensures.inner at c.in-Some.ensures.read) in
    rw c.restart-2.ensures.faults at (sends_faultless g.W.Write.contents reply c.args.writer.now c.restart-2.new.self c.send_read.new.writer c.send_read.result
    c.restart-2.ensures.inner sent)

pub returns-in-Some-clause-written : goal.returns-in-Some-clause-written
returns-in-Some-clause-written g c v e =
    let reply = IsReply c.args.command (g.R.Read.remaining (inner_of c.args.reader.now)) (g.R.Read.remaining (inner_of c.read_text.new.reader))
    (ended_of c.read_text.new.reader) in
    let sent = c.send_read.ensures _ _ _ (rw c.restart.ensures.inner at c.in-Some.ensures.read) in
    sends_written g.W.Write.contents reply c.args.writer.now c.restart-2.new.self c.send_read.new.writer c.send_read.result
    c.restart-2.ensures.inner sent v e

pub returns-in-Some-clause-write_fault : goal.returns-in-Some-clause-write_fault
returns-in-Some-clause-write_fault g c e =
    let reply = IsReply c.args.command (g.R.Read.remaining (inner_of c.args.reader.now)) (g.R.Read.remaining (inner_of c.read_text.new.reader))
    (ended_of c.read_text.new.reader) in
    let sent = c.send_read.ensures _ _ _ (rw c.restart.ensures.inner at c.in-Some.ensures.read) in
    sends_cut g.W.Write.contents reply c.args.writer.now c.restart-2.new.self c.send_read.new.writer c.send_read.result
    c.restart-2.ensures.inner sent e

pub returns-in-Some-clause-reset : goal.returns-in-Some-clause-reset
returns-in-Some-clause-reset g c =
    let sent = c.send_read.ensures _ _ _ c.in-Some.ensures.read in
    (c.read_text.ensures.earlier ∙ c.restart.ensures.earlier, sent.earlier ∙ c.restart-2.ensures.earlier)

pub returns-in-Some-clause-unflushed : goal.returns-in-Some-clause-unflushed
returns-in-Some-clause-unflushed g c e =
    let sent = c.send_read.ensures _ _ _ c.in-Some.ensures.read in
    sent.unflushed e c.restart-2.ensures.flushed
