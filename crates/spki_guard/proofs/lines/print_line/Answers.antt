use Rattle.std.proofs.{Common.{◌≡◌, take, arith}, lemmas.Grind.{common_steps}}
use Rattle.sexpr_text.proofs.Printed.{in_three}
use Rattle.spki_guard.proofs.ReportLines.{spaced, spaced_more}
use Rattle.spki_guard.proofs.lines.print_line.Goals as goal

pub loop-word-preserved : goal.loop-word-preserved
loop-word-preserved g c =
    in_three g.S.Sink.takes g.met.S.Sink.both _ c.loop-word.invariant c.put_octet.ensures
    (rw c.as_bytes-in-loop-word.ensures.value at c.put-in-loop-word.ensures)
    (spaced_more (λ w. w.now) c.args.words.now c.loop-word.word-index _ c.loop-word-test.true)

pub returns : goal.returns
returns g c =
    let whole : take c.loop-word.word-index c.args.words.now ≡ c.args.words.now = grind (arith, common_steps) in
    in_three g.S.Sink.takes g.met.S.Sink.both _ (rw c.as_bytes.ensures.value at c.put.ensures) (rw whole at c.loop-word.invariant) c.put_octet-2.ensures
    (spaced (λ w. w.now) c.args.first.now c.args.words.now)
