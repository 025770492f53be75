use Rattle.std.proofs.lemmas.Result.{err_from_is_err_and}
use Rattle.http_signature.proofs.Rounds.{closed_round, next_round, refused_round}
use Rattle.http_signature.proofs.input.components_in.Goals as goal

pub returns-in-Some-clause-read : goal.returns-in-Some-clause-read
returns-in-Some-clause-read c =
    closed_round c.loop-count.count c.loop-count.names.items c.loop-count.rest c.args.text.now c.in-Some.behind c.loop-count.invariant c.in-Some.ensures

pub returns-in_err-name-clause-refused : goal.returns-in_err-name-clause-refused
returns-in_err-name-clause-refused c =
    let p = err_from_is_err_and c.from_residual.result c.from_residual.ensures.1 in
    rw (p.1, p.2) (λ _. refused_round c.loop-count.count c.loop-count.names.items c.as_slice.result.now c.loop-count.rest c.args.text.now c.in_err-name.field-0.0 c.loop-count.invariant c.loop-count-test.true
    c.in-None.ensures c.as_slice.ensures.value c.in_err-name.ensures)

pub loop-count-preserved : goal.loop-count-preserved
loop-count-preserved c =
    next_round c.loop-count.count c.loop-count.names.items c.as_slice.result.now c.push.new.self.items c.loop-count.rest c.args.text.now c.in_ok-name.name c.in_ok-name.behind
    c.loop-count.invariant c.loop-count-test.true c.in-None.ensures c.as_slice.ensures.value c.in_ok-name.ensures c.in_ok-push.ensures.items
