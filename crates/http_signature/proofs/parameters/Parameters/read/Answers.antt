use Rattle.std.proofs.Common.{sym, ◌∙◌}
use Rattle.std.proofs.lemmas.Result.{err_from_is_err_and}
use Rattle.http_signature.specs.SignatureInput.{no_parameters, parameters_in}
use Rattle.http_signature.proofs.Rounds.{parameter_going, parameter_refusing, parameter_end, last_parameter}
use Rattle.http_signature.proofs.parameters.Parameters.read.Goals as goal

pub returns-in-None : goal.returns-in-None
returns-in-None c =
    c.ended.ensures ∙ sym (parameter_end c.loop-count.count c.loop-count.parameters c.loop-count.rest c.loop-count-test.true (sym c.in-None.ensures)) ∙ c.loop-count.invariant

pub returns-in_err-behind-in-Some : goal.returns-in_err-behind-in-Some
returns-in_err-behind-in-Some c =
    let p = err_from_is_err_and c.from_residual.result c.from_residual.ensures.1 in
    rw (p.1, p.2) (sym (parameter_refusing c.loop-count.count c.loop-count.parameters c.loop-count.rest c.in-Some.text c.in_err-behind-in-Some.field-0.0 c.loop-count-test.true
    (sym c.in-Some.ensures) c.in_err-behind-in-Some.ensures.refused) ∙ c.loop-count.invariant)

pub loop-count-preserved : goal.loop-count-preserved
loop-count-preserved c =
    sym (parameter_going c.loop-count.count c.loop-count.parameters c.next.new.self c.loop-count.rest c.in-Some.text c.in_ok-behind-in-Some.behind c.loop-count-test.true
    (sym c.in-Some.ensures) c.in_ok-behind-in-Some.ensures.read) ∙ c.loop-count.invariant

pub returns : goal.returns
returns c =
    last_parameter c.loop-count.count c.loop-count.parameters c.loop-count.rest (parameters_in 7 no_parameters c.args.text.now) c.loop-count.invariant c.loop-count-test.false
