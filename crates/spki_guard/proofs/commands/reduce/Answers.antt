use Rattle.std.proofs.Common.{refl, ap, Err}
use Rattle.sexpr_core.specs.Value.{canon}
use Rattle.spki_case.specs.View.{model}
use Rattle.spki_words.specs.declared.commands.Command.TheVariants.{Reduce}
use Rattle.spki_guard.proofs.AnswerLaws.{err_lifted, undecided}
use Rattle.spki_guard.proofs.commands.reduce.Goals as goal

pub returns-clause-answered : goal.returns-clause-answered
returns-clause-answered c text is =
    let exact = rw c.accepted.ensures at c.in_ok-reduction.ensures.exact in
    λ output printed. record {
      case_read = model c.args.case.now;
      text_is = is;
      reduction = c.in_ok-reduction.reduction;
      reduction_is = exact;
      dated = c.in_ok-reduction.ensures.dated;
      end = c.in_ok-reduction.ensures.end;
      lines = c.answer_of_reduction.ensures output printed;
    }

pub returns-in_err-reduction-clause-refused : goal.returns-in_err-reduction-clause-refused
returns-in_err-reduction-clause-refused c v e =
    let large = rw c.accepted.ensures at c.in_err-reduction.ensures.too_large in
    let from = c.from_residual.ensures in
    err_lifted c.from_residual.result _ _ from.1
    (λ outer h. undecided Reduce v (canon v) (model c.args.case.now) c.in_err-reduction.field-0.0 outer refl e
    (λ is. large (ap Err is)) h)
