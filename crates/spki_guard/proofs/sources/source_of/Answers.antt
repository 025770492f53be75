use Rattle.spki_guard.proofs.AnswerLaws.{err_lifted, on_case}
use Rattle.spki_guard.proofs.sources.source_of.Goals as goal

pub returns-in_err-short_text-in-Some-clause-refused : goal.returns-in_err-short_text-in-Some-clause-refused
returns-in_err-short_text-in-Some-clause-refused c = err_lifted c.from_residual.result _ _ c.from_residual.ensures.1 (λ outer is.
    rw is (c.in_err-short_text-in-Some.ensures.refused.0 c.args.command (on_case c.args.command c.in-Some.query c.in-Some.ensures)))
