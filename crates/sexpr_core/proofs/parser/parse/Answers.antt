use Rattle.sexpr_core.proofs.Refusals.{trailing, only_memory}
use Rattle.sexpr_core.proofs.parser.parse.Goals as goal

pub returns-then-end-text-clause-only : goal.returns-then-end-text-clause-only
returns-then-end-text-clause-only c = λ v w e. only_memory _ _ v w e (trailing _ _ _ _ c.in_ok-end.ensures c.if-end-text.true)
