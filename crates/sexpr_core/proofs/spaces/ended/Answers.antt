use Rattle.sexpr_core.proofs.Spans.{spaces_all}
use Rattle.sexpr_core.proofs.spaces.ended.Goals as goal

pub returns-then-end-text-clause-only : goal.returns-then-end-text-clause-only
returns-then-end-text-clause-only c = λ h. absurd (spaces_all _ _ _ c.skip_spaces-end.ensures h c.if-end-text.true)
