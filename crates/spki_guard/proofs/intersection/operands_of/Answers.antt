use Rattle.std.proofs.Common.{[], ◌∷◌}
use Rattle.spki_guard.proofs.AnswerLaws.{lifted}
use Rattle.spki_guard.proofs.intersection.operands_of.Goals as goal

pub returns-in_err-headed : goal.returns-in_err-headed
returns-in_err-headed c = rw c.from_residual.ensures (λ a b e. c.in_err-headed.ensures (a ∷ b ∷ []) e)

pub returns : goal.returns
returns c = lifted _ _ c.exactly_two.result c.in_ok-headed.ensures c.exactly_two.ensures
