use Rattle.spki_case.{specs.Case.{part_values}, proofs.Building.{lifted}}
use Rattle.spki_case.proofs.parts.parts_of.Goals as goal

pub returns-in_err-headed : goal.returns-in_err-headed
returns-in_err-headed c = rw c.from_residual.ensures (λ p e. c.in_err-headed.ensures (part_values p) e)

pub returns : goal.returns
returns c = lifted _ _ c.parts_in.result c.in_ok-headed.ensures c.parts_in.ensures
