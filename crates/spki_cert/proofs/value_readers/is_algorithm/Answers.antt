use Rattle.std.proofs.Common.{◌∷◌}
use Rattle.sexpr_core.specs.Value.{plain}
use Rattle.spki_cert.proofs.value_readers.is_algorithm.Goals as goal

pub returns-in_default : goal.returns-in_default
returns-in_default c = λ a. c.in_default.ensures (plain a.0 ∷ a.1) a.2
