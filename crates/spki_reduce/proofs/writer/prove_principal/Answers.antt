use Rattle.std.proofs.Common.{[], ◌∷◌, codes, refl}
use Rattle.sexpr_core.specs.Value.{plain}
use Rattle.spki_cert.specs.Readings.{alg_name}
use Rattle.spki_reduce.specs.Written.{headed}
use Rattle.spki_reduce.proofs.writer.prove_principal.Goals as goal

pub returns-in_default : goal.returns-in_default
returns-in_default c =
    (headed (codes "hash") (plain (alg_name c.in_default.field-0) ∷ plain c.in_default.field-1 ∷ []), rw c.in_default.is refl)
