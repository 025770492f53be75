use Rattle.std.proofs.Common.{[], ◌∷◌, codes, refl}
use Rattle.spki_reduce.specs.Written.{headed}
use Rattle.spki_reduce.proofs.writer.prove_issuer.Goals as goal

pub returns-in-Key : goal.returns-in-Key
returns-in-Key c =
    let (v, read) = c.prove_well_formed.ensures in
    (headed (codes "issuer") (v ∷ []) ∷ [], rw c.in-Key.is (v, read.canonical, refl))
