use Rattle.spki_reduce.proofs.Derivations.{bracketed, from_left-leaves, supported}
use Rattle.spki_reduce.proofs.laws.any_bracketing.Goals as goal

pub returns : goal.returns
returns c = record { leaves = from_left-leaves; derives = bracketed; supports = supported }
