use Rattle.spki_reduce.proofs.Uniqueness.{one_fold}
use Rattle.spki_reduce.proofs.laws.one_fold.Goals as goal

pub returns : goal.returns
returns c = one_fold
