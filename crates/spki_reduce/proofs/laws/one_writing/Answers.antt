use Rattle.spki_reduce.proofs.Uniqueness.{written_one}
use Rattle.spki_reduce.proofs.laws.one_writing.Goals as goal

pub returns : goal.returns
returns c = written_one
