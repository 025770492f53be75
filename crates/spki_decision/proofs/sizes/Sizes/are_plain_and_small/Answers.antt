use Rattle.std.proofs.Common.{sym}
use Rattle.spki_reduce.specs.Chain.{tuples_of}
use Rattle.spki_decision.proofs.EntryChains.{not_plain}
use Rattle.spki_decision.proofs.sizes.Sizes.are_plain_and_small.Goals as goal

pub returns-in-None : goal.returns-in-None
returns-in-None c =
    sym (not_plain c.args.limit c.args.tag.now (tuples_of c.args._steps.now) c.requires.limit (rw c.in-None.is at c.requires.sizes.plain))
