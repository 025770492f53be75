use Rattle.std.proofs.Common.{sym}
use Rattle.spki_reduce.specs.Chain.{tuples_of}
use Rattle.spki_decision.proofs.EntryChains.{large_product}
use Rattle.spki_decision.proofs.sizes.Sizes.have_small_product.Goals as goal

pub returns-in_default : goal.returns-in_default
returns-in_default c =
    sym (large_product c.args.limit c.args.tag.now (tuples_of c.args._steps.now) c.requires.limit (rw c.in_default.is at c.requires.sizes.counted))
