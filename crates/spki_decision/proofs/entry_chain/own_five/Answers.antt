use Rattle.spki_reduce.specs.Reduction.{authorization, own}
use Rattle.spki_decision.proofs.entry_chain.own_five.Goals as goal

pub returns : goal.returns
returns c = λ i.
    authorization own (c.in_ok-clone.ensures.cases i) c.args.entry.now.propagate (c.in_ok-clone-2.ensures.cases i) c.args.entry.now.window
