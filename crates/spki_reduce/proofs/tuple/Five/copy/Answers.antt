use Rattle.spki_reduce.specs.Reduction.{authorization, issuer_of}
use Rattle.spki_reduce.proofs.tuple.Five.copy.Goals as goal

pub returns : goal.returns
returns c = λ i.
    authorization (issuer_of (c.share.ensures i)) (c.in_ok-clone.ensures.cases i) c.args.self.now.propagate (c.in_ok-clone-2.ensures.cases i)
    c.args.self.now.window
