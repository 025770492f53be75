use Rattle.spki_decision.proofs.Until.{until_of}
use Rattle.spki_decision.proofs.chain_requirement.ChainRequirement.until.Goals as goal

pub returns : goal.returns
returns c tuples k is has supported =
    until_of k tuples c.args.self.now c.args.entry.now c.earlier_end.result c.earlier_end.ensures is has supported
