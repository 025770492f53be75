use Rattle.std.proofs.Common.{arith}
use Rattle.spki_tag.proofs.MeetSizes.{nodes-some}
use Rattle.spki_decision.proofs.sizes.nodes_in.Goals as goal

pub returns-in-Auth-clause-some : goal.returns-in-Auth-clause-some
returns-in-Auth-clause-some c = omega (arith, nodes-some c.in-Auth.five.tag, c.nodes.ensures.count)
