use Rattle.std.proofs.Common.{◌≡◌, ◌+◌, drop}
use Rattle.spki_tag.specs.Tag.{tags, nodes_all}
use Rattle.spki_tag.proofs.tag.nodes_of.Given as goal

abbrev pub invariant-loop-member : goal.invariant-loop-member
invariant-loop-member l = l.sum + nodes_all (tags (drop l.member-index l.members)) ≡ nodes_all (tags l.members)
