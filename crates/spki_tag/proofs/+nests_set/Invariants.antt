use Rattle.std.proofs.Common.{◌≡◌, ◌+◌, ◌*◌, drop}
use Rattle.spki_tag.specs.Tag.{tags, some_nests_set, nodes, nodes_all}
use Rattle.spki_tag.proofs.+nests_set.Given as goal

abbrev pub invariant-sets::some_nests_set-loop-member : goal.invariant-sets::some_nests_set-loop-member
invariant-sets::some_nests_set-loop-member l = some_nests_set (tags (drop l.member-index l.members)) ≡ some_nests_set (tags l.members)

abbrev pub decreases-tag::Tag::nests_set : goal.decreases-tag::Tag::nests_set
decreases-tag::Tag::nests_set l = 2 * nodes l.self.now

abbrev pub decreases-sets::some_nests_set : goal.decreases-sets::some_nests_set
decreases-sets::some_nests_set l = 2 * nodes_all (tags l.members.now) + 1
