use Rattle.std.proofs.Common.{◌≡◌, ◌+◌, ◌*◌, take}
use Rattle.spki_tag.specs.Tag.{tags, nodes, nodes_all}
use Rattle.spki_tag.proofs.+same.Given as goal

abbrev pub invariant-equality::all_same-loop-i : goal.invariant-equality::all_same-loop-i
invariant-equality::all_same-loop-i l = take l.i l.ones ≡ take l.i l.others

abbrev pub decreases-tag::Tag::same : goal.decreases-tag::Tag::same
decreases-tag::Tag::same l = 2 * nodes l.self.now

abbrev pub decreases-equality::all_same : goal.decreases-equality::all_same
decreases-equality::all_same l = 2 * nodes_all (tags l.ones.now) + 1
