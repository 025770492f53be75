use Rattle.std.proofs.Common.{◌≡◌, ◌+◌, ◌*◌, ◌++◌, map, take}
use Rattle.sexpr_core.specs.Value.{sexp_value}
use Rattle.spki_tag.specs.Tag.{tags, tag_value, nodes, nodes_all}
use Rattle.spki_tag.proofs.+write.Given as goal

abbrev pub decreases-tag::Tag::write : goal.decreases-tag::Tag::write
decreases-tag::Tag::write l = 2 * nodes l.self.now

abbrev pub decreases-writer::push_each : goal.decreases-writer::push_each
decreases-writer::push_each l = 2 * nodes_all (tags l.members.now) + 1

abbrev pub invariant-writer::push_each-loop-member : goal.invariant-writer::push_each-loop-member
invariant-writer::push_each-loop-member l = map sexp_value l.out.items ≡ map sexp_value l.fn.out.items ++ map tag_value (take l.member-index l.members)
