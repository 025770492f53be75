-- Each member has fewer nodes than the tag that contains it.
use Rattle.std.specs.Prelude.{◌+◌, ◌≤◌, max, List, [], ◌∷◌, Some, None}
use Rattle.std.{specs.Arc.{arc_slice_items}, proofs.Common.{arith}}
use Rattle.spki_tag.specs.{declared.tag.{Node.{Node}, Tag.TheDeep.{deep-Node}}, Tag.{Tag, tags, nodes, nodes_all}, Nodes.{node_tag}}
use denote.Param.Weighed.{most}
use Rattle.spki_tag.specs.declared.tag.Node.TheVariants as source

pub most_le-nodes_all : (ts : List Tag) → most (λ t. nodes t + 1) ts ≤ nodes_all (tags ts) + 1
most_le-nodes_all [] = omega arith
most_le-nodes_all (t ∷ ts) = omega (arith, most_le-nodes_all ts)

pub deep_le-nodes : (n : Node) → max (deep-Node n) 0 ≤ nodes (node_tag n)
deep_le-nodes (source.Leaf leaf) = omega arith
deep_le-nodes (source.List head None count) = omega arith
deep_le-nodes (source.List head (Some further) count) = omega (arith, most_le-nodes_all (arc_slice_items further))
deep_le-nodes (source.Set None count) = omega arith
deep_le-nodes (source.Set (Some members) count) = omega (arith, most_le-nodes_all (arc_slice_items members))
