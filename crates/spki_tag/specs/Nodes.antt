-- How a node of a tag is represented.
use Rattle.std.specs.{Prelude.{◌≡◌, List, [], Option, Some, None}, Arc.{arc_slice_items}}
use Rattle.std.specs.declared.sync.ArcSlice.{ArcSlice}
use Rattle.spki_tag.specs.{declared.tag.Node.{Node, TheVariants.{Leaf, List as Group, Set}}, Tag.{Tag, tags, list, set, nodes}, Leaves.{leaf_tag}}

-- the members that copies share
abbrev pub shared_items : {Z : Type 0} → Option (ArcSlice Tag Z) → List Tag
shared_items None = []
shared_items (Some members) = arc_slice_items members

-- the tag that a node of the code represents
abbrev pub node_tag : Node → Tag
node_tag (Leaf leaf) = leaf_tag leaf
node_tag (Group head further count) = list (arc_slice_items head) (tags (shared_items further))
node_tag (Set members count) = set (tags (shared_items members))

-- the number beside the members is the number of nodes of this node
abbrev pub IsCounted : Node → Type 0
IsCounted (Leaf leaf) = Unit {0}
IsCounted (Group head further count) = count ≡ nodes (list (arc_slice_items head) (tags (shared_items further)))
IsCounted (Set members count) = count ≡ nodes (set (tags (shared_items members)))
