-- How a tag without members is represented.
use Rattle.std.specs.{Prelude.{Option, Some, None}, Arc.{arc_value}}
use Rattle.spki_tag.specs.{declared.{range.Range.{Range}, leaf.Leaf.{Leaf}}, Limits.{ordering_of, limit_of}, Meet.{nothing}}
use Rattle.spki_tag.specs.Tag.{Tag, star, string, prefix, range}
use Rattle.spki_tag.specs.declared.leaf.Leaf.TheVariants as leaves

-- the tag that a range of the code represents
abbrev pub range_tag : Range → Tag
range_tag r = range (ordering_of r.ordering) (limit_of r.low) (limit_of r.up)

-- a range, or (* set)
abbrev pub range_or_nothing : Option Range → Tag
range_or_nothing None = nothing
range_or_nothing (Some r) = range_tag r

-- the tag that a tag without members of the code represents
abbrev pub leaf_tag : Leaf → Tag
leaf_tag leaves.Star = star
leaf_tag (leaves.String octets) = string octets
leaf_tag (leaves.Prefix octets) = prefix octets
leaf_tag (leaves.Range r) = range_tag (arc_value r)

-- a tag without members, or (* set)
abbrev pub leaf_or_nothing : Option Leaf → Tag
leaf_or_nothing None = nothing
leaf_or_nothing (Some leaf) = leaf_tag leaf
