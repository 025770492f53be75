-- How an ordering and a limit of a range are represented.
use Rattle.std.specs.{Prelude.{Option, Some, None}, Arc.{arc_slice_items}}
use Rattle.spki_tag.specs.{declared.leaf.RangeOrdering.{RangeOrdering}, Tag.{Limit, Ordering, alpha, time, date}}
use Rattle.spki_tag.specs.declared.leaf.RangeOrdering.TheVariants as orderings
use Rattle.spki_tag.specs.declared.leaf.Limit as source

-- the ordering that an ordering of the code represents
abbrev pub ordering_of : RangeOrdering → Ordering
ordering_of orderings.Alpha = alpha
ordering_of orderings.Time = time
ordering_of orderings.Date = date

-- the limit that a limit of the code represents
abbrev pub limit_of : Option source.Limit → Option Limit
limit_of None = None
limit_of (Some limit) = Some (record { strict = limit.strict; octets = arc_slice_items limit.octets })
