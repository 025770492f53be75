-- How the octets of a string are represented.
use Rattle.std.specs.{Prelude.{ℕ, List, [], ◌∷◌}, Arc.{arc_slice_items}}
use Rattle.spki_tag.specs.declared.string_octets.Held.{Held, TheVariants.{Nothing, One, Shared}}

-- the octets that are kept in the tag or shared
abbrev pub octets_of : Held → List ℕ
octets_of Nothing = []
octets_of (One octet) = octet ∷ []
octets_of (Shared octets) = arc_slice_items octets
