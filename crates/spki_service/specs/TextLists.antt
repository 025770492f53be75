-- Lists of texts in one buffer.
use Rattle.std.specs.{Prelude.{ℕ, ◌≤◌, List, slice_range}, List.{AllByRecursion}}
use Rattle.spki_service.specs.declared.text_list.Place.{Place}

-- the text at a place among octets
abbrev pub text_at : List ℕ → Place → List ℕ
text_at octets at = slice_range octets at.start at.end

-- the places are among so many octets
abbrev pub AreWithin : ℕ → List Place → Type 0
AreWithin long places = AllByRecursion (λ at. (at.start ≤ at.end) × (at.end ≤ long)) places
