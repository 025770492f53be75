-- A list of texts in one buffer, with one text more behind them.
use Rattle.std.proofs.Common.{◌≡◌, ℕ, ◌+◌, ◌≤◌, List, [], ◌∷◌, ◌++◌, length, map, refl, arith, rules}
use Rattle.std.proofs.lemmas.{Grind.{common_steps}, List.{map-append}}
use Rattle.std.specs.Prelude.{slice_range}
use Rattle.spki_service.specs.{declared.text_list.Place.{Place}, TextLists.{text_at, AreWithin}}

stays : (octets more : List ℕ) (start end : ℕ) → start ≤ end → end ≤ length octets
    → slice_range (octets ++ more) start end ≡ slice_range octets start end
stays octets more start end ordered within = grind (arith, common_steps)

all_stay : (octets more : List ℕ) (places : List Place) → AreWithin (length octets) places
    → map (text_at (octets ++ more)) places ≡ map (text_at octets) places
all_stay octets more [] within = refl
all_stay octets more (at ∷ places) within = search (rules, stays, all_stay octets more places within.1)

last : (octets text : List ℕ) → slice_range (octets ++ text) (length octets) (length octets + length text) ≡ text
last octets text = grind (arith, common_steps)

pub pushed : (octets text all : List ℕ) (places more : List Place) (at : Place) → AreWithin (length octets) places
    → all ≡ octets ++ text → more ≡ places ++ at ∷ [] → at.start ≡ length octets → at.end ≡ length octets + length text
    → map (text_at all) more ≡ map (text_at octets) places ++ text ∷ []
pushed octets text all places more at within joined longer start end =
    search (rules, map-append, all_stay, last)
