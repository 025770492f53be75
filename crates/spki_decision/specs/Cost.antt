-- How much is read of the tuples of certificates when they are tested, and the ticks of an entry's chain.
use Rattle.std.specs.Prelude.{◌≡◌, ℕ, ◌+◌, ◌<◌, ◌≤◌, ◌⊎◌, List, [], ◌∷◌, Option, None, true, false}
use Rattle.spki_cert.specs.{declared.{entry.Entry.{Entry}, principal.Policy.{Policy}}, Cost.{names_weight, principal_weight}}
use Rattle.spki_tag.specs.{Tag.{tags}, Request.{Request}, Cost.{weight_all, tested_all}}
use Rattle.spki_reduce.specs.{Reduction.{Tuple, five, four, tags_of, entry_tuple}, Chain.{AreTicksOfSteps, TakesFirstSteps}}
use Rattle.spki_decision.specs.{Spared.{is_spared}, declared.reduction.EntryFold.{EntryFold, TheVariants.{Done, Stopped}}}

-- the weight of testing a tuple's tags and windows: one for the tuple, and that of its tags
abbrev pub content_weight : Tuple → ℕ
content_weight t = 1 + weight_all (tags (tags_of t))

-- the weight of a step to its key: one for the tuple, another for the name that it defines, and that of its subject
abbrev pub path_weight : Tuple → ℕ
path_weight (five t) = 1 + (names_weight t.names + principal_weight t.principal)
path_weight (four t) = 2 + (names_weight t.names + principal_weight t.principal)

-- the first of these weights for several tuples
abbrev pub contents_weight : List Tuple → ℕ
contents_weight [] = 0
contents_weight (t ∷ ts) = content_weight t + contents_weight ts

abbrev pub paths_weight : List Tuple → ℕ
paths_weight [] = 0
paths_weight (t ∷ ts) = path_weight t + paths_weight ts

-- what is tested at least of a tuple's tags (see `tested_weight`) and windows: one for the tuple, and that of its tags
abbrev pub content_tested : Request → Tuple → ℕ
content_tested g t = 1 + tested_all (tags (tags_of t)) g

-- the same for several tuples
abbrev pub contents_tested : Request → List Tuple → ℕ
contents_tested g [] = 0
contents_tested g (t ∷ ts) = content_tested g t + contents_tested g ts

abbrev pub tuples_weight : List Tuple → ℕ
tuples_weight ts = contents_weight ts + paths_weight ts

-- ---- ticks

-- The ticks of the chain of an entry and all certificates, from the number before it to that after it: at most four for each unit of the work of
-- some of its steps, and one. This work is what was taken of the work that may be done. Nothing was, if the entry is spared.
abbrev pub AreTicksOfEntry : Option ℕ → Option ℕ → ℕ → ℕ → Policy → ℕ → List Tuple → Entry → Type 0
AreTicksOfEntry before after old new policy uncounted tuples e =
    ((is_spared uncounted tuples e.tag ≡ true) × (after ≡ before) × AreTicksOfSteps None None old new policy (five (entry_tuple e)) tuples)
    ⊎ ((is_spared uncounted tuples e.tag ≡ false) × AreTicksOfSteps before after old new policy (five (entry_tuple e)) tuples)

-- What the chain of an entry takes from the work that may be done, also after an error: that of its first steps, or nothing if the entry is
-- spared.
abbrev pub TakesOfEntry : Option ℕ → Option ℕ → Policy → ℕ → List Tuple → Entry → Type 0
TakesOfEntry before after policy uncounted tuples e =
    ((is_spared uncounted tuples e.tag ≡ true) × (after ≡ before))
    ⊎ ((is_spared uncounted tuples e.tag ≡ false) × TakesFirstSteps before after policy (five (entry_tuple e)) tuples)

-- the ticks from `old` to `new` are at least one for each step of a chain that goes through, or one for a chain that stops
abbrev pub CountsSteps : ℕ → ℕ → ℕ → EntryFold → Type 0
CountsSteps old new steps (Done f) = old + steps ≤ new
CountsSteps old new steps (Stopped item cause) = old < new
