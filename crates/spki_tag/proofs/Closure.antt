-- The intersection of two tags without sets is a tag without sets, or `(* set)`.
use Rattle.std.proofs.Common.{ℕ, Bool, true, false, List, [], ◌∷◌, rules, ◌≡◌, ◌⊎◌, inl, inr, ◌+◌, ◌≤◌, refl, ap, arith}
use Rattle.std.proofs.lemmas.Bool.{or_from, both_ways, cond_both}
use Rattle.std.specs.{Prelude.{◌||◌}, List.{AllByRecursion}, Str.{bytes_eq}}
use Rattle.spki_tag.specs.Tag.{Tag, Tags, tags, star, string, prefix, range, list, set, none, more, is_nothing, nodes, nodes_all, nests_set, some_nests_set}
use Rattle.spki_tag.specs.Meet.{nothing, items, list_meet, across, meet, each_meet, any_is_nothing, listed}
use Rattle.spki_tag.proofs.{MeetSizes.{nodes-some}, Exact.{IsBare, string-bare, range-bare, prefix-bare, tags-items}}

-- ---- the intersection of two tags without sets has none or is `(* set)`, and has no more nodes than both together

-- a tag without sets, or `(* set)`
abbrev pub IsPlain : Tag → Type 0
IsPlain t = (nests_set t ≡ false) ⊎ (t ≡ nothing)

-- such a tag of at most so many nodes
pub record IsPlainWithin (n : ℕ) (t : Tag) : Type 0 where
  pub plain : IsPlain t
  pub few : nodes t ≤ n

pub neither : (a b : Bool) → (a || b) ≡ false → (a ≡ false) × (b ≡ false)
neither true b h = absurd cc
neither false b h = (refl, h)

bare_plain : (t c : Tag) → IsBare t → IsPlainWithin (1 + nodes c) t
bare_plain (list head ts) c h = absurd h
bare_plain (set (more t ts)) c h = absurd h
bare_plain (set none) c h = record { plain = inr refl; few = omega arith }
bare_plain t c h = record { plain = inl refl; few = omega arith }

-- ---- lists

-- tags each of which is plain, with at most so many nodes together
pub record ArePlainWithin (n : ℕ) (ts : List Tag) : Type 0 where
  pub plain : AllByRecursion IsPlain ts
  pub few : nodes_all (tags ts) ≤ n

no_set : (t : Tag) → IsPlain t → is_nothing t ≡ false → nests_set t ≡ false
no_set t (inl h) some = h
no_set t (inr e) some = absurd (both_ways (is_nothing t) some (ap is_nothing e))

no_sets : (ts : List Tag) → AllByRecursion IsPlain ts → any_is_nothing ts ≡ false → some_nests_set (tags ts) ≡ false
no_sets [] h some = refl
no_sets (t ∷ ts) h some =
    let parts = neither (is_nothing t) (any_is_nothing ts) some in search (rules, or_from, no_set, no_sets ts h.1 parts.1)

items_plain : (ts : Tags) → some_nests_set ts ≡ false → AllByRecursion IsPlain (items ts)
items_plain none h = tt
items_plain (more t ts) h = let parts = neither (nests_set t) (some_nests_set ts) h in (inl parts.0, items_plain ts parts.1)

listed_plain : (head : List ℕ) (ts : List Tag) (n : ℕ) → ArePlainWithin n ts → IsPlainWithin (4 + n) (listed head ts)
listed_plain head ts n h =
    cond_both (any_is_nothing ts) nothing (list head (tags ts)) (IsPlainWithin (4 + n))
    (λ _. record { plain = inr refl; few = omega arith }) (λ e. record { plain = inl (no_sets ts h.plain e); few = omega (arith, h.few) })

list_plain : (head : List ℕ) (m : ℕ) (f : Tags → List Tag) (b : Tag)
    → ((us : Tags) → some_nests_set us ≡ false → ArePlainWithin (m + nodes_all us) (f us)) → nests_set b ≡ false
    → IsPlainWithin (2 + m + nodes b) (list_meet head f b)
list_plain head m f (set us) h q = absurd cc
list_plain head m f (list other us) h q =
    let both = listed_plain head (f us) (m + nodes_all us) (h us q) in
    cond_both (bytes_eq head other) (listed head (f us)) nothing (IsPlainWithin (2 + m + (2 + nodes_all us)))
    (λ _. record { plain = both.plain; few = omega (arith, both.few) }) (λ _. record { plain = inr refl; few = omega arith })
list_plain head m f b h q = record { plain = inr refl; few = omega arith }

-- ---- tags

across_plain : (a : Tag) (f : Tag → Tag) (b : Tag) → nests_set a ≡ false
    → ((c : Tag) → nests_set c ≡ false → IsPlainWithin (nodes a + nodes c) (f c)) → nests_set b ≡ false
    → IsPlainWithin (nodes a + nodes b) (across a f b)
across_plain a f star p h q = record { plain = inl p; few = omega arith }
across_plain a f (set bs) p h q = absurd cc
across_plain a f b p h q = h b q

mutual
  two_plain : (a b : Tag) → nests_set a ≡ false → nests_set b ≡ false → IsPlainWithin (nodes a + nodes b) (meet a b)
  two_plain star b p q = record { plain = inl q; few = omega arith }
  two_plain (string s) b p q = search (rules, across_plain, bare_plain, string-bare)
  two_plain (prefix s) b p q = search (rules, across_plain, bare_plain, prefix-bare)
  two_plain (range o l u) b p q = search (rules, across_plain, bare_plain, range-bare)
  two_plain (list head ts) b p q =
      across_plain (list head ts) (list_meet head (each_meet ts)) b p
      (λ c r. list_plain head (nodes_all ts) (each_meet ts) c (λ us k. each_plain ts us p k) r) q
  two_plain (set ms) b p q = absurd cc

  each_plain : (ts us : Tags) → some_nests_set ts ≡ false → some_nests_set us ≡ false
      → ArePlainWithin (nodes_all ts + nodes_all us) (each_meet ts us)
  each_plain none us p q = record { plain = items_plain us q; few = omega (arith, ap nodes_all (tags-items us)) }
  each_plain (more t ts) none p q =
      record { plain = items_plain (more t ts) p; few = omega (arith, ap nodes_all (tags-items ts)) }
  each_plain (more t ts) (more u us) p q =
      let first = neither (nests_set t) (some_nests_set ts) p in
      let second = neither (nests_set u) (some_nests_set us) q in
      search (rules, two_plain t u first.0 second.0, each_plain ts us first.1 second.1)

nothing_meets : (b : Tag) → nests_set b ≡ false → meet nothing b ≡ nothing
nothing_meets (set us) q = absurd cc
nothing_meets b q = refl

pub plain_meet : (a b : Tag) → IsPlain a → nests_set b ≡ false → IsPlainWithin (nodes a + nodes b) (meet a b)
plain_meet a b (inl p) q = two_plain a b p q
plain_meet a b (inr e) q = search (rules, nothing_meets, nodes-some)
