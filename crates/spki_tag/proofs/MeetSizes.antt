-- How many nodes the intersection of two tags has.
use Rattle.std.proofs.{Common.{◌≡◌, ℕ, ◌+◌, ◌*◌, ◌≤◌, List, [], ◌∷◌, ◌++◌, refl, ap, arith, rules}, Math.Nat.{mul-add, one-mul}}
use Rattle.std.proofs.lemmas.Bool.{cond_both}
use Rattle.std.specs.Str.{bytes_eq}
use Rattle.spki_tag.specs.Meet.{nothing, string_meet, range_meet, prefix_meet, kept, row, gather, any_is_nothing, listed, list_meet, across, set_across, meet, each_meet, pairs}
use Rattle.spki_tag.specs.Tag.{Tag, Tags, tags, star, string, prefix, range, list, set, none, more, nodes, nodes_all, is_nothing}
use Rattle.spki_tag.proofs.Exact.{IsBare, string-bare, range-bare, prefix-bare, tags-items}

-- ---- at least one node

pub nodes-some : (t : Tag) → 1 ≤ nodes t
nodes-some (range o l u) = omega arith
nodes-some t = omega arith

pub bare-one : (t : Tag) → IsBare t → nodes t ≡ 1
bare-one (list head ts) h = absurd h
bare-one (set (more t ts)) h = absurd h
bare-one t h = refl

-- ---- sets

kept-le : (t : Tag) (ts : List Tag) → nodes_all (tags (kept t ts)) ≤ nodes t + nodes_all (tags ts)
kept-le t ts =
    cond_both (is_nothing t) ts (t ∷ ts) (λ us. nodes_all (tags us) ≤ nodes t + nodes_all (tags ts)) (λ _. omega arith) (λ _. omega arith)

pub gather-le : (ts : List Tag) → nodes (gather ts) ≤ 1 + nodes_all (tags ts)
gather-le (t ∷ u ∷ us) = omega arith
gather-le ts = omega arith

pub append-nodes : (ts us : List Tag) → nodes_all (tags (ts ++ us)) ≡ nodes_all (tags ts) + nodes_all (tags us)
append-nodes [] us = omega arith
append-nodes (t ∷ ts) us = omega (arith, append-nodes ts us)

row-le : (f : Tag → Tag) (n : ℕ) (bs : Tags) → ((b : Tag) → nodes (f b) ≤ n * nodes b)
    → nodes_all (tags (row f bs)) ≤ n * nodes_all bs
row-le f n none h = omega arith
row-le f n (more b bs) h = search (rules, kept-le, row-le f n bs h, mul-add)

-- ---- tags

across-le : (a : Tag) (f : Tag → Tag) (b : Tag) → ((b : Tag) → nodes (f b) ≤ nodes a * nodes b)
    → nodes (across a f b) ≤ nodes a * nodes b
across-le a f star h = omega arith
across-le a f (set bs) h = omega (arith, gather-le (row f bs), row-le f (nodes a) bs h, nodes-some a)
across-le a f b h = h b

set_across-le : (ms : Tags) (f : Tags → List Tag) (b : Tag)
    → ((bs : Tags) → nodes_all (tags (f bs)) ≤ nodes_all ms * nodes_all bs)
    → nodes (set_across ms f b) ≤ (1 + nodes_all ms) * nodes b
set_across-le ms f star h = omega arith
set_across-le ms f (set bs) h = omega (arith, gather-le (f bs), h bs)
set_across-le ms f b h = omega (arith, gather-le (f (more b none)), h (more b none))

list-le : (head : List ℕ) (m : ℕ) (f : Tags → List Tag) (b : Tag)
    → ((us : Tags) → nodes_all (tags (f us)) ≤ m * nodes_all us + m + nodes_all us)
    → nodes (list_meet head f b) ≤ (2 + m) * nodes b
list-le head m f (list other us) h =
    cond_both (bytes_eq head other) (listed head (f us)) nothing (λ t. nodes t ≤ (2 + m) * (2 + nodes_all us))
    (λ _. cond_both (any_is_nothing (f us)) nothing (list head (tags (f us))) (λ t. nodes t ≤ (2 + m) * (2 + nodes_all us))
    (λ _. omega arith) (λ _. omega (arith, h us))) (λ _. omega arith)
list-le head m f b h = omega arith

bare-le : (t c : Tag) → IsBare t → nodes t ≤ 1 * nodes c
bare-le t c h = omega (arith, bare-one t h, nodes-some c)

mutual
  -- The intersection has at most as many nodes as the product of the nodes of both tags.
  pub meet_le : (a b : Tag) → nodes (meet a b) ≤ nodes a * nodes b
  meet_le star b = omega (arith, one-mul (nodes b))
  meet_le (string s) b = across-le (string s) (string_meet s) b (λ c. bare-le (string_meet s c) c (string-bare s c))
  meet_le (prefix s) b = across-le (prefix s) (prefix_meet s) b (λ c. bare-le (prefix_meet s c) c (prefix-bare s c))
  meet_le (range o l u) b = across-le (range o l u) (range_meet o l u) b (λ c. bare-le (range_meet o l u c) c (range-bare o l u c))
  meet_le (list head ts) b =
      across-le (list head ts) (list_meet head (each_meet ts)) b
      (λ c. list-le head (nodes_all ts) (each_meet ts) c (λ us. each-le ts us))
  meet_le (set ms) b = set_across-le ms (pairs ms) b (λ bs. pairs-le ms bs)

  pub each-le : (ts us : Tags) → nodes_all (tags (each_meet ts us)) ≤ nodes_all ts * nodes_all us + nodes_all ts + nodes_all us
  each-le none us = omega (arith, ap nodes_all (tags-items us))
  each-le (more t ts) none = omega (arith, ap nodes_all (tags-items ts))
  each-le (more t ts) (more u us) = omega (arith, meet_le t u, each-le ts us)

  pub pairs-le : (ms bs : Tags) → nodes_all (tags (pairs ms bs)) ≤ nodes_all ms * nodes_all bs
  pairs-le none bs = omega arith
  pairs-le (more a ms) bs =
      omega (arith, append-nodes (row (meet a) bs) (pairs ms bs), row-le (meet a) (nodes a) bs (λ b. meet_le a b), pairs-le ms bs)
