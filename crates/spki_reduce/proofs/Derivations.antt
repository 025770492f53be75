-- Derivations: they may be bracketed from the left, though not in any way. Their leaves determine their root and its
-- tags and windows. Those that the strict policy allows, the open one allows.
use Rattle.std.proofs.Common.{◌≡◌, ℕ, List, [], ◌∷◌, ◌++◌, refl, sym, ◌∙◌, ap, append_assoc, append-nil, rules, flat_map, true, false, IsTrue}
use Rattle.std.proofs.lemmas.Grind.{flat_map-append}
use Rattle.spki_cert.specs.declared.principal.{Policy.{Policy, TheVariants.{Open, Strict}}, Principal.{Principal, TheVariants.{Key, Hash}}}
use Rattle.spki_cert.specs.declared.hash.HashAlg.TheVariants.{Sha1}
use Rattle.spki_cert.specs.Naming.{names}
use Rattle.spki_tag.specs.Request.{Request}
use Rattle.spki_reduce.specs.Reduction.{FiveTuple, FourTuple, Tuple, five, four, Begins, Delegate, Resolve, Link, Joins, delegated, resolved, linked, Tree, leaf, join, leaves, Derives, extended, from_left, Supports, tags_of, windows_of, own, key}

-- ---- lists that are equal in parts

head : (x y : Tuple) (xs ys : List Tuple) → x ∷ xs ≡ y ∷ ys → x ≡ y
head x y xs ys e = cc

tail : (x y : Tuple) (xs ys : List Tuple) → x ∷ xs ≡ y ∷ ys → xs ≡ ys
tail x y xs ys e = cc

same_rest : (names rest others : List (List ℕ)) (name : List ℕ) → names ≡ name ∷ rest → names ≡ name ∷ others → rest ≡ others
same_rest names rest others name e f = cc

-- ---- the leaves of trees

extended-append : (tree : Tree) (xs ys : List Tuple) → extended tree (xs ++ ys) ≡ extended (extended tree xs) ys
extended-append tree [] ys = refl
extended-append tree (x ∷ xs) ys = extended-append (join tree (leaf x)) xs ys

extended-leaves : (tree : Tree) (ts : List Tuple) → leaves (extended tree ts) ≡ leaves tree ++ ts
extended-leaves tree [] = sym (append-nil (leaves tree))
extended-leaves tree (t ∷ ts) = extended-leaves (join tree (leaf t)) ts ∙ append_assoc (leaves tree) (t ∷ []) ts

pub from_left-leaves : (first : Tuple) (rest : List Tuple) → leaves (from_left first rest) ≡ first ∷ rest
from_left-leaves first rest = extended-leaves (leaf first) rest

-- the tree that joins the tuples from the left, with one tuple more at the end
pub from_left-more : (first last : Tuple) (rest : List Tuple) → from_left first (rest ++ last ∷ []) ≡ join (from_left first rest) (leaf last)
from_left-more first last rest = extended-append (leaf first) rest (last ∷ [])

-- the leftmost leaf, and the others
abbrev first_of : Tree → Tuple
first_of (leaf t) = t
first_of (join left right) = first_of left

abbrev others : Tree → List Tuple
others (leaf t) = []
others (join left right) = others left ++ leaves right

leaves-is : (tree : Tree) → leaves tree ≡ first_of tree ∷ others tree
leaves-is (leaf t) = refl
leaves-is (join left right) = ap (λ ts. ts ++ leaves right) (leaves-is left)

module _ (policy : Policy) where
  -- ---- two rules: a (b c) is (a b) c

  delegate-delegate : (a b c m r : FiveTuple) → Delegate policy b c m → Delegate policy a m r
      → Delegate policy a b (delegated a b) × Delegate policy (delegated a b) c r
  delegate-delegate a b c m r h k = search (rules, append_assoc)

  delegate-resolve : (a b : FiveTuple) (c : FourTuple) (m r : FiveTuple) → Resolve policy b c m → Delegate policy a m r
      → Delegate policy a b (delegated a b) × Resolve policy (delegated a b) c r
  delegate-resolve a b c m r h k = (
    search rules,
    record {
      begins = record { rest = h.begins.rest; named = h.begins.named; name = h.begins.name };
      result_is = simp append_assoc (k.result_is ∙ ap (delegated a) h.result_is);
    },
  )

  -- a path that begins with the name of two definitions together begins with that of the first
  abbrev begins-first : (p : Principal) (path : List (List ℕ)) (b c m : FourTuple) → Link policy b c m → Begins policy p path m → Begins policy p path b
  begins-first p path b c m h k = record {
    rest = k.rest;
    named = rw (← ap (λ (t : FourTuple). t.key) h.result_is) k.named;
    name = k.name ∙ ap (λ (t : FourTuple). t.name ∷ k.rest) h.result_is;
  }

  abbrev begins-second : (p : Principal) (path more : List (List ℕ)) (c : FourTuple) → Begins policy p path c → Begins policy p (path ++ more) c
  begins-second p path more c h = record { rest = h.rest ++ more; named = h.named; name = ap (λ ns. ns ++ more) h.name }

  resolve-link : (a : FiveTuple) (b c m : FourTuple) (r : FiveTuple) → Link policy b c m → (k : Resolve policy a m r)
      → Resolve policy a b (resolved a b k.begins.rest) × Resolve policy (resolved a b k.begins.rest) c r
  resolve-link a b c m r h k =
      let made = k.result_is ∙ ap (λ (t : FourTuple). resolved a t k.begins.rest) h.result_is in (
        record { begins = begins-first _ _ b c m h k.begins; result_is = refl },
        record { begins = begins-second _ _ k.begins.rest c h.begins; result_is = simp append_assoc (simp append_assoc at made) },
      )

  link-link : (a b c m r : FourTuple) → Link policy b c m → (k : Link policy a m r)
      → Link policy a b (linked a b k.begins.rest) × Link policy (linked a b k.begins.rest) c r
  link-link a b c m r h k =
      let made = k.result_is ∙ ap (λ (t : FourTuple). linked a t k.begins.rest) h.result_is in (
        record { begins = begins-first _ _ b c m h k.begins; result_is = refl },
        record { begins = begins-second _ _ k.begins.rest c h.begins; result_is = simp append_assoc (simp append_assoc at made) },
      )

  regrouped : (a b c m r : Tuple) → Joins policy b c m → Joins policy a m r → (x : Tuple) × Joins policy a b x × Joins policy x c r
  regrouped (five a) (five b) (five c) (five m) (five r) h k = let e = delegate-delegate a b c m r h k in (five (delegated a b), e.0, e.1)
  regrouped a (five b) (five c) (four m) r h k = absurd h
  regrouped (five a) (five b) (four c) (five m) (five r) h k = let e = delegate-resolve a b c m r h k in (five (delegated a b), e.0, e.1)
  regrouped a (five b) (four c) (four m) r h k = absurd h
  regrouped a (four b) (five c) m r h k = absurd h
  regrouped a (four b) (four c) (five m) r h k = absurd h
  regrouped (five a) (four b) (four c) (four m) (five r) h k = let e = resolve-link a b c m r h k in (five (resolved a b k.begins.rest), e.0, e.1)
  regrouped (four a) (four b) (four c) (four m) (four r) h k = let e = link-link a b c m r h k in (four (linked a b k.begins.rest), e.0, e.1)
  regrouped a b c m r h k = absurd k

  -- ---- whole trees

  -- what joins two derivations joins the left one with each leaf of the right one in turn
  behind : (tree right : Tree) (a b r : Tuple) → Derives policy tree a → Derives policy right b → Joins policy a b r
      → Derives policy (extended tree (leaves right)) r
  behind tree (leaf t) a b r da db j = (a, b, da, db, j)
  behind tree (join m n) a b r da db j =
      let g = regrouped a db.0 db.1 b r db.4 j in
      let first = behind tree m a db.0 g.0 da db.2 g.1 in
      let second = behind (extended tree (leaves m)) n g.0 db.1 r first db.3 g.2 in
      rw extended-append second

  leftmost : (tree : Tree) (root : Tuple) → Derives policy tree root → Derives policy (from_left (first_of tree) (others tree)) root
  leftmost (leaf t) root d = d
  leftmost (join left right) root d = search (rules, leftmost left d.0 d.2, extended-append, behind)

  pub bracketed : (tree : Tree) (root first : Tuple) (rest : List Tuple) → Derives policy tree root → leaves tree ≡ first ∷ rest
      → Derives policy (from_left first rest) root
  bracketed tree root first rest d e = search (rules, leaves-is, head, tail, leftmost)

  pub supported : (tree : Tree) (holder : List ℕ) (request : Request) (moment : List ℕ) (first : Tuple) (rest : List Tuple)
      → Supports policy tree holder request moment → leaves tree ≡ first ∷ rest
      → Supports policy (from_left first rest) holder request moment
  supported tree holder request moment first rest s e = search (rules, bracketed)

  -- ---- derivations from the same leaves have one root

  same_resolve : (a : FiveTuple) (b : FourTuple) (r s : FiveTuple) → Resolve policy a b r → Resolve policy a b s → r ≡ s
  same_resolve a b r s h k = search rules

  same_link : (a b r s : FourTuple) → Link policy a b r → Link policy a b s → r ≡ s
  same_link a b r s h k = search (rules, same_rest)

  same_join : (a b r s : Tuple) → Joins policy a b r → Joins policy a b s → r ≡ s
  same_join (five a) (five b) (five r) (five s) h k = ap five (h.result_is ∙ sym k.result_is)
  same_join (five a) (four b) (five r) (five s) h k = ap five (same_resolve a b r s h k)
  same_join (four a) (four b) (four r) (four s) h k = ap four (same_link a b r s h k)
  same_join a b r s h k = search

  same_tree : (tree : Tree) (r s : Tuple) → Derives policy tree r → Derives policy tree s → r ≡ s
  same_tree (leaf t) r s d e = d ∙ sym e
  same_tree (join left right) r s d e = search (rules, same_tree left d.0 e.0 d.2 e.2, same_tree right d.1 e.1 d.3 e.3, same_join)

  pub one_root : (tree other : Tree) (r s : Tuple) → leaves tree ≡ leaves other → Derives policy tree r → Derives policy other s → r ≡ s
  one_root tree other r s e d f =
      let left = bracketed tree r _ _ d (leaves-is tree) in
      let right = bracketed other s _ _ f (sym e ∙ leaves-is tree) in
      same_tree (from_left (first_of tree) (others tree)) r s left right

  -- ---- the front of a derivation's leaves has a derivation too

  extended_from : (tree : Tree) (ts : List Tuple) (root : Tuple) → Derives policy (extended tree ts) root
      → (begun : Tuple) × Derives policy tree begun
  extended_from tree [] root d = (root, d)
  extended_from tree (t ∷ ts) root d = let e = extended_from (join tree (leaf t)) ts root d in (e.1.0, e.1.2)

  pub front : (tree : Tree) (root first : Tuple) (before after : List Tuple) → Derives policy tree root
      → leaves tree ≡ first ∷ (before ++ after) → (begun : Tuple) × Derives policy (from_left first before) begun
  front tree root first before after d e =
      let left = bracketed tree root first (before ++ after) d e in
      let parted = rw extended-append at left in
      extended_from (from_left first before) after root parted

-- ---- a root has the tags and the windows of all leaves

module _ (policy : Policy) where
  joined_tags : (a b r : Tuple) → Joins policy a b r → tags_of r ≡ tags_of a ++ tags_of b
  joined_tags (five a) (five b) (five r) h = ap (λ (t : FiveTuple). t.tags) h.result_is
  joined_tags (five a) (four b) (five r) h = ap (λ (t : FiveTuple). t.tags) h.result_is ∙ sym (append-nil a.tags)
  joined_tags (four a) (four b) (four r) h = refl
  joined_tags a b r h = absurd h

  joined_windows : (a b r : Tuple) → Joins policy a b r → windows_of r ≡ windows_of a ++ windows_of b
  joined_windows (five a) (five b) (five r) h = ap (λ (t : FiveTuple). t.windows) h.result_is
  joined_windows (five a) (four b) (five r) h = ap (λ (t : FiveTuple). t.windows) h.result_is
  joined_windows (four a) (four b) (four r) h = ap (λ (t : FourTuple). t.windows) h.result_is
  joined_windows a b r h = absurd h

  pub all_tags : (tree : Tree) (root : Tuple) → Derives policy tree root → tags_of root ≡ flat_map tags_of (leaves tree)
  all_tags (leaf t) root d = ap tags_of d ∙ sym (append-nil (tags_of t))
  all_tags (join left right) root d = search (rules, all_tags left d.0 d.2, all_tags right d.1 d.3, joined_tags, flat_map-append)

  pub all_windows : (tree : Tree) (root : Tuple) → Derives policy tree root
      → windows_of root ≡ flat_map windows_of (leaves tree)
  all_windows (leaf t) root d = ap windows_of d ∙ sym (append-nil (windows_of t))
  all_windows (join left right) root d = search (rules, all_windows left d.0 d.2, all_windows right d.1 d.3, joined_windows, flat_map-append)

-- ---- tuples that have a derivation from the left, and none in the other bracketing

-- the subject is the empty name of the empty key, the name is defined as this key, and the key authorizes
abbrev entry : FiveTuple
entry = record { issuer = own; principal = Key []; names = [] ∷ []; delegation = true; tags = []; windows = [] }

abbrev definition : FourTuple
definition = record { key = []; name = []; principal = Key []; names = []; windows = [] }

abbrev certificate : FiveTuple
certificate = record { issuer = key []; principal = Key []; names = []; delegation = true; tags = []; windows = [] }

abbrev middle : FiveTuple
middle = resolved entry definition []

-- a definition does not join an authorization after it
refused : (policy : Policy) (a b r : Tuple) → a ≡ four definition → b ≡ five certificate → Joins policy a b r → ⊥
refused policy a b r e f h = rw (e, f) at h

pub only_from_left : (policy : Policy)
    → (tree other : Tree) × (root : Tuple) × (leaves other ≡ leaves tree) × Derives policy tree root
    × ((another : Tuple) → ¬ Derives policy other another)
only_from_left policy = (
  join (join (leaf (five entry)) (leaf (four definition))) (leaf (five certificate)),
  join (leaf (five entry)) (join (leaf (four definition)) (leaf (five certificate))),
  five (delegated middle certificate),
  refl,
  (
    five middle,
    five certificate,
    (five entry, four definition, refl, refl, record { begins = record { rest = []; named = refl; name = refl }; result_is = refl }),
    refl,
    record { issues = record { holder = []; issued = refl; is_for = record { whole = refl; named = refl } }; allowed = refl; result_is = refl },
  ),
  λ another d. refused policy d.3.0 d.3.1 d.1 d.3.2 d.3.3 d.3.4,
)

-- ---- what the strict policy allows, the open one allows

pub named_openly : (principal : Principal) (holder : List ℕ) → IsTrue (names Strict principal holder)
    → IsTrue (names Open principal holder)
named_openly (Hash Sha1 digest) holder h = let e : false ≡ true = h in cc
named_openly principal holder h = h

abbrev begins_openly : (p : Principal) (path : List (List ℕ)) (b : FourTuple) → Begins Strict p path b → Begins Open p path b
begins_openly p path b h = record { rest = h.rest; named = named_openly p b.key h.named; name = h.name }

joined_openly : (a b r : Tuple) → Joins Strict a b r → Joins Open a b r
joined_openly (five a) (five b) (five r) h = search (rules, named_openly)
joined_openly (five a) (four b) (five r) h = record { begins = begins_openly _ _ b h.begins; result_is = h.result_is }
joined_openly (four a) (four b) (four r) h = record { begins = begins_openly _ _ b h.begins; result_is = h.result_is }
joined_openly a b r h = absurd h

pub derived_openly : (tree : Tree) (root : Tuple) → Derives Strict tree root → Derives Open tree root
derived_openly (leaf t) root d = d
derived_openly (join left right) root d = search (rules, derived_openly left d.0 d.2, derived_openly right d.1 d.3, joined_openly)

pub supported_openly : (tree : Tree) (holder : List ℕ) (request : Request) (moment : List ℕ) → Supports Strict tree holder request moment
    → Supports Open tree holder request moment
supported_openly tree holder request moment s = search (rules, derived_openly, named_openly)
