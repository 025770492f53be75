-- What an index of the members of a tag contains, and how two increasing lists, such as its places, become one.
use Rattle.std.specs.{Prelude.{◌≡◌, ℕ, ◌++◌, Bool, true, false, if◌then◌else◌, List, [], ◌∷◌, Vec, nat_lt}, Borrow.{Bor}, BTreeMap.{BTreeMap, get_by}}
use Rattle.std.specs.{Cmp.Lexicographic.{slice_cmp}, Option.{option_map_or}, Ordering.{nat_cmp}, Str.{bytes_eq}, declared.alloc.Global.{Global}}
use Rattle.spki_tag.specs.{declared.index.{Kind.{Kind as KindSeen, TheVariants.{Any, Strings, One, Lists}}, PlacesByKind.{PlacesByKind}}, Tag.{Tag}}
use Rattle.spki_tag.specs.Meet.{Kind, any, strings, one, lists, kind, kinds_share, places_where}

-- ---- what an index of the members of a tag contains

-- the kind that is represented
abbrev pub kind_of : KindSeen → Kind
kind_of Any = any
kind_of Strings = strings
kind_of (One octets) = one octets.now
kind_of (Lists head) = lists head.now

-- ---- kinds with a list of places

-- the tag may contain any request
abbrev pub is_any : Kind → Bool
is_any any = true
is_any strings = false
is_any (one octets) = false
is_any (lists head) = false

-- the tag may contain more than one string
abbrev pub has_many_strings : Kind → Bool
has_many_strings any = true
has_many_strings strings = true
has_many_strings (one octets) = false
has_many_strings (lists head) = false

-- the tag contains this string
abbrev pub is_one : List ℕ → Kind → Bool
is_one octets any = false
is_one octets strings = false
is_one octets (one other) = bytes_eq octets other
is_one octets (lists head) = false

-- the tag contains lists with this head
abbrev pub is_lists : List ℕ → Kind → Bool
is_lists head any = false
is_lists head strings = false
is_lists head (one octets) = false
is_lists head (lists other) = bytes_eq head other

-- the tag may contain a string
abbrev pub has_strings : Kind → Bool
has_strings k = kinds_share strings k

-- ---- places

-- the places of a string
abbrev pub found_at : BTreeMap (Bor (List ℕ)) (Vec ℕ Global) → List ℕ → List ℕ
found_at m q = option_map_or (λ places. places.items) (get_by (λ k. slice_cmp nat_cmp q k.now) m) []

-- the place, if a test is true
abbrev pub place_if : Bool → ℕ → List ℕ
place_if b n = if b then n ∷ [] else []

-- The places are those of these tags; the first place is 1.
pub record ArePlacesOf (s : PlacesByKind) (ts : List Tag) : Type 0 where
  pub strings : (q : List ℕ) → found_at s.strings q ≡ places_where (λ t. is_one q (kind t)) 1 ts
  pub lists : (q : List ℕ) → found_at s.lists q ≡ places_where (λ t. is_lists q (kind t)) 1 ts
  pub with_many_strings : s.with_many_strings.items ≡ places_where (λ t. has_many_strings (kind t)) 1 ts
  pub with_strings : s.with_strings.items ≡ places_where (λ t. has_strings (kind t)) 1 ts
  pub any : s.any.items ≡ places_where (λ t. is_any (kind t)) 1 ts
  pub all : s.all.items ≡ places_where (λ t. true) 1 ts

-- The place of a tag of this kind was added after the others.
pub record IsAdded (old new : PlacesByKind) (k : Kind) (place : ℕ) : Type 0 where
  pub strings : (q : List ℕ) → found_at new.strings q ≡ found_at old.strings q ++ place_if (is_one q k) place
  pub lists : (q : List ℕ) → found_at new.lists q ≡ found_at old.lists q ++ place_if (is_lists q k) place
  pub with_many_strings : new.with_many_strings.items ≡ old.with_many_strings.items ++ place_if (has_many_strings k) place
  pub with_strings : new.with_strings.items ≡ old.with_strings.items ++ place_if (has_strings k) place
  pub any : new.any.items ≡ old.any.items ++ place_if (is_any k) place
  pub all : new.all.items ≡ old.all.items ++ place ∷ []

-- ---- two increasing lists in one

-- x before the lists after it, merged with ys
abbrev weave : ℕ → (List ℕ → List ℕ) → List ℕ → List ℕ
weave x f [] = x ∷ f []
weave x f (y ∷ ys) = if nat_lt x y then x ∷ f (y ∷ ys) else y ∷ weave x f ys

-- two increasing lists, merged in increasing order
abbrev pub merge : List ℕ → List ℕ → List ℕ
merge [] ys = ys
merge (x ∷ xs) ys = weave x (merge xs) ys
