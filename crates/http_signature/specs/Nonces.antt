-- Nonces that are taken once. A nonce is 32 octets, and a moment a number of seconds since 1970.
use Rattle.std.specs.{Prelude.{◌≡◌, ◌+◌, ◌≤◌, ◌<◌, ◌||◌, ℕ, List, [], ◌∷◌, Bool, true, Option, Some, None, length, nat_lt, nat_le, if◌then◌else◌}, List.{All, list_any}, Str.{bytes_eq}, Ordering.{nat_cmp}, Cmp.Lexicographic.{slice_cmp}, BTreeSet.{insert_key}}
use Rattle.http_signature.specs.{Stores.{Store}, declared.nonces.NonceFault.{NonceFault, TheVariants.{BeforeStart, NonceSeen, StoreFull}}}

-- ---- the two generations

abbrev pub is_among : List ℕ → List (List ℕ) → Bool
is_among nonce nonces = list_any (bytes_eq nonce) nonces

abbrev pub new_store : ℕ → Store
new_store capacity = record { capacity = capacity; began = 0; young = []; previous = [] }

-- a new young generation, without nonces; the one before is kept as the old one, or forgotten
abbrev pub begun : Store → ℕ → Bool → Store
begun s moment is_kept = record { capacity = s.capacity; began = moment; young = []; previous = if is_kept then s.young else [] }

-- the generations at a moment
abbrev pub at_moment : Store → ℕ → Store
at_moment s moment = if nat_lt moment (s.began + 360) then s else begun s moment (nat_lt moment (s.began + 720))

-- the nonce is added to the young generation
abbrev pub with_nonce : Store → List ℕ → Store
with_nonce s nonce = record { capacity = s.capacity; began = s.began; young = insert_key (slice_cmp nat_cmp) s.young nonce; previous = s.previous }

abbrev pub with_taken : Store → List ℕ → ℕ → Store
with_taken s nonce moment = with_nonce (at_moment s moment) nonce

-- why a nonce is refused by the generations as they are at a moment
abbrev pub refusal_in : Store → List ℕ → Option NonceFault
refusal_in s nonce =
    if is_among nonce s.previous || is_among nonce s.young then Some NonceSeen else (
    if nat_le s.capacity (length s.young) then Some StoreFull else None
    )

-- why a nonce is refused; none if it is taken
abbrev pub refusal : Store → List ℕ → ℕ → Option NonceFault
refusal s nonce moment = if nat_lt (moment + 1) s.began then Some BeforeStart else refusal_in (at_moment s moment) nonce

-- ---- all takes, by what was taken when

-- a take: of which nonce, when, and whether it succeeded
pub record Take : Type 0 where
  pub nonce : List ℕ
  pub moment : ℕ
  pub is_fresh : Bool

-- the store after takes, the latest first: those that were refused change nothing
abbrev pub store_after : ℕ → List Take → Store
store_after capacity [] = new_store capacity
store_after capacity (t ∷ earlier) =
    if t.is_fresh then with_taken (store_after capacity earlier) t.nonce t.moment else store_after capacity earlier

-- each take that succeeded was not refused by the store after the earlier ones
abbrev pub AreAnswered : ℕ → List Take → Type 0
AreAnswered capacity [] = Unit {0}
AreAnswered capacity (t ∷ earlier) =
    (t.is_fresh ≡ true → refusal (store_after capacity earlier) t.nonce t.moment ≡ None) × AreAnswered capacity earlier

-- these may be all takes of the store, the latest first
pub record IsHistory (s : Store) (takes : List Take) : Type 0 where
  pub answered : AreAnswered s.capacity takes
  pub is_after : s ≡ store_after s.capacity takes

-- ---- what a fresh nonce is

-- a signature that is valid from `created` to before `expires` can be accepted at a moment
pub record CanAccept (created expires moment : ℕ) : Type 0 where
  pub short : expires ≤ created + 300
  pub begun : created ≤ moment + 60
  pub lasts : moment < expires

-- no signature can be accepted at both moments
abbrev pub AreApart : ℕ → ℕ → Type 0
AreApart moment other = (created expires : ℕ) → CanAccept created expires moment → ¬ CanAccept created expires other

-- where the nonce was taken before, no signature that could be accepted then can be accepted at the moment
abbrev pub IsFresh : List Take → List ℕ → ℕ → Type 0
IsFresh takes nonce moment = All (λ t. t.is_fresh ≡ true → t.nonce ≡ nonce → AreApart t.moment moment) takes

-- each nonce that was taken was fresh, by the takes before
abbrev pub TakenOnce : List Take → Type 0
TakenOnce [] = Unit {0}
TakenOnce (t ∷ earlier) = (t.is_fresh ≡ true → IsFresh earlier t.nonce t.moment) × TakenOnce earlier
