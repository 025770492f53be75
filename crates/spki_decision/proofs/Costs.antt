-- The weights of names and of tuples, one after the other, and those of the certificates of a sequence; the ticks of an entry that is not spared.
use native.Mathlib.Numerals.{unary_clauses}
use Rattle.std.proofs.Common.{◌≡◌, ℕ, zero, suc, ◌+◌, ◌*◌, ◌≤◌, ◌<◌, ◌-◌, List, [], ◌∷◌, ◌++◌, length, drop, take, get_or, slice_get, Option, Some, None, inl, inr, arith, rules, ap}
use Rattle.std.proofs.lemmas.Bool.{both_ways}
use Rattle.std.specs.List.{AllZip}
use Rattle.spki_cert.specs.declared.{entry.Entry.{Entry}, principal.Policy.{Policy}}
use Rattle.spki_cert.specs.declared.certificate.SeqItem.{SeqItem, TheVariants.{Key, DoHash, Auth, Name, Signature}}
use Rattle.spki_tag.specs.Request.{Request}
use Rattle.spki_cert.specs.Cost.{names_weight, items_weight}
use Rattle.spki_reduce.specs.{Reduction.{Tuple, step_tuple}, Chain.{tuples_of, Takes}, declared.tuple.Step.{Step}}
use Rattle.spki_case.specs.Case.{Case, Verified, Shown, certificates_from, certificates, keys_of}
use Rattle.spki_decision.specs.CertificateTests.{PassesTestsAs, AreShown, Signed, asked_of, asked_in, asked, before_all, every}
use Rattle.spki_decision.specs.{Cost.{content_weight, path_weight, contents_weight, paths_weight, tuples_weight, content_tested, contents_tested, AreTicksOfEntry}, Spared.{is_spared}}
use Rattle.spki_decision.proofs.{ChainRequirements.{last_of}, StepNodes.{unspared}}

-- ---- names

names_from : (xs : List (List ℕ)) (n : ℕ) (x : List ℕ) → slice_get xs n ≡ Some x
    → names_weight (drop n xs) ≡ 1 + length x + names_weight (drop (suc n) xs)
names_from [] n x e = absurd cc
names_from (y ∷ xs) zero x e = search (rules, e)
names_from (y ∷ xs) (suc n) x e = names_from xs n x e

pub names_step : (xs : List (List ℕ)) (n : ℕ) (x : List ℕ) → slice_get xs n ≡ Some x
    → names_weight (drop n xs) ≡ 1 + length x + names_weight (drop (n + 1) xs)
names_step xs n x e = simp unary_clauses (names_from xs n x e)

-- ---- tuples of steps

paths_append : (xs ys : List Step) → paths_weight (tuples_of (xs ++ ys)) ≡ paths_weight (tuples_of xs) + paths_weight (tuples_of ys)
paths_append [] ys = omega arith
paths_append (x ∷ xs) ys = omega (arith, paths_append xs ys)

-- the last of the steps that are not done
pub paths_last : (steps : List Step) (n i : ℕ) (step : Step) → n < length steps → i ≡ length steps - 1 - n → step ≡ get_or steps i step
    → paths_weight (tuples_of (take (length steps - n) steps))
    ≡ paths_weight (tuples_of (take (length steps - (n + 1)) steps)) + path_weight (step_tuple step)
paths_last steps n i step below index here =
    let last = ap (λ (xs : List Step). paths_weight (tuples_of xs)) (last_of steps n i step below index here) in
    omega (arith, last, paths_append (take (length steps - (n + 1)) steps) (step ∷ []))

contents_from : (steps : List Step) (i : ℕ) (step : Step) → i < length steps → step ≡ get_or steps i step
    → contents_weight (tuples_of (drop i steps)) ≡ content_weight (step_tuple step) + contents_weight (tuples_of (drop (suc i) steps))
contents_from [] i step below here = absurd (omega (arith, below))
contents_from (s ∷ steps) zero step below here = omega (arith, ap (λ (x : Step). content_weight (step_tuple x)) here)
contents_from (s ∷ steps) (suc i) step below here = contents_from steps i step (omega (arith, below)) here

-- the first of the steps that are not done
pub contents_first : (steps : List Step) (i : ℕ) (step : Step) → i < length steps → step ≡ get_or steps i step
    → contents_weight (tuples_of (drop i steps)) ≡ content_weight (step_tuple step) + contents_weight (tuples_of (drop (i + 1) steps))
contents_first steps i step below here = simp unary_clauses (contents_from steps i step below here)

tested_from : (g : Request) (steps : List Step) (i : ℕ) (step : Step) → i < length steps → step ≡ get_or steps i step
    → contents_tested g (tuples_of (drop i steps)) ≡ content_tested g (step_tuple step) + contents_tested g (tuples_of (drop (suc i) steps))
tested_from g [] i step below here = absurd (omega (arith, below))
tested_from g (s ∷ steps) zero step below here = omega (arith, ap (λ (x : Step). content_tested g (step_tuple x)) here)
tested_from g (s ∷ steps) (suc i) step below here = tested_from g steps i step (omega (arith, below)) here

-- the same for what is tested at least
pub tested_first : (g : Request) (steps : List Step) (i : ℕ) (step : Step) → i < length steps → step ≡ get_or steps i step
    → contents_tested g (tuples_of (drop i steps)) ≡ content_tested g (step_tuple step) + contents_tested g (tuples_of (drop (i + 1) steps))
tested_first g steps i step below here = simp unary_clauses (tested_from g steps i step below here)

-- ---- the certificates of a sequence

-- each certificate and its tuple are counted once
module _ (policy : Policy) (keys : List (List ℕ)) (verified : Verified) where
  shown_ge : (items : List SeqItem) (n : ℕ) (ts : List Tuple) → AllZip (PassesTestsAs policy keys verified) (certificates_from n items) ts
      → tuples_weight ts + length (certificates_from n items) ≤ items_weight items
  shown_ge [] n [] are = omega arith
  shown_ge [] n (t ∷ ts) are = absurd are
  shown_ge (Key octets ∷ items) n ts are = omega (arith, shown_ge items (suc n) ts are)
  shown_ge (DoHash alg ∷ items) n ts are = omega (arith, shown_ge items (suc n) ts are)
  shown_ge (Signature s ∷ items) n ts are = omega (arith, shown_ge items (suc n) ts are)
  shown_ge (Auth c ∷ items) n [] are = absurd are
  shown_ge (Auth c ∷ items) n (t ∷ ts) are =
      omega (arith, ap content_weight are.0.tuple_is, ap path_weight are.0.tuple_is, shown_ge items (suc n) ts are.1)
  shown_ge (Name c ∷ items) n [] are = absurd are
  shown_ge (Name c ∷ items) n (t ∷ ts) are =
      omega (arith, ap content_weight are.0.tuple_is, ap path_weight are.0.tuple_is, shown_ge items (suc n) ts are.1)

  before_le : (o : Option Signed) (others : List Signed) → length (before_all o others) ≤ 1 + length others
  before_le None others = omega arith
  before_le (Some s) others = omega arith

  asked_le : (shown : List Shown) → length (asked_in policy keys shown) ≤ length shown
  asked_le [] = omega arith
  asked_le (s ∷ shown) = omega (arith, before_le (asked_of policy keys s) (asked_in policy keys shown), asked_le shown)

certificates_ge : (items : List SeqItem) (n : ℕ) → length (certificates_from n items) ≤ items_weight items
certificates_ge [] n = omega arith
certificates_ge (Key octets ∷ items) n = omega (arith, certificates_ge items (suc n))
certificates_ge (DoHash alg ∷ items) n = omega (arith, certificates_ge items (suc n))
certificates_ge (Signature s ∷ items) n = omega (arith, certificates_ge items (suc n))
certificates_ge (Auth c ∷ items) n = omega (arith, certificates_ge items (suc n))
certificates_ge (Name c ∷ items) n = omega (arith, certificates_ge items (suc n))

-- the signatures that are asked about are no more than the weight of the sequence
pub asked_ge : (c : Case) → length (asked c) ≤ items_weight c.items
asked_ge c = omega (arith, asked_le c.policy (keys_of c.items) every (certificates c.items), certificates_ge c.items 1)

-- the tuples of all certificates weigh, with one for each signature that is asked about, no more than the sequence
pub shown_and_asked_ge : (c : Case) (verified : Verified) (ts : List Tuple) → AreShown c.policy verified c.items ts
    → tuples_weight ts + length (asked c) ≤ items_weight c.items
shown_and_asked_ge c verified ts are =
    omega (arith, asked_le c.policy (keys_of c.items) verified (certificates c.items), shown_ge c.policy (keys_of c.items) verified c.items 1 ts are)

-- ---- an entry that is not spared

-- the work that it takes, and its ticks
pub ticks_taken : (before after : Option ℕ) (old new : ℕ) (policy : Policy) (tuples : List Tuple) (e : Entry)
    → AreTicksOfEntry before after old new policy 0 tuples e → (n : ℕ) × Takes before after n × (new ≤ old + 4 * n + 1)
ticks_taken before after old new policy tuples e (inl h) = absurd (both_ways (is_spared 0 tuples e.tag) (unspared tuples e.tag) h.0)
ticks_taken before after old new policy tuples e (inr h) = (h.1.work, h.1.taken, h.1.ticks)
