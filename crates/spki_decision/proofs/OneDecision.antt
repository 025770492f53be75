-- A case has one reduction. A text has one decision, one explanation and one reduction, or is refused as too large.
use Rattle.std.proofs.Common.{Some, length, slice_get, ◌<◌, arith, suc, ◌≡◌, List, [], ◌∷◌, refl, sym, ap, ◌∙◌, rules, ◌⊎◌, inl, inr, ℕ, Result, Ok, Err, subst}
use Rattle.std.proofs.lemmas.Option.{slice_get_within}
use Rattle.std.specs.List.{AllZip, AllByRecursion}
use Rattle.spki_case.{specs.Case.{Case, Verified, accepted_by, IsCaseText, keys_of, certificates}, proofs.OneCase.{text-one}}
use Rattle.spki_decision.specs.declared.reduction.EntryFold.{EntryFold, TheVariants.{Done, Stopped}}
use Rattle.spki_decision.specs.declared.reduction.Reduction.{Reduction, TheVariants.{Evidence, Entries}}
use Rattle.spki_decision.specs.declared.decision.Decision.{Decision, TheVariants.{Yes, No}}
use Rattle.spki_decision.specs.declared.{fault.GuardFault.{GuardFault, TheVariants.{TooLarge, Memory}}, explanation.Explanation.{Explanation}}
use Rattle.spki_decision.specs.Granted.{IsDecision, IsUnrefused, IsTooLarge, IsEntryFold, AreFolds, IsReduction, IsSameReduction, IsDated, AreDated, AllSmall, SmallBefore, IsFirstGranted, IsWithinWork, IsLarge, IsOverspent, HasLargeTags, HasMuchWork, SomeTooLarge}
use Rattle.spki_decision.specs.{CertificateTests.{AreShown}, Explained.{IsExplanation, IsSameExplanation}}
use Rattle.spki_decision.specs.Answered.{IsDecided, IsExplained, IsReduced, AreSame}
use Rattle.spki_decision.proofs.{CertificateTests.{one_list}, Explanations.{one_failure, are_tagged, one_item, one_explanation}}
use Rattle.spki_decision.proofs.Charges.{not_overspent}
use Rattle.spki_cert.specs.{declared.entry.Entry.{Entry}, Time.{IsLimit}}
use Rattle.spki_reduce.specs.{declared.tuple.Five.{Five}, Reduction.{Tuple, five, entry_tuple}}
use Rattle.spki_reduce.proofs.{Uniqueness.{five_one, one_fold}, Through.{AreTagged, becomes_nothing}}
use Rattle.spki_decision.specs.declared.explanation.Explanation.TheVariants as explanation
use Rattle.spki_decision.specs.declared.reduction.Reduction.TheVariants as reduction

-- ---- a case has a decision that skips no refusal, or is refused, but not both

-- if the first `count` entries have small chains, and their work is within the limit, none of them is too large or over the limit
pub unlike : (c : Case) (tuples : List Tuple) (count : ℕ) → SmallBefore c tuples count → IsWithinWork c tuples count → (index : ℕ) (e : Entry)
    → index < count → slice_get c.entries index ≡ Some e → IsLarge c tuples e ⊎ IsOverspent c tuples index e → ⊥
unlike c tuples count small worked index e below stands (inl h) = small index e below stands h.at
unlike c tuples count small worked index e below stands (inr h) = not_overspent c tuples index count e below stands worked h

pub not_both : (c : Case) (verified : Verified) (d : Decision) → IsDecision c verified d → IsUnrefused c verified d
    → ¬ IsTooLarge c verified
not_both c verified (Yes n) decision small large =
    let behind : ¬ (n < suc large.index) = λ less. large.none_granted n less decision.granted in
    let up_to = small large.tuples large.shown in
    unlike c large.tuples n up_to.0 up_to.1 large.index large.entry (omega (arith, behind)) large.stands large.at
not_both c verified No decision small large =
    let all = small large.tuples large.shown in
    unlike c large.tuples (length c.entries) all.0 all.1 large.index large.entry
    (slice_get_within c.entries large.index large.entry large.stands) large.stands large.at

-- ---- a case has one reduction

-- without certificates an entry becomes its own tuple
both_done : (c : Case) (e : Entry) (tuples : List Tuple) (f g : Five) → IsLimit f.window.not_before → IsLimit g.window.not_before
    → IsEntryFold c tuples e (Done f) → IsEntryFold c tuples e (Done g) → f ≡ g
both_done c e [] f g d l h k = five_one f g (h.2 refl ∙ sym (k.2 refl))
both_done c e (t ∷ ts) f g d l h k =
    one_fold c.policy (five (entry_tuple e)) (t ∷ ts) f g (λ none_left. absurd cc) d l h.0 h.1 k.0 k.1

module _ (c : Case) (tuples : List Tuple) (tagged : AreTagged tuples) where
  one_entry : (e : Entry) (a b : EntryFold) → IsDated a → IsDated b → IsEntryFold c tuples e a → IsEntryFold c tuples e b
      → a ≡ b
  one_entry e (Done f) (Done g) d l h k = ap Done (both_done c e tuples f g d l h k)
  one_entry e (Done f) (Stopped item cause) d l h k =
      absurd (becomes_nothing c.policy (five (entry_tuple e)) tuples tagged k.step cause k.stops f h.0 h.1)
  one_entry e (Stopped item cause) (Done f) d l h k =
      absurd (becomes_nothing c.policy (five (entry_tuple e)) tuples tagged h.step cause h.stops f k.0 k.1)
  one_entry e (Stopped item a) (Stopped other b) d l h k =
      let same = one_item c tuples tagged e item other a b h k in λ i. Stopped (same.0 i) (same.1 i)

  each_one : (es : List Entry) (xs ys : List EntryFold) → AllByRecursion IsDated xs → AllByRecursion IsDated ys
      → AllZip (IsEntryFold c tuples) es xs → AllZip (IsEntryFold c tuples) es ys → xs ≡ ys
  each_one [] [] [] d l h k = refl
  each_one (e ∷ es) (x ∷ xs) (y ∷ ys) d l h k =
      λ i. one_entry e x y d.0 l.0 h.0 k.0 i ∷ each_one es xs ys d.1 l.1 h.1 k.1 i
  each_one es xs ys d l h k = search

pub one_answer : (c : Case) (verified : Verified) (xs ys : List EntryFold) → AllByRecursion IsDated xs → AllByRecursion IsDated ys
    → AreFolds c verified xs → AreFolds c verified ys → xs ≡ ys
one_answer c verified xs ys d l h k = search (rules, one_list, each_one, are_tagged)

pub one_reduction : (c : Case) (verified : Verified) (x y : Reduction) → AreDated x → AreDated y → IsReduction c verified x
    → IsReduction c verified y → IsSameReduction x y
one_reduction c verified (Evidence item stop) (Evidence other last) d l h k =
    one_failure c.policy verified c.items item other stop last h.fails k.fails
one_reduction c verified (Evidence item stop) (Entries folds) d l h k = h.none_shown k.tuples k.shown
one_reduction c verified (Entries folds) (Evidence item stop) d l h k = k.none_shown h.tuples h.shown
one_reduction c verified (Entries folds) (Entries others) d l h k = one_answer c verified folds.items others.items d l h k

-- ---- one answer of each kind to a case

module _ (c : Case) (verified : Verified) where
  least_one : (n m : ℕ) → IsFirstGranted n c verified → IsFirstGranted m c verified → n ≡ m
  least_one n m a b = search rules

  pub decision_one : (x y : Decision) → IsDecision c verified x → IsDecision c verified y → x ≡ y
  decision_one (Yes n) (Yes m) a b = ap Yes (least_one n m a b)
  decision_one (Yes n) No a b = absurd (b n a.granted)
  decision_one No (Yes m) a b = absurd (a m b.granted)
  decision_one No No a b = refl

  pub decided_one : (x y : Result Decision GuardFault) → IsDecided c verified x → IsDecided c verified y → x ≡ y
  decided_one (Ok x) (Ok y) a b = ap Ok (decision_one x y a.0 b.0)
  decided_one (Ok x) (Err TooLarge) a b = absurd (not_both c verified x a.0 a.1 b)
  decided_one (Err TooLarge) (Ok y) a b = absurd (not_both c verified y b.0 b.1 a)
  decided_one (Err TooLarge) (Err TooLarge) a b = refl
  decided_one x y a b = search

  -- the answer of `decide` is the decision, or the refusal TooLarge
  pub decided_or_large : (x : Result Decision GuardFault) (d : Decision) → IsDecided c verified x → IsDecision c verified d
      → (x ≡ Ok d) ⊎ (x ≡ Err TooLarge)
  decided_or_large (Ok x) d a b = inl (ap Ok (decision_one x d a.0 b))
  decided_or_large (Err TooLarge) d a b = inr refl
  decided_or_large (Err Memory) d a b = absurd a

  apart : (tuples : List Tuple) → AllSmall c tuples → IsWithinWork c tuples (length c.entries) → HasLargeTags c tuples ⊎ HasMuchWork c tuples → ⊥
  apart tuples small worked (inl h) =
      unlike c tuples (length c.entries) small worked h.index h.entry (slice_get_within c.entries h.index h.entry h.stands) h.stands (inl h.is)
  apart tuples small worked (inr h) =
      unlike c tuples (length c.entries) small worked h.index h.entry (slice_get_within c.entries h.index h.entry h.stands) h.stands (inr h.spent)

  -- if no chain is too large, and the work is within its limit, the case is not refused as too large
  all_small : (tuples : List Tuple) → AreShown c.policy verified c.items tuples → AllSmall c tuples → IsWithinWork c tuples (length c.entries)
      → SomeTooLarge c verified → ⊥
  all_small tuples shown small worked some =
      let same : some.tuples ≡ tuples = one_list c.policy (keys_of c.items) verified (certificates c.items) some.tuples tuples some.shown shown in
      apart some.tuples (subst (AllSmall c) (sym same) small) (subst (λ (ts : List Tuple). IsWithinWork c ts (length c.entries)) (sym same) worked) some.large

  pub explained_small : (x : Explanation) → IsExplanation c verified x → SomeTooLarge c verified → ⊥
  explained_small (explanation.Evidence item stop) a some = a.none_shown some.tuples some.shown
  explained_small (explanation.Entries reasons) a some = all_small a.tuples a.shown a.within_limit a.worked some

  pub explained_one : (x y : Result Explanation GuardFault) → IsExplained c verified x → IsExplained c verified y
      → AreSame IsSameExplanation x y
  explained_one (Ok x) (Ok y) a b = one_explanation c verified x y a b
  explained_one (Ok x) (Err TooLarge) a b = explained_small x a b
  explained_one (Err TooLarge) (Ok y) a b = explained_small y b a
  explained_one (Err TooLarge) (Err TooLarge) a b = refl
  explained_one x y a b = search

  pub folds_small : (folds : List EntryFold) → AreFolds c verified folds → SomeTooLarge c verified → ⊥
  folds_small folds a some = all_small a.tuples a.shown a.within_limit a.worked some

  pub reduced_small : (x : Reduction) → IsReduction c verified x → SomeTooLarge c verified → ⊥
  reduced_small (reduction.Evidence item stop) a some = a.none_shown some.tuples some.shown
  reduced_small (reduction.Entries folds) a some = folds_small folds.items a some

  pub reduced_one : (x y : Result Reduction GuardFault) → IsReduced c verified x → IsReduced c verified y
      → AreSame IsSameReduction x y
  reduced_one (Ok x) (Ok y) a b = one_reduction c verified x y a.1 b.1 a.0 b.0
  reduced_one (Ok x) (Err TooLarge) a b = reduced_small x a.0 b
  reduced_one (Err TooLarge) (Ok y) a b = reduced_small y b.0 a
  reduced_one (Err TooLarge) (Err TooLarge) a b = refl
  reduced_one x y a b = search

-- ---- one answer of each kind to a text

-- answers to two cases are the same if both cases are read from one text
module _ {A : Type 0} (Answered : Case → Verified → A → Type 0) (IsSame : A → A → Type 0)
    (one : (c : Case) (verified : Verified) (x y : A) → Answered c verified x → Answered c verified y → IsSame x y) where
  pub of_text : (verified : Verified) (text : List ℕ) (c d : Case) (x y : A) → IsCaseText text c → IsCaseText text d
      → Answered c verified x → Answered d verified y → IsSame x y
  of_text verified text c d x y read other a b =
      one c verified x y a (subst (λ (e : Case). Answered e verified y) (sym (text-one text c d read other)) b)

  -- answers to two cases of one text are the same, if the verifier is the accepted list of each case
  pub own_of_text : (text : List ℕ) (c d : Case) (x y : A) → IsCaseText text c → IsCaseText text d
      → Answered c (accepted_by c) x → Answered d (accepted_by d) y → IsSame x y
  own_of_text text c d x y read other a b =
      one c (accepted_by c) x y a (subst (λ (e : Case). Answered e (accepted_by e) y) (sym (text-one text c d read other)) b)
