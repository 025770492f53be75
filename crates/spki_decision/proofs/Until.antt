-- The least not-after of windows, and till when what is granted is granted.
use Rattle.std.proofs.Common.{◌≡◌, ◌⊎◌, inl, inr, ℕ, zero, suc, ◌+◌, ◌<◌, ◌≤◌, true, false, List, [], ◌∷◌, ◌++◌, length, take, get_or, Option, Some, None, IsSome, slice_get, append_assoc, refl, sym, ◌∙◌, ap, subst}
use Rattle.std.proofs.lemmas.{Bool.{and_parts, and_from}, Option.{none-some, same_Some}}
use Rattle.std.specs.List.{AllZip}
use Rattle.spki_cert.specs.Time.{upto, is_from, is_until, within}
use Rattle.spki_cert.specs.declared.{window.Window.{Window}, principal.Policy.{Policy}, certificate.SeqItem.{SeqItem}, entry.Entry.{Entry}}
use Rattle.spki_cert.proofs.Order.{upto-self, upto-then, upto-turned}
use Rattle.spki_reduce.specs.{declared.tuple.Step.{Step}, Reduction.{Tuple, FiveTuple, windows_of, within_each, step_tuple, entry_tuple}}
use Rattle.spki_reduce.specs.Chain.{tuples_of, all_windows}
use Rattle.spki_case.specs.Case.{Case, Verified, certificates_from, keys_of}
use Rattle.spki_decision.specs.declared.{decision.Decision.{Decision, TheVariants.{Yes}}, grant.Grant.{Grant}}
use Rattle.spki_decision.specs.declared.{chain_requirement.ChainRequirement.{ChainRequirement}, required_subject.RequiredSubject.{RequiredSubject}}
use Rattle.spki_decision.specs.{CertificateTests.{PassesTestsAs, AreShown}, Granted.{Granted, Supported, IsDecision}}
use Rattle.spki_decision.specs.{Requirements.{IsChainRequirement, IsMetBy}, Audited.{at_moment}}
use Rattle.spki_decision.specs.Until.{IsEndOf, IsLeastEnd, HasEnd, windows_in, HoldsUntil}
use Rattle.spki_decision.proofs.{ChainRequirements.{passes, more_windows}, Monotony.{supported_then, yes_by}}
use Rattle.spki_cert.specs.declared.certificate.SeqItem.TheVariants as items

-- ---- the windows of two lists

end_front : (xs ys : List Window) (limit : List ℕ) → IsEndOf xs limit → IsEndOf (xs ++ ys) limit
end_front [] ys limit (index, w, there, is) = absurd (none-some w there)
end_front (x ∷ xs) ys limit (zero, w, there, is) = (zero, w, there, is)
end_front (x ∷ xs) ys limit (suc index, w, there, is) =
    let e = end_front xs ys limit (index, w, there, is) in (suc e.0, e.1, e.2, e.3)

end_behind : (xs ys : List Window) (limit : List ℕ) → IsEndOf ys limit → IsEndOf (xs ++ ys) limit
end_behind [] ys limit e = e
end_behind (x ∷ xs) ys limit e = let f = end_behind xs ys limit e in (suc f.0, f.1, f.2, f.3)

end_of_either : (xs ys : List Window) (limit : List ℕ) → IsEndOf (xs ++ ys) limit → IsEndOf xs limit ⊎ IsEndOf ys limit
end_of_either [] ys limit e = inr e
end_of_either (x ∷ xs) ys limit (zero, w, there, is) = inl (zero, w, there, is)
end_of_either (x ∷ xs) ys limit (suc index, w, there, is) = elim (end_of_either xs ys limit (index, w, there, is)) [
  | inl e ↦ inl (suc e.0, e.1, e.2, e.3)
  | inr e ↦ inr e
]

-- windows that have the same not-afters have the same least one
least_same : (xs ys : List Window) → ((limit : List ℕ) → IsEndOf xs limit → IsEndOf ys limit) → ((limit : List ℕ) → IsEndOf ys limit → IsEndOf xs limit)
    → (p : Option (List ℕ)) → IsLeastEnd xs p → IsLeastEnd ys p
least_same xs ys there back None none = λ other e. none other (back other e)
least_same xs ys there back (Some limit) least = (there limit least.0, λ other e. least.1 other (back other e))

pub no_end : IsLeastEnd [] None
no_end other (index, w, there, is) = none-some w there

-- ---- one window more

its_end : (w : Window) (other : List ℕ) → IsEndOf (w ∷ []) other → w.not_after ≡ Some other
its_end w other (zero, v, there, is) = ap (λ (x : Window). x.not_after) (same_Some w v there) ∙ is
its_end w other (suc index, v, there, is) = absurd (none-some v there)

module _ (windows : List Window) (w : Window) where
  -- a window without a not-after
  pub least_endless : w.not_after ≡ None → (limit : Option (List ℕ)) → IsLeastEnd windows limit → IsLeastEnd (windows ++ w ∷ []) limit
  least_endless is =
      least_same windows (windows ++ w ∷ []) (end_front windows (w ∷ []))
      (λ other e. elim (end_of_either windows (w ∷ []) other e) [ inl f ↦ f | inr f ↦ absurd (none-some other (sym is ∙ its_end w other f)) ])

  module _ (end : List ℕ) (is : w.not_after ≡ Some end) where
    same_end : (other : List ℕ) → IsEndOf (w ∷ []) other → end ≡ other
    same_end other e = same_Some end other (sym is ∙ its_end w other e)

    before_others : (limit : Option (List ℕ)) → IsLeastEnd windows limit → is_until limit end ≡ true → (other : List ℕ) → IsEndOf windows other
        → upto end other ≡ true
    before_others None none first other f = absurd (none other f)
    before_others (Some limit) least first other f = upto-then end limit other first (least.1 other f)

    -- a window that ends no later than the others
    pub least_here : (limit : Option (List ℕ)) → IsLeastEnd windows limit → is_until limit end ≡ true → IsLeastEnd (windows ++ w ∷ []) (Some end)
    least_here limit least first = (
      end_behind windows (w ∷ []) end (zero, w, refl, is),
      λ other e. elim (end_of_either windows (w ∷ []) other e) [
        | inl f ↦ before_others limit least first other f
        | inr f ↦ subst (λ (x : List ℕ). upto end x ≡ true) (same_end other f) (upto-self end)
      ],
    )

    -- a window that ends later
    pub least_before : (limit : Option (List ℕ)) → IsLeastEnd windows limit → is_until limit end ≡ false → IsLeastEnd (windows ++ w ∷ []) limit
    least_before None none late = let clash : true ≡ false = late in cc
    least_before (Some limit) least late = (
      end_front windows (w ∷ []) limit least.0,
      λ other e. elim (end_of_either windows (w ∷ []) other e) [
        | inl f ↦ least.1 other f
        | inr f ↦ subst (λ (x : List ℕ). upto limit x ≡ true) (same_end other f) (upto-turned end limit late)
      ],
    )

  -- the same least not-after, with the window put before the others
  least_first : (limit : Option (List ℕ)) → IsLeastEnd (windows ++ w ∷ []) limit → IsLeastEnd (w ∷ windows) limit
  least_first =
      least_same (windows ++ w ∷ []) (w ∷ windows)
      (λ other e. elim (end_of_either windows (w ∷ []) other e) [ inl f ↦ end_behind (w ∷ []) windows other f | inr f ↦ end_front (w ∷ []) windows other f ])
      (λ other e. elim (end_of_either (w ∷ []) windows other e) [ inl f ↦ end_behind windows (w ∷ []) other f | inr f ↦ end_front windows (w ∷ []) other f ])

-- ---- the windows of steps, and of an entry before them

pub least_more : (steps : List Step) (i : ℕ) (step : Step) → i < length steps → step ≡ get_or steps i step → (windows : List Window)
    (p : Option (List ℕ)) → IsLeastEnd ((windows ++ all_windows (tuples_of (take i steps))) ++ windows_of (step_tuple step)) p
    → IsLeastEnd (windows ++ all_windows (tuples_of (take (i + 1) steps))) p
least_more steps i step below here windows p least =
    subst (λ (ws : List Window). IsLeastEnd ws p)
    (append_assoc windows (all_windows (tuples_of (take i steps))) (windows_of (step_tuple step))
    ∙ ap (λ (ws : List Window). windows ++ ws) (sym (more_windows steps i step below here)))
    least

required_some : (policy : Policy) (required : Option RequiredSubject) (t : FiveTuple) → IsMetBy policy required t → IsSome required
required_some policy None t met = absurd met
required_some policy (Some required) t met = refl

pub until_of : (c : Case) (tuples : List Tuple) (m : ChainRequirement) (e : Entry) (until : Option (List ℕ))
    → ((windows : List Window) → IsLeastEnd windows m.until → IsLeastEnd (windows ++ e.window ∷ []) until)
    → IsChainRequirement c tuples m → HasEnd tuples m → Supported c tuples e → IsLeastEnd (e.window ∷ all_windows tuples) until
until_of c tuples m e until earlier is has supported =
    least_first (all_windows tuples) e.window until
    (earlier (all_windows tuples) (has (required_some c.policy m.required (entry_tuple e) ((is e).0 supported).0)))

-- ---- the windows of tuples are those of the certificates

windows_from : (policy : Policy) (keys : List (List ℕ)) (verified : Verified) (n : ℕ) (sequence : List SeqItem) (ts : List Tuple)
    → AllZip (PassesTestsAs policy keys verified) (certificates_from n sequence) ts → all_windows ts ≡ windows_in sequence
windows_from policy keys verified n [] [] zip = refl
windows_from policy keys verified n [] (t ∷ ts) zip = absurd zip
windows_from policy keys verified n (items.Auth cert ∷ sequence) [] zip = absurd zip
windows_from policy keys verified n (items.Auth cert ∷ sequence) (t ∷ ts) zip =
    ap (λ (u : Tuple). windows_of u ++ all_windows ts) zip.0.tuple_is
    ∙ ap (λ (ws : List Window). cert.window ∷ ws) (windows_from policy keys verified (suc n) sequence ts zip.1)
windows_from policy keys verified n (items.Name cert ∷ sequence) [] zip = absurd zip
windows_from policy keys verified n (items.Name cert ∷ sequence) (t ∷ ts) zip =
    ap (λ (u : Tuple). windows_of u ++ all_windows ts) zip.0.tuple_is
    ∙ ap (λ (ws : List Window). cert.window ∷ ws) (windows_from policy keys verified (suc n) sequence ts zip.1)
windows_from policy keys verified n (items.Key octets ∷ sequence) ts zip = windows_from policy keys verified (suc n) sequence ts zip
windows_from policy keys verified n (items.DoHash alg ∷ sequence) ts zip = windows_from policy keys verified (suc n) sequence ts zip
windows_from policy keys verified n (items.Signature s ∷ sequence) ts zip = windows_from policy keys verified (suc n) sequence ts zip

pub windows_are : (policy : Policy) (verified : Verified) (sequence : List SeqItem) (ts : List Tuple) → AreShown policy verified sequence ts
    → all_windows ts ≡ windows_in sequence
windows_are policy verified sequence ts shown = windows_from policy (keys_of sequence) verified 1 sequence ts shown

-- ---- until when a grant holds

module _ (now moment : List ℕ) (windows : List Window) (until : Option (List ℕ)) (least : IsLeastEnd windows until) where
  still_from : (limit : Option (List ℕ)) → upto now moment ≡ true → is_from limit now ≡ true → is_from limit moment ≡ true
  still_from None later h = refl
  still_from (Some limit) later h = upto-then limit now moment h later

  ends_late : (last : Option (List ℕ)) → IsLeastEnd windows last → is_until last moment ≡ true → (limit : List ℕ) → IsEndOf windows limit
      → upto moment limit ≡ true
  ends_late None none before limit e = absurd (none limit e)
  ends_late (Some last) least before limit e = upto-then moment last limit before (least.1 limit e)

  still_until : (w : Window) (index : ℕ) (limit : Option (List ℕ)) → slice_get windows index ≡ Some w → w.not_after ≡ limit
      → is_until until moment ≡ true → is_until limit moment ≡ true
  still_until w index None there is before = refl
  still_until w index (Some limit) there is before = ends_late until least before limit (index, w, there, is)

  still_within : (w : Window) (index : ℕ) → slice_get windows index ≡ Some w → upto now moment ≡ true → is_until until moment ≡ true
      → within now w ≡ true → within moment w ≡ true
  still_within w index there later before h =
      let both = and_parts (is_from w.not_before now) (is_until w.not_after now) h in
      and_from (is_from w.not_before moment) (is_until w.not_after moment) (still_from w.not_before later both.0)
      (still_until w index w.not_after there refl before)

-- if a later moment is within each window that the first is within, it is within all
each_then : (now moment : List ℕ) (ws : List Window)
    → ((w : Window) (index : ℕ) → slice_get ws index ≡ Some w → within now w ≡ true → within moment w ≡ true)
    → within_each now ws ≡ true → within_each moment ws ≡ true
each_then now moment [] still all = refl
each_then now moment (w ∷ ws) still all =
    let both = and_parts (within now w) (within_each now ws) all in
    and_from (within moment w) (within_each moment ws) (still w zero refl both.0)
    (each_then now moment ws (λ v index there. still v (suc index) there) both.1)

within_there : (moment : List ℕ) (ws : List Window) (index : ℕ) (w : Window) → slice_get ws index ≡ Some w → within_each moment ws ≡ true
    → within moment w ≡ true
within_there moment [] index w there all = absurd (none-some w there)
within_there moment (v ∷ ws) zero w there all =
    subst (λ (x : Window). within moment x ≡ true) (same_Some v w there) (and_parts (within moment v) (within_each moment ws) all).0
within_there moment (v ∷ ws) (suc index) w there all =
    within_there moment ws index w there (and_parts (within moment v) (within_each moment ws) all).1

-- a moment that is within all windows is not after the least not-after
not_over : (moment : List ℕ) (ws : List Window) (until : Option (List ℕ)) → IsLeastEnd ws until → within_each moment ws ≡ true
    → is_until until moment ≡ true
not_over moment ws None least all = refl
not_over moment ws (Some limit) ((index, w, there, is), least) all =
    let h = within_there moment ws index w there all in
    subst (λ (o : Option (List ℕ)). is_until o moment ≡ true) is (and_parts (is_from w.not_before moment) (is_until w.not_after moment) h).1

module _ (c : Case) (verified : Verified) (moment : List ℕ) (grant : Grant) (holds : HoldsUntil c (Some grant)) where
  -- the least not-after of the entry's window and those of the tuples
  least_of : (index : ℕ) (e : Entry) (tuples : List Tuple) → grant.entry ≡ suc index → slice_get c.entries index ≡ Some e
      → AreShown c.policy verified c.items tuples → IsLeastEnd (e.window ∷ all_windows tuples) grant.until
  least_of index e tuples number stands shown =
      subst (λ (ws : List Window). IsLeastEnd (e.window ∷ ws) grant.until) (sym (windows_are c.policy verified c.items tuples shown))
      (holds index e number stands)

  granted_till : upto c.moment moment ≡ true → is_until grant.until moment ≡ true → Granted grant.entry c verified
      → Granted grant.entry (at_moment c moment) verified
  granted_till later before g =
      let ws = g.entry.window ∷ all_windows g.tuples in
      let least = least_of g.index g.entry g.tuples g.numbered g.stands g.shown in
      let timely = (passes c g.tuples g.entry g.supported).timely in
      let all = each_then c.moment moment ws
      (λ w index there h. still_within c.moment moment ws grant.until least w index there later before h)
      (and_from (within c.moment g.entry.window) (within_each c.moment (all_windows g.tuples)) timely.0 timely.1) in
      let both = and_parts (within moment g.entry.window) (within_each moment (all_windows g.tuples)) all in
      record {
        index = g.index;
        numbered = g.numbered;
        entry = g.entry;
        stands = g.stands;
        tuples = g.tuples;
        shown = g.shown;
        supported = supported_then c moment g.tuples g.entry g.supported both.0 both.1;
      }

  -- till then the decision is a yes, with this number or an earlier one
  pub yes_till : upto c.moment moment ≡ true → is_until grant.until moment ≡ true → IsDecision c verified (Yes grant.entry)
      → (d : Decision) → IsDecision (at_moment c moment) verified d → (m : ℕ) × (d ≡ Yes m) × (m ≤ grant.entry)
  yes_till later before first = yes_by (at_moment c moment) verified grant.entry (granted_till later before first.granted)

  -- after it this entry is not granted
  pub none_after : is_until grant.until moment ≡ false → ¬ Granted grant.entry (at_moment c moment) verified
  none_after after g =
      let least = least_of g.index g.entry g.tuples g.numbered g.stands g.shown in
      let timely = (passes (at_moment c moment) g.tuples g.entry g.supported).timely in
      let all = and_from (within moment g.entry.window) (within_each moment (all_windows g.tuples)) timely.0 timely.1 in
      let clash : false ≡ true = sym after ∙ not_over moment (g.entry.window ∷ all_windows g.tuples) grant.until least all in
      cc
