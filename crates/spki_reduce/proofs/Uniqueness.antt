-- Where there is only one authorization: those with one tuple are one, and are written as one value, and what a chain
-- becomes is one, since windows of the same moments are one.
use Rattle.std.proofs.Common.{◌≡◌, ℕ, List, [], ◌∷◌, ◌++◌, refl, sym, ap, ◌∙◌, rules, ◌≢◌, Bool, true, false, ◌&&◌, Option, Some, None, subst}
use Rattle.std.proofs.lemmas.{Cmp.{nat_list_cmp_total}, Map.Lookups.{exact_bytes}, Bool.{and_parts}}
use Rattle.std.specs.{Prelude.{codes}, Cmp.Lexicographic.{slice_cmp}, declared.cmp.Ordering.{Ordering, TheVariants.{Equal}}}
use Rattle.std.specs.Ordering.{nat_cmp, is_le, ordering_reverse}
use Rattle.sexpr_core.{specs.Value.{Value, canon}, proofs.Texts.{canon_one}}
use Rattle.spki_cert.specs.declared.{principal.{Principal.{Principal}, Policy.{Policy}}, window.Window.{Window}}
use Rattle.spki_cert.specs.Time.{upto, is_from, is_until, within, IsLimit}
use Rattle.spki_cert.proofs.Order.{upto-self, upto-then, upto-turned}
use Rattle.spki_reduce.specs.declared.tuple.{Issuer.{Issuer, TheVariants.{Own, Key}}, Five.{Five}}
use Rattle.spki_reduce.specs.Written.{headed, IsWrittenPrincipal, IsWrittenSubject, IsWrittenIssuer, delegation_values, in_valid, window_limits, five_value, IsWrittenFive}
use Rattle.spki_reduce.specs.{Reduction.{issuer_of, five_tuple, Tuple, five, from_left}, Chain.{FoldsTo, HasMet}}
use Rattle.spki_reduce.proofs.Derivations.{one_root}
use Rattle.spki_tag.specs.Tag.{is_date}
use Rattle.spki_cert.specs.declared.principal.Principal.TheVariants as principal

-- ---- authorizations with the same tuple are equal

issuer_one : (i j : Issuer) → issuer_of i ≡ issuer_of j → i ≡ j
issuer_one Own Own e = refl
issuer_one (Key octets) (Key others) e = ap Key cc
issuer_one i j e = absurd cc

pub five_one : (f g : Five) → five_tuple f ≡ five_tuple g → f ≡ g
five_one f g e = search (rules, issuer_one)

-- ---- an authorization is written as one value

-- a canonical text is that of one value only
value_one : (octets : List ℕ) (v w : Value) → octets ≡ canon v → octets ≡ canon w → v ≡ w
value_one octets v w a b = (canon_one v w [] [] (ap (λ (text : List ℕ). text ++ []) (sym a ∙ b))).0

written_principal : (p : Principal) (v w : Value) → IsWrittenPrincipal p v → IsWrittenPrincipal p w → v ≡ w
written_principal (principal.Key octets) v w a b = value_one octets v w a b
written_principal (principal.Hash alg digest) v w a b = a ∙ sym b

written_subject : (p : Principal) (ns : List (List ℕ)) (v w : Value) → IsWrittenSubject p ns v → IsWrittenSubject p ns w → v ≡ w
written_subject p ns v w (owner, is, written) (other, also, spelled) = search (rules, written_principal)

written_issuer : (i : Issuer) (vs ws : List Value) → IsWrittenIssuer i vs → IsWrittenIssuer i ws → vs ≡ ws
written_issuer Own vs ws a b = a ∙ sym b
written_issuer (Key octets) vs ws (key, is, written) (other, also, spelled) =
    written ∙ ap (λ (k : Value). headed (codes "issuer") (k ∷ []) ∷ []) (value_one octets key other is also) ∙ sym spelled

pub written_one : (f : Five) (v w : Value) → IsWrittenFive f v → IsWrittenFive f w → v ≡ w
written_one f v w a b =
    let issuer : a.issuer ≡ b.issuer = written_issuer f.issuer a.issuer b.issuer a.issuer_is b.issuer_is in
    let subject : a.subject ≡ b.subject =
    written_subject f.subject.principal f.subject.names a.subject b.subject a.subject_is b.subject_is in
    a.written
    ∙ (λ i. five_value ((issuer i ++ headed (codes "subject") (subject i ∷ []) ∷ []) ++ delegation_values f.propagate) f.tag (in_valid (window_limits f.window)))
    ∙ sym b.written

-- ---- the order of moments

tied : (o : Ordering) → is_le o ≡ true → is_le (ordering_reverse o) ≡ true → o ≡ Equal
tied Equal h k = refl
tied o h k = absurd cc

upto-both : (s t : List ℕ) → upto s t ≡ true → upto t s ≡ true → s ≡ t
upto-both s t h k =
    exact_bytes s t (tied (slice_cmp nat_cmp s t) h (sym (ap is_le (nat_list_cmp_total.antisymm t s)) ∙ k))

-- no date is the empty string, below all
dated : (s : List ℕ) → is_date s ≡ true → upto s [] ≡ false
unfolding is_date
dated [] e = absurd cc
dated (octet ∷ octets) e = refl

until-empty : (q : Option (List ℕ)) → is_until q [] ≡ true
until-empty (Some (octet ∷ octets)) = refl
until-empty q = refl

-- no string is the greatest: with one octet more it is above
beyond : (s : List ℕ) → upto (s ++ 0 ∷ []) s ≡ false
beyond [] = refl
beyond (octet ∷ octets) = search (rules, beyond octets)

-- ---- windows with the same moments are equal

abbrev inside : Option (List ℕ) → Option (List ℕ) → List ℕ → Bool
inside p q t = is_from p t && is_until q t

from-then : (p : Option (List ℕ)) (s t : List ℕ) → is_from p s ≡ true → upto s t ≡ true → is_from p t ≡ true
from-then None s t h k = refl
from-then (Some a) s t h k = upto-then a s t h k

until-then : (q : Option (List ℕ)) (s t : List ℕ) → upto s t ≡ true → is_until q t ≡ true → is_until q s ≡ true
until-then None s t h k = refl
until-then (Some c) s t h k = upto-then s t c h k

module _ (p q r u : Option (List ℕ)) (same : (t : List ℕ) → inside p q t ≡ inside r u t) (t : List ℕ) (here : inside p q t ≡ true) where
  moved : (s : List ℕ) → is_from p s ≡ true → is_until q s ≡ true → (is_from r s ≡ true) × (is_until u s ≡ true)
  moved s h k = and_parts (is_from r s) (is_until u s) (sym (same s) ∙ (λ i. h i && k i))

  -- the first moment is in the other window
  first_in : (a : List ℕ) → p ≡ Some a → is_from r a ≡ true
  first_in a e = search (rules, and_parts, moved, upto-self, until-then)

  -- the last moment is in the other window too
  last_in : (c : List ℕ) → q ≡ Some c → is_until u c ≡ true
  last_in c e = search (rules, and_parts, moved, from-then, upto-self)

  -- a window without a first moment contains the empty string, which a window that begins at a date does not
  begins_nowhere : (b : List ℕ) → p ≡ None → r ≡ Some b → is_date b ≡ true → ⊥
  begins_nowhere b e f d =
      let at : is_from r [] ≡ true = (moved [] (subst (λ o. is_from o [] ≡ true) (sym e) refl) (until-empty q)).0 in
      let clash : true ≡ false = sym (subst (λ o. is_from o [] ≡ true) f at) ∙ dated b d in
      cc

  -- a window without a last moment contains a string above any last moment
  ends_nowhere : (d : List ℕ) → q ≡ None → u ≡ Some d → ⊥
  ends_nowhere d e f =
      let at = and_parts (is_from p t) (is_until q t) here in
      let there = moved t at.0 at.1 in
      let high : upto t d ≡ true = subst (λ o. is_until o t ≡ true) f there.1 in
      let low : is_from p (d ++ 0 ∷ []) ≡ true =
      from-then p t (d ++ 0 ∷ []) at.0 (upto-then t d (d ++ 0 ∷ []) high (upto-turned (d ++ 0 ∷ []) d (beyond d))) in
      let over = (moved (d ++ 0 ∷ []) low (subst (λ o. is_until o (d ++ 0 ∷ []) ≡ true) (sym e) refl)).1 in
      let clash : true ≡ false = sym (subst (λ o. is_until o (d ++ 0 ∷ []) ≡ true) f over) ∙ beyond d in
      cc

one_first : (p q r u : Option (List ℕ)) → IsLimit p → IsLimit r → ((t : List ℕ) → inside p q t ≡ inside r u t) → (t : List ℕ)
    → inside p q t ≡ true → p ≡ r
one_first None q None u d e same t here = refl
one_first None q (Some b) u d e same t here = absurd (begins_nowhere None q (Some b) u same t here b refl refl e)
one_first (Some a) q None u d e same t here =
    absurd (begins_nowhere None u (Some a) q (λ s. sym (same s)) t (sym (same t) ∙ here) a refl refl d)
one_first (Some a) q (Some b) u d e same t here =
    ap Some
    (upto-both a b (first_in (Some b) u (Some a) q (λ s. sym (same s)) t (sym (same t) ∙ here) b refl)
    (first_in (Some a) q (Some b) u same t here a refl))

one_last : (p q r u : Option (List ℕ)) → ((t : List ℕ) → inside p q t ≡ inside r u t) → (t : List ℕ) → inside p q t ≡ true
    → q ≡ u
one_last p None r None same t here = refl
one_last p None r (Some d) same t here = absurd (ends_nowhere p None r (Some d) same t here d refl refl)
one_last p (Some c) r None same t here =
    absurd (ends_nowhere r None p (Some c) (λ s. sym (same s)) t (sym (same t) ∙ here) c refl refl)
one_last p (Some c) r (Some d) same t here =
    ap Some
    (upto-both c d (last_in p (Some c) r (Some d) same t here c refl)
    (last_in r (Some d) p (Some c) (λ s. sym (same s)) t (sym (same t) ∙ here) d refl))

one_window : (v w : Window) → IsLimit v.not_before → IsLimit w.not_before → ((t : List ℕ) → within t v ≡ within t w) → (t : List ℕ)
    → within t v ≡ true → v ≡ w
one_window v w d e same t here =
    let first = one_first v.not_before v.not_after w.not_before w.not_after d e same t here in
    let last = one_last v.not_before v.not_after w.not_before w.not_after same t here in
    λ i. record { not_before = first i; not_after = last i }

-- ---- what a chain becomes

pub one_fold : (policy : Policy) (first : Tuple) (others : List Tuple) (f g : Five) → others ≢ [] → IsLimit f.window.not_before
    → IsLimit g.window.not_before → FoldsTo policy first others f → HasMet first others f → FoldsTo policy first others g
    → HasMet first others g → f ≡ g
one_fold policy first others f g more d e h has_met k others_met =
    let tree = from_left first others in
    let fives : five k.root ≡ five h.root = one_root policy tree tree (five k.root) (five h.root) refl k.derived h.derived in
    let roots : k.root ≡ h.root = cc in
    let reduced = rw roots at k.reduced in
    let some = h.timely more in
    let windows : f.window ≡ g.window =
    one_window f.window g.window d e (λ t. h.reduced.moments t ∙ sym (reduced.moments t)) some.0 (h.reduced.moments some.0 ∙ some.2) in
    let tags : f.tag ≡ g.tag = has_met ∙ sym others_met in
    let issuers = h.reduced.issuer ∙ sym reduced.issuer in
    let principals : f.subject.principal ≡ g.subject.principal = h.reduced.principal ∙ sym reduced.principal in
    let names : f.subject.names ≡ g.subject.names = h.reduced.names ∙ sym reduced.names in
    let allowed : f.propagate ≡ g.propagate = h.reduced.delegation ∙ sym reduced.delegation in
    five_one f g (λ i.
    record { issuer = issuers i; principal = principals i; names = names i; delegation = allowed i; tags = tags i ∷ []; windows = windows i ∷ [] })
