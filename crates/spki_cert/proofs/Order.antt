-- Moments are in order, and what follows for windows.
use Rattle.std.proofs.Common.{◌≡◌, ℕ, Bool, true, false, cond, ◌&&◌, List, Option, Some, None, refl, sym, ap, ◌∙◌, rules}
use Rattle.std.proofs.{lemmas.{Cmp.{nat_list_cmp_total, upto as goes_on, tied_itself}, Bool.{and_parts}}, Math.Bool.{and-true, and_comm}}
use Rattle.std.specs.{Prelude.{codes}, Cmp.Lexicographic.{slice_cmp}, declared.cmp.Ordering.{Ordering, TheVariants.{Greater}}}
use Rattle.std.specs.Ordering.{nat_cmp, is_le, is_gt, ordering_reverse}
use Rattle.spki_cert.specs.declared.window.Window.{Window}
use Rattle.spki_cert.specs.Time.{upto, is_from, is_until, within, later, earlier, in_order, IsLimit, IsMeet, Overlap, AreApart}
use Rattle.spki_tag.specs.Tag.{is_time, is_date}

le_or_gt : (o : Ordering) → is_le o ≡ true → is_gt o ≡ false
le_or_gt Greater e = absurd cc
le_or_gt o e = refl

gt_or_le : (o : Ordering) → is_gt o ≡ false → is_le o ≡ true
gt_or_le Greater e = absurd cc
gt_or_le o e = refl

turned : (o : Ordering) → is_le o ≡ false → is_le (ordering_reverse o) ≡ true
turned Greater e = refl
turned o e = absurd cc

pub upto-self : (s : List ℕ) → upto s s ≡ true
upto-self s = ap is_le (tied_itself nat_list_cmp_total s)

pub upto-then : (s t u : List ℕ) → upto s t ≡ true → upto t u ≡ true → upto s u ≡ true
upto-then s t u h k = search (rules, gt_or_le, goes_on, nat_list_cmp_total, le_or_gt)

pub upto-turned : (s t : List ℕ) → upto s t ≡ false → upto t s ≡ true
upto-turned s t h = ap is_le (nat_list_cmp_total.antisymm t s) ∙ turned (slice_cmp nat_cmp s t) h

-- ---- tests

-- a condition equals its conjunction with each condition that it implies
narrower : (p q : Bool) → (q ≡ true → p ≡ true) → q ≡ (p && q)
narrower false true h = absurd (let e : false ≡ true = h refl in cc)
narrower p q h = refl

regrouped : (p q r s : Bool) → ((p && q) && (r && s)) ≡ ((p && r) && (q && s))
regrouped true false true s = refl
regrouped p q r s = refl

-- ---- limits

from-chosen : (s r t : List ℕ) (b : Bool) → upto s r ≡ b → upto (cond b r s) t ≡ (upto s t && upto r t)
from-chosen s r t true e = narrower (upto s t) (upto r t) (λ h. upto-then s r t e h)
from-chosen s r t false e = narrower (upto r t) (upto s t) (λ h. upto-then r s t (upto-turned s r e) h) ∙ and_comm (upto r t) (upto s t)

is_from-later : (p q : Option (List ℕ)) (t : List ℕ) → is_from (later p q) t ≡ (is_from p t && is_from q t)
is_from-later None q t = refl
is_from-later (Some s) None t = sym (and-true (upto s t))
is_from-later (Some s) (Some r) t = from-chosen s r t (upto s r) refl

until-chosen : (s r t : List ℕ) (b : Bool) → upto s r ≡ b → upto t (cond b s r) ≡ (upto t s && upto t r)
until-chosen s r t true e = narrower (upto t r) (upto t s) (λ h. upto-then t s r h e) ∙ and_comm (upto t r) (upto t s)
until-chosen s r t false e = narrower (upto t s) (upto t r) (λ h. upto-then t r s h (upto-turned s r e))

is_until-earlier : (p q : Option (List ℕ)) (t : List ℕ) → is_until (earlier p q) t ≡ (is_until p t && is_until q t)
is_until-earlier None q t = refl
is_until-earlier (Some s) None t = sym (and-true (upto t s))
is_until-earlier (Some s) (Some r) t = until-chosen s r t (upto s r) refl

-- ---- windows

-- the window of the later not-before and the earlier not-after, in order or not
abbrev pub inner : Window → Window → Window
inner v w = record { not_before = later v.not_before w.not_before; not_after = earlier v.not_after w.not_after }

pub within-inner : (v w : Window) → IsMeet v w (inner v w)
within-inner v w t = search (rules, is_from-later, is_until-earlier, regrouped)

-- if a moment is not before a first one and not after a last one, these are in order
in_order-around : (p q : Option (List ℕ)) (t : List ℕ) → is_from p t ≡ true → is_until q t ≡ true → in_order p q ≡ true
in_order-around (Some s) (Some r) t h k = upto-then s t r h k
in_order-around p q t h k = refl

-- if two limits are in order, there is a moment between them
moment-between : (p q : Option (List ℕ)) → IsLimit p → IsLimit q → in_order p q ≡ true → (t : List ℕ) × (is_date t ≡ true) × (is_from p t ≡ true) × (is_until q t ≡ true)
unfolding is_date is_time
moment-between None None d e h = (codes "0000-01-01_00:00:00", refl, refl, refl)
moment-between None (Some r) d e h = (r, e, refl, upto-self r)
moment-between (Some s) None d e h = (s, d, upto-self s, refl)
moment-between (Some s) (Some r) d e h = (s, d, upto-self s, h)

pub none-apart : (v w : Window) → in_order (inner v w).not_before (inner v w).not_after ≡ false → AreApart v w
none-apart v w h t a = search (rules, within-inner, and_parts, in_order-around)

pub some-overlaps : (v w : Window) → IsLimit (inner v w).not_before → IsLimit (inner v w).not_after → in_order (inner v w).not_before (inner v w).not_after ≡ true → Overlap v w
some-overlaps v w d e h =
    let m = moment-between (inner v w).not_before (inner v w).not_after d e h in
    let k : within m.0 (inner v w) ≡ true = λ i. m.2 i && m.3 i in
    let p = and_parts (within m.0 v) (within m.0 w) (sym (within-inner v w m.0) ∙ k) in
    (m.0, m.1, p.0, p.1)
