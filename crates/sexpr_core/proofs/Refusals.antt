-- The faults of a whole text: it has at most one of TooDeep, Short, Bad and Trailing, and a fault that the reader of
-- canonical form finds in a value is a fault of the whole text.
use Rattle.std.proofs.Common.{◌≡◌, ℕ, ◌+◌, ◌<◌, ◌≤◌, inl, inr, List, ◌++◌, take, drop, refl, sym, ap, subst, arith, append_assoc, rules, ◌≢◌, [], length, ◌∙◌, append-nil, length-drop, length-append, suc}
use Rattle.std.proofs.lemmas.{List.{take-append-drop, take-take, length-take-le, take_at}, Bool.{cases_order}}
use Rattle.sexpr_core.specs.declared.fault.FormFault.{FormFault, TheVariants.{TooLong, TooDeep, Short, Bad, Trailing, Memory}}
use Rattle.sexpr_core.specs.declared.layout.Record.{Record}
use Rattle.sexpr_core.specs.Reading.{Begins, Front, IsOfForm, IsCanon, IsShallowText, Refused, IsBodyFault, RefusesBody, IsCanonWithin, ReadsValue}
use Rattle.sexpr_core.specs.{Value.{Value, canon, IsShallow, IsWithinLimits}, Inner.PartFaults.{Barred, FaultAt}}
use Rattle.sexpr_core.proofs.{Texts.{canon_one}, Steps.{read_length}}

-- ---- octets up to an offset, for texts of any form

-- a beginning of octets of G is in G
abbrev pub HasFronts : (List ℕ → Type 0) → Type 0
HasFronts G = (x y : List ℕ) → G (x ++ y) → G x

pub begins_front : (T : List ℕ → Type 0) → HasFronts (Begins T)
begins_front T x y b = record { rest = y ++ b.rest; whole = subst T (append_assoc x y b.rest) b.whole }

pub front_begins : (T : List ℕ → Type 0) (xs : List ℕ) → Front T xs → Begins T xs
front_begins T xs f = record { rest = f.rest; whole = f.whole }

pub goes_less : (G : List ℕ → Type 0) → HasFronts G → (m n : ℕ) (xs : List ℕ) → m ≤ n → G (take n xs) → G (take m xs)
goes_less G front m n xs h g = search (rules, take-append-drop m (take n xs), take-take m n xs h)

pub goes_part : (G : List ℕ → Type 0) → HasFronts G → (n : ℕ) (xs : List ℕ) → G xs → G (take n xs)
goes_part G front n xs g = front (take n xs) (drop n xs) (subst G (sym (take-append-drop n xs)) g)

-- ---- the first octet with which a text may not continue

-- W: the octets that may continue within the limits. A: those that may continue at all.
pub record StopsThere (W A : List ℕ → Type 0) (text : List ℕ) (at : ℕ) : Type 0 where
  pub begun : W (take at text)
  pub ended : A (take (at + 1) text) → ⊥

module _ (W A : List ℕ → Type 0) (front : HasFronts W) (any : (x : List ℕ) → W x → A x) (text : List ℕ) where
  stops_once : (i j : ℕ) → StopsThere W A text i → StopsThere W A text j → i < j → ⊥
  stops_once i j a b h = a.ended (any (take (i + 1) text) (goes_less W front (i + 1) j text (omega arith) b.begun))

  pub at_one : (i j : ℕ) → StopsThere W A text i → StopsThere W A text j → i ≡ j
  at_one i j a b = search (rules, cases_order, stops_once)

  pub no_short : (at : ℕ) → StopsThere W A text at → W text → ⊥
  no_short at s g = s.ended (any (take (at + 1) text) (goes_part W front (at + 1) text g))

  pub no_deep : HasFronts A → (at n : ℕ) → StopsThere W A text at → A (take n text) → (W (take n text) → ⊥) → ⊥
  no_deep fronts at n s b h = elim (cases_order n at) [
    | inl e ↦ h (goes_less W front n at text (omega arith) s.begun)
    | inr (inl k) ↦ h (goes_less W front n at text (omega arith) s.begun)
    | inr (inr k) ↦ s.ended (goes_less A fronts (at + 1) n text (omega arith) b)
  ]

-- ---- at most one fault

-- what the faults R say of a text, so that it has at most one of them
pub record AreApart (W A : List ℕ → Type 0) (text : List ℕ) (R : FormFault → Type 0) : Type 0 where
  pub short : R Short → W text
  pub bad : (at : ℕ) → R (Bad at) → StopsThere W A text at
  pub trailing : (at : ℕ) → R (Trailing at) → StopsThere W A text at
  pub short_deep : R Short → R TooDeep → ⊥
  pub bad_deep : (at : ℕ) → R (Bad at) → R TooDeep → ⊥
  pub trailing_deep : (at : ℕ) → R (Trailing at) → R TooDeep → ⊥
  pub bad_trailing : (at : ℕ) → R (Bad at) → R (Trailing at) → ⊥

module _ (W A : List ℕ → Type 0) (front : HasFronts W) (any : (x : List ℕ) → W x → A x) (text : List ℕ)
    (R : FormFault → Type 0) (k : AreApart W A text R)
  where
    apart_at : (i j : ℕ) → R (Bad i) → R (Trailing j) → ⊥
    apart_at i j a b = k.bad_trailing j (subst (λ n. R (Bad n)) (at_one W A front any text i j (k.bad i a) (k.trailing j b)) a) b

    pub one_fault : (e f : FormFault) → IsOfForm e → IsOfForm f → R e → R f → e ≡ f
    one_fault TooDeep TooDeep p q a b = refl
    one_fault TooDeep Short p q a b = absurd (k.short_deep b a)
    one_fault TooDeep (Bad j) p q a b = absurd (k.bad_deep j b a)
    one_fault TooDeep (Trailing j) p q a b = absurd (k.trailing_deep j b a)
    one_fault Short TooDeep p q a b = absurd (k.short_deep a b)
    one_fault Short Short p q a b = refl
    one_fault Short (Bad j) p q a b = absurd (no_short W A front any text j (k.bad j b) (k.short a))
    one_fault Short (Trailing j) p q a b = absurd (no_short W A front any text j (k.trailing j b) (k.short a))
    one_fault (Bad i) TooDeep p q a b = absurd (k.bad_deep i a b)
    one_fault (Bad i) Short p q a b = absurd (no_short W A front any text i (k.bad i a) (k.short b))
    one_fault (Bad i) (Bad j) p q a b = ap Bad (at_one W A front any text i j (k.bad i a) (k.bad j b))
    one_fault (Bad i) (Trailing j) p q a b = absurd (apart_at i j a b)
    one_fault (Trailing i) TooDeep p q a b = absurd (k.trailing_deep i a b)
    one_fault (Trailing i) Short p q a b = absurd (no_short W A front any text i (k.trailing i a) (k.short b))
    one_fault (Trailing i) (Bad j) p q a b = absurd (apart_at j i b a)
    one_fault (Trailing i) (Trailing j) p q a b = ap Trailing (at_one W A front any text i j (k.trailing i a) (k.trailing j b))
    one_fault _ _ p q a b = search rules

    -- a text that is read has none of them
    pub no_fault : W text → (R Short → ⊥) → (R TooDeep → ⊥) → (e : FormFault) → IsOfForm e → R e → ⊥
    no_fault goes short deep TooDeep p r = deep r
    no_fault goes short deep Short p r = short r
    no_fault goes short deep (Bad at) p r = no_short W A front any text at (k.bad at r) goes
    no_fault goes short deep (Trailing at) p r = no_short W A front any text at (k.trailing at r) goes
    no_fault goes short deep _ p r = absurd p

-- ---- the first octet with which no canonical text continues

any_depth : (xs : List ℕ) → IsShallowText xs → IsCanon xs
any_depth xs s = record { value = s.value; is = s.is }

begins_any : (xs : List ℕ) → Begins IsShallowText xs → Begins IsCanon xs
begins_any xs b = record { rest = b.rest; whole = any_depth (xs ++ b.rest) b.whole }

-- ---- whole texts

-- a canonical text is no proper prefix of another
no_front : (xs : List ℕ) → IsCanon xs → Front IsShallowText xs → ⊥
no_front xs s f =
    let w : IsShallowText (xs ++ f.rest) = f.whole in
    let e : canon s.value ++ f.rest ≡ canon w.value ++ [] =
    ap (λ t. t ++ f.rest) (sym s.is) ∙ w.is ∙ sym (append-nil (canon w.value)) in
    let p = canon_one s.value w.value f.rest [] e in
    let some : 0 < length f.rest = f.some in
    omega (arith, ap length p.1)

longer : (at : ℕ) (text : List ℕ) → at < length text → 0 < length (drop at (take (at + 1) text))
longer at text h = omega (arith, length-drop at (take (at + 1) text), length-take-le (at + 1) text (omega arith))

ends_there :
    (text : List ℕ) (at : ℕ) → at < length text → IsShallowText (take at text) →
    Begins IsCanon (take (at + 1) text) → ⊥
ends_there text at h s b =
    let c : IsCanon (take (at + 1) text ++ b.rest) = b.whole in
    let t : take (at + 1) text ≡ take at text ++ drop at (take (at + 1) text) =
    sym (take-append-drop at (take (at + 1) text))
    ∙ ap (λ k. k ++ drop at (take (at + 1) text)) (take-take at (at + 1) text (omega arith)) in
    let e : canon s.value ++ (drop at (take (at + 1) text) ++ b.rest) ≡ canon c.value ++ [] =
    sym (append_assoc (canon s.value) (drop at (take (at + 1) text)) b.rest)
    ∙ ap (λ k. (k ++ drop at (take (at + 1) text)) ++ b.rest) (sym s.is)
    ∙ ap (λ k. k ++ b.rest) (sym t) ∙ c.is ∙ sym (append-nil (canon c.value)) in
    let p = canon_one s.value c.value (drop at (take (at + 1) text) ++ b.rest) [] e in
    omega (arith, ap length p.1, length-append (drop at (take (at + 1) text)) b.rest, longer at text h)

stops_bad : (text : List ℕ) (at : ℕ) → Refused text (Bad at) → StopsThere (Begins IsShallowText) (Begins IsCanon) text at
stops_bad text at r = record { begun = front_begins IsShallowText (take at text) r.1; ended = r.2 }

stops_trailing : (text : List ℕ) (at : ℕ) → Refused text (Trailing at) → StopsThere (Begins IsShallowText) (Begins IsCanon) text at
stops_trailing text at r = search (rules, append-nil (take at text), ends_there text at r.0 r.1)

-- ---- a text has at most one of these faults

not_deep : (text : List ℕ) (at : ℕ) → StopsThere (Begins IsShallowText) (Begins IsCanon) text at → Refused text TooDeep → ⊥
not_deep text at s d = search (rules, no_deep, begins_front, begins_any)

short_deep : (text : List ℕ) → Refused text Short → Refused text TooDeep → ⊥
short_deep text a b = b.2 (goes_part (Begins IsShallowText) (begins_front IsShallowText) b.0 text (front_begins IsShallowText text a))

are_apart : (text : List ℕ) → AreApart (Begins IsShallowText) (Begins IsCanon) text (Refused text)
are_apart text = record {
  short = front_begins IsShallowText text;
  bad = stops_bad text;
  trailing = stops_trailing text;
  short_deep = short_deep text;
  bad_deep = λ at r. not_deep text at (stops_bad text at r);
  trailing_deep = λ at r. not_deep text at (stops_trailing text at r);
  bad_trailing = λ at a b. no_front (take at text) (any_depth (take at text) b.1) a.1;
}

pub one_refusal : (text : List ℕ) (e f : FormFault) → IsOfForm e → IsOfForm f → Refused text e → Refused text f → e ≡ f
one_refusal text = one_fault (Begins IsShallowText) (Begins IsCanon) (begins_front IsShallowText) begins_any text (Refused text) (are_apart text)

-- a text that is read has none of them
pub no_refusal : (text : List ℕ) (e : FormFault) (v : Value) → IsOfForm e → Refused text e → IsWithinLimits v → text ≢ canon v
no_refusal text e v p r w same =
    let whole : IsShallowText text = record { value = v; fits = w.shallow; is = same } in
    let goes : Begins IsShallowText text = record { rest = []; whole = subst IsShallowText (sym (append-nil text)) whole } in
    no_fault (Begins IsShallowText) (Begins IsCanon) (begins_front IsShallowText) begins_any text (Refused text) (are_apart text) goes
    (no_front text (any_depth text whole)) (λ d. d.2 (goes_part (Begins IsShallowText) (begins_front IsShallowText) d.0 text goes)) e p r

-- ---- octets that are no canonical text of a value of any depth

goes_on_deep : (text : List ℕ) (n : ℕ) (v : Value) → text ≡ canon v → Begins IsCanon (take n text)
goes_on_deep text n v same = record { rest = drop n text; whole = record { value = v; is = take-append-drop n text ∙ same } }

pub body_refused : (octets : List ℕ) (at : ℕ) (inner fault : FormFault) → length octets ≤ 1048576 → Refused octets inner → IsBodyFault inner at fault
    → RefusesBody octets at fault
body_refused octets at TooLong fault few r e = absurd (omega (arith, r))
body_refused octets at TooDeep fault few r e = subst (RefusesBody octets at) (sym e) r
body_refused octets at Short fault few r e =
    subst (RefusesBody octets at) (sym e) (refl, λ v same. no_front octets (record { value = v; is = same }) r, short_deep octets r)
body_refused octets at (Bad k) fault few r e =
    subst (RefusesBody octets at) (sym e) (refl, λ v same. r.2 (goes_on_deep octets (k + 1) v same), not_deep octets k (stops_bad octets k r))
body_refused octets at (Trailing k) fault few r e =
    subst (RefusesBody octets at) (sym e)
    (refl, λ v same. ends_there octets k r.0 r.1 (goes_on_deep octets (k + 1) v same), not_deep octets k (stops_trailing octets k r))
body_refused octets at Memory fault few r e = subst (RefusesBody octets at) (sym e) tt

-- the canonical text of a shallow value is not too deep
pub shallow_text : (octets : List ℕ) (v : Value) → IsShallow v → octets ≡ canon v → Refused octets TooDeep → ⊥
shallow_text octets v h same r = search (rules, take-append-drop r.0 octets)

-- ---- from the fault of a value at the beginning of a text to that of the whole text

barred_begins : (T : List ℕ → Type 0) (xs : List ℕ) → Barred T xs → Begins T xs → ⊥
barred_begins T xs h b = h.bars (xs ++ b.rest) b.rest [] b.whole (sym (append-nil (xs ++ b.rest)))

pub refused : (text : List ℕ) (e : FormFault) → FaultAt IsCanon (IsCanonWithin 64) 0 text e → Refused text e
refused text TooDeep h = search (rules, front_begins, barred_begins)
refused text (Bad k) h =
    let e : h.index ≡ k = let o : k ≡ 0 + h.index = h.offset in omega arith in
    let f : suc h.index ≡ k + 1 = omega arith in
    search (rules, barred_begins)
refused text _ h = search rules

-- ---- a whole value

pub whole_length :
    (text : List ℕ) (to : ℕ) (old new : List Record) (r : ReadsValue 64 text 0 to old new) →
    to ≡ length (canon r.value)
whole_length text to old new r = omega (arith, read_length text (canon r.value) 0 to (omega arith) r.within r.spelled)

pub trailing :
    (text : List ℕ) (to : ℕ) (old new : List Record) → ReadsValue 64 text 0 to old new → to < length text →
    Refused text (Trailing to)
trailing text to old new r h = search (rules, take_at, whole_length text to old new r)

-- ---- a canonical text within the limits is refused only if memory ran out

part : (text : List ℕ) (v : Value) (n : ℕ) → text ≡ canon v → take n text ++ drop n text ≡ canon v
part text v n e = take-append-drop n text ∙ e

pub only_memory :
    (text : List ℕ) (e : FormFault) (v : Value) → IsWithinLimits v → text ≡ canon v → Refused text e →
    e ≡ Memory
only_memory text TooLong v w q h = let s : length (canon v) ≤ 1048576 = w.short in absurd (omega (arith, ap length q))
only_memory text TooDeep v w q h = absurd (search (rules, part text v h.0 q))
only_memory text Short v w q h =
    let s : IsShallowText (text ++ h.rest) = h.whole in
    let e : canon v ++ h.rest ≡ canon s.value ++ [] =
    ap (λ t. t ++ h.rest) (sym q) ∙ s.is ∙ sym (append-nil (canon s.value)) in
    let p = canon_one v s.value h.rest [] e in
    let some : 0 < length h.rest = h.some in
    absurd (omega (arith, ap length p.1))
only_memory text (Bad k) v w q h = absurd (search (rules, part text v (k + 1) q))
only_memory text (Trailing k) v w q h =
    let s : IsShallowText (take k text) = h.1 in
    let e : canon v ++ [] ≡ canon s.value ++ drop k text =
    append-nil (canon v) ∙ sym (part text v k q) ∙ ap (λ t. t ++ drop k text) s.is in
    let p = canon_one v s.value [] (drop k text) e in
    let l : k < length text = h.0 in
    absurd (omega (arith, ap length p.1, length-drop k text))
only_memory text Memory v w q h = refl
