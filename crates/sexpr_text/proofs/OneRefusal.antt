-- The faults of a text in advanced form, and of a text in any form. A text has at most one of TooDeep, Short, Bad and
-- Trailing.
use Rattle.std.proofs.Common.{◌≡◌, ℕ, List, take, append-nil, rules, ◌+◌, ◌<◌, ◌≤◌, true, inl, inr, [], ◌∷◌, ◌++◌, length, drop, refl, sym, ap, ◌∙◌, arith, length-append, length-drop}
use Rattle.std.proofs.lemmas.{Bool.{cases_lt, cases_Bool}, List.{drop-drop, take-append-le}}
use Rattle.sexpr_core.specs.{declared.fault.FormFault.{FormFault, TheVariants.{TooDeep, Bad, Trailing}}, Value.{Value, plain}}
use Rattle.sexpr_core.specs.Reading.{IsOfForm, StandsAt, Passed, is_whitespace, AreSpaces, Skips, Begins, Braced, IsBraced, RefusesBraces}
use Rattle.sexpr_core.proofs.Refusals.{goes_part, StopsThere, no_deep, AreApart, one_fault, no_fault}
use Rattle.sexpr_core.proofs.Spans.{Agree, agree, same_head, skips_too, nothing_passed, one_passed, spaces_front, one_end}
use Rattle.sexpr_core.proofs.{BraceLaws.{opening, spaces_begin}, BraceRefusals.{one_brace_refusal, no_brace_refusal}}
use Rattle.sexpr_text.specs.AdvancedForm.{IsSpelledWithin, Spells, IsText, IsTextWithin}
use Rattle.sexpr_text.specs.Refusal.{GoesOn, GoesOnWithin, RefusesSpelling, IsSpelling, OpensBrace, RefusesText, IsSomeText}
use Rattle.sexpr_text.proofs.{UnclosedStrings.{goes_front, goes_on_front, goes_anyhow}, WholeTexts.{brace_unspelled}}

-- ---- a text in advanced form has at most one of these faults

spelled_goes : (text : List ℕ) (v : Value) → IsSpelledWithin text v → GoesOnWithin 64 text
spelled_goes text v w = search (rules, append-nil text)

-- ---- the first octet with which a text may not continue

abbrev Stops : List ℕ → ℕ → Type 0
Stops text at = StopsThere (GoesOnWithin 64) GoesOn text at

stops_bad : (text : List ℕ) (at : ℕ) → RefusesSpelling text (Bad at) → Stops text at
stops_bad text at r = record { begun = r.1; ended = r.3 }

stops_trailing : (text : List ℕ) (at : ℕ) → RefusesSpelling text (Trailing at) → Stops text at
stops_trailing text at r = record { begun = spelled_goes (take at text) r.1.0 r.1.1; ended = r.2 }

not_deep : (text : List ℕ) (at : ℕ) → Stops text at → RefusesSpelling text TooDeep → ⊥
not_deep text at s d = no_deep (GoesOnWithin 64) GoesOn (goes_front 64) (goes_anyhow 64) text goes_on_front at d.0 s d.1 d.2

are_apart : (text : List ℕ) → AreApart (GoesOnWithin 64) GoesOn text (RefusesSpelling text)
are_apart text = record {
  short = λ r. r.0;
  bad = stops_bad text;
  trailing = stops_trailing text;
  short_deep = λ r d. d.2 (goes_part (GoesOnWithin 64) (goes_front 64) d.0 text r.0);
  bad_deep = λ at r. not_deep text at (stops_bad text at r);
  trailing_deep = λ at r. not_deep text at (stops_trailing text at r);
  bad_trailing = λ at a b. a.2 b.1.0 b.1.1;
}

-- ---- at most one fault

pub one_refusal : (text : List ℕ) (e f : FormFault) → IsOfForm e → IsOfForm f → RefusesSpelling text e → RefusesSpelling text f → e ≡ f
one_refusal text = one_fault (GoesOnWithin 64) GoesOn (goes_front 64) (goes_anyhow 64) text (RefusesSpelling text) (are_apart text)

-- a text that is read has none of them
pub no_refusal : (text : List ℕ) (e : FormFault) (v : Value) → IsOfForm e → RefusesSpelling text e → IsSpelledWithin text v → ⊥
no_refusal text e v p r w =
    let goes = spelled_goes text v w in
    no_fault (GoesOnWithin 64) GoesOn (goes_front 64) (goes_anyhow 64) text (RefusesSpelling text) (are_apart text) goes (λ s. s.1 v w)
    (λ d. d.2 (goes_part (GoesOnWithin 64) (goes_front 64) d.0 text goes)) e p r

-- ---- texts that are spellings, and texts in braces

no_form : (text : List ℕ) (v : Value) → IsText text v → (Spells text v → ⊥) → (Braced text v → ⊥) → ⊥
no_form text v (inl m) spelled braced = spelled m
no_form text v (inr m) spelled braced = braced m

-- whitespace begins a spelling
spaces_spell : (xs : List ℕ) → AreSpaces xs → Begins IsSpelling xs
spaces_spell xs all = record {
  rest = 97 ∷ [];
  whole = record {
    value = plain (97 ∷ []);
    spelled = record {
      before = xs;
      ends_token = true;
      middle = 97 ∷ [];
      after = [];
      parts = refl;
      spaces_before = all;
      spelled = (refl, (refl, (refl, tt)));
      spaces_after = tt;
    };
  };
}

-- the octet at which a text is refused is not in the whitespace at its beginning
behind_spaces : (T : List ℕ → Type 0) (text : List ℕ) (begin at : ℕ) → ((xs : List ℕ) → AreSpaces xs → Begins T xs) → Skips text 0 begin
    → (Begins T (take (at + 1) text) → ⊥) → begin ≤ at
behind_spaces T text begin at spaces s never = search (rules, cases_lt, length-append, length-drop, take-append-le, spaces_front)

-- if a text does not begin with a brace, octets that begin no spelling begin no text in braces
no_braces : (text : List ℕ) (begin at : ℕ) → Skips text 0 begin → (((rest : List ℕ) × (drop begin text ≡ 123 ∷ rest)) → ⊥) → at < length text
    → (Begins IsSpelling (take (at + 1) text) → ⊥) → Begins IsSomeText (take (at + 1) text) → ⊥
no_braces text begin at s unopened lt never b =
    let other = take (at + 1) text ++ b.rest in
    let a : Agree text other at = agree text at b.rest lt in
    let le : begin ≤ at = behind_spaces IsSpelling text begin at spaces_spell s never in
    let w : IsSomeText other = b.whole in
    no_form other w.value w.meant (λ m. never (record { rest = b.rest; whole = record { value = w.value; spelled = m } }))
    (λ braced.
    let h = same_head text other at begin a le in
    let q : h.octet ∷ h.second ≡ 123 ∷ (braced.body ++ 125 ∷ braced.after) = sym h.second_is ∙ opening other begin w.value (skips_too text other at 0 begin a le s) braced in
    let first : h.octet ≡ 123 = cc in
    unopened (h.first, h.first_is ∙ ap (λ c. c ∷ h.first) first))

pub opens_brace : (text rest : List ℕ) (begin : ℕ) → Skips text 0 begin → drop begin text ≡ 123 ∷ rest → OpensBrace text
opens_brace text rest begin s e = record { before = s.spaces; rest = rest; parts = s.spelled ∙ ap (λ t. s.spaces ++ t) e; spaces_before = s.are_spaces }

brace_found : (text : List ℕ) (begin : ℕ) → Skips text 0 begin → (o : OpensBrace text) → drop begin text ≡ 123 ∷ o.rest
brace_found text begin s o = (one_end s.spaces o.before (drop begin text) (123 ∷ o.rest) s.are_spaces o.spaces_before s.ends refl (sym s.spelled ∙ o.parts)).1

pub spelling_refused : (text : List ℕ) (begin : ℕ) (fault : FormFault) → Skips text 0 begin → (((rest : List ℕ) × (drop begin text ≡ 123 ∷ rest)) → ⊥)
    → RefusesSpelling text fault → RefusesText text fault
unfolding RefusesText
spelling_refused text begin fault s unopened h = inr (λ o. unopened (o.rest, brace_found text begin s o), h)

-- if a text begins with a brace, octets that begin no text in braces begin no spelling
no_spelling : (text rest : List ℕ) (begin at : ℕ) → Skips text 0 begin → drop begin text ≡ 123 ∷ rest → at < length text
    → (Begins IsBraced (take (at + 1) text) → ⊥) → Begins IsSomeText (take (at + 1) text) → ⊥
no_spelling text rest begin at s e lt never b =
    let other = take (at + 1) text ++ b.rest in
    let a : Agree text other at = agree text at b.rest lt in
    let le : begin ≤ at = behind_spaces IsBraced text begin at spaces_begin s never in
    let w : IsSomeText other = b.whole in
    no_form other w.value w.meant
    (λ m.
    let h = same_head text other at begin a le in
    let q : h.octet ∷ h.first ≡ 123 ∷ rest = sym h.first_is ∙ e in
    let first : h.octet ≡ 123 = cc in
    brace_unspelled other h.second begin w.value (skips_too text other at 0 begin a le s) (h.second_is ∙ ap (λ c. c ∷ h.second) first) m)
    (λ braced. never (record { rest = b.rest; whole = record { value = w.value; braced = braced } }))

pub braces_refused : (text rest : List ℕ) (begin : ℕ) (fault : FormFault) → Skips text 0 begin → drop begin text ≡ 123 ∷ rest → RefusesBraces text fault
    → RefusesText text fault
unfolding RefusesText
braces_refused text rest begin fault s e h = inl (opens_brace text rest begin s e, h)

-- ---- no text of a value begins with the octets up to one that is refused

past_spaces : (text : List ℕ) (i : ℕ) (rest : List ℕ) → drop i text ≡ rest → Passed is_whitespace text 0 i → (to : ℕ) × Skips text 0 to
past_spaces text i [] e s = (i, search rules)
past_spaces text i (c ∷ cs) e s =
    let n : drop (i + 1) text ≡ cs = sym (drop-drop 1 i text) ∙ ap (drop 1) e in
    let stands : StandsAt text i c = record { spelled = e ∙ ap (λ t. c ∷ t) (sym n); within = omega (arith, ap length e, length-drop i text) } in
    elim (cases_Bool (is_whitespace c)) [
      | inl w ↦ past_spaces text (i + 1) cs n (one_passed is_whitespace text 0 i c s stands w)
      | inr v ↦ (i, search rules)
    ]

pub bad_is_bad : (text : List ℕ) (at : ℕ) → RefusesText text (Bad at) → (at < length text) × (Begins IsSomeText (take (at + 1) text) → ⊥)
unfolding RefusesText
bad_is_bad text at (inl h) =
    let s = past_spaces text 0 text refl (nothing_passed is_whitespace text 0 (omega arith)) in
    (h.1.0, no_spelling text h.0.rest s.0 at s.1 (brace_found text s.0 s.1 h.0) h.1.0 h.1.4)
bad_is_bad text at (inr h) =
    let s = past_spaces text 0 text refl (nothing_passed is_whitespace text 0 (omega arith)) in
    (h.1.0, no_braces text s.0 at s.1 (λ brace. h.0 (opens_brace text brace.0 s.0 s.1 brace.1)) h.1.0 (λ b. h.1.3 (inl b)))

-- ---- a text in any form has at most one of these faults

pub one_of_any : (text : List ℕ) (e f : FormFault) → IsOfForm e → IsOfForm f → RefusesText text e → RefusesText text f → e ≡ f
unfolding RefusesText
one_of_any text e f p q (inl a) (inl b) = one_brace_refusal text e f p q a.1 b.1
one_of_any text e f p q (inl a) (inr b) = absurd (b.0 a.0)
one_of_any text e f p q (inr a) (inl b) = absurd (a.0 b.0)
one_of_any text e f p q (inr a) (inr b) = one_refusal text e f p q a.1 b.1

braced_opens : (text : List ℕ) (v : Value) → Braced text v → OpensBrace text
braced_opens text v b = record { before = b.before; rest = b.body ++ 125 ∷ b.after; parts = b.parts; spaces_before = b.spaces_before }

pub none_of_any : (text : List ℕ) (e : FormFault) (v : Value) → IsOfForm e → RefusesText text e → IsTextWithin text v → ⊥
unfolding RefusesText
none_of_any text e v p (inl a) (inl w) =
    let s = past_spaces text 0 text refl (nothing_passed is_whitespace text 0 (omega arith)) in
    brace_unspelled text a.0.rest s.0 v s.1 (brace_found text s.0 s.1 a.0) w.spelling
none_of_any text e v p (inl a) (inr w) = no_brace_refusal text e v p a.1 w
none_of_any text e v p (inr a) (inl w) = no_refusal text e v p a.1 w
none_of_any text e v p (inr a) (inr w) = a.0 (braced_opens text v w.braced)
