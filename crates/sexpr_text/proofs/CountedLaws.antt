-- Strings with or without a length in front, as the reader finds them.
use Rattle.std.proofs.Common.{◌≡◌, ◌≢◌, ℕ, ◌+◌, ◌≤◌, min, Bool, true, false, ◌⊎◌, inl, inr, List, [], ◌∷◌, ◌++◌, length, drop, refl, sym, ap, subst, ◌∙◌, append_assoc, length-append, length-drop, arith, rules}
use Rattle.std.proofs.lemmas.Bool.Decides.{nat_tests}
use Rattle.sexpr_core.specs.{Value.{decimal}, Reading.{StandsAt}}
use Rattle.sexpr_core.proofs.Texts.{IsDigit, zero_once, AreDigits, AreDigits-decimal, decimal_same, decimal_starts, verbatim_is, Passes, one_front}
use Rattle.sexpr_text.specs.AdvancedForm.{is_digit, is_token_octet, IsToken, IsMarked, Simple}
use Rattle.sexpr_text.specs.Reads.{Reads, ReadsCount, ReadsOctets, ReadsString, StringAt, Stops}
use Rattle.sexpr_text.proofs.{Marked.{is_mark, marked_first, one_marked, marked_few}, OneValue.{Cut, cut, IsBehind, simple_first}}

-- ---- a text determines where a length ends

digit_passes : (c : ℕ) → IsDigit c → is_digit c ≡ true
digit_passes c h = grind (arith, nat_tests)

digits_pass : (cs : List ℕ) → AreDigits cs → Passes is_digit cs
digits_pass [] h = tt
digits_pass (c ∷ cs) h = (digit_passes c h.0, digits_pass cs h.1)

other_digit : (d : ℕ) → (IsDigit d → ⊥) → is_digit d ≡ false
other_digit d h = grind (arith, nat_tests)

pub count_once : (w n d : ℕ) (x y : List ℕ) → (w ≡ 0) ⊎ Stops is_digit x → (IsDigit d → ⊥) → decimal w ++ x ≡ decimal n ++ d ∷ y → (w ≡ n) × (x ≡ d ∷ y)
count_once w n d x y (inl z) other e = search (rules, zero_once)
count_once w n d x y (inr stops) other e =
    let p = one_front is_digit (decimal w) (decimal n) x (d ∷ y) (digits_pass (decimal w) (AreDigits-decimal w)) (digits_pass (decimal n) (AreDigits-decimal n)) stops (other_digit d other) e in
    (decimal_same w n p.0, p.1)

-- ---- what follows a length

begins_no_token : (c : ℕ) (cs a rest : List ℕ) → IsToken a → (is_digit c ≡ false → is_token_octet c ≡ true → ⊥) → c ∷ cs ≡ a ++ rest → ⊥
begins_no_token c cs [] rest h other e = absurd h
begins_no_token c cs (x ∷ xs) rest h other e =
    let q : x ≡ c = cc in other (subst (λ k. is_digit k ≡ false) q h.0) (subst (λ k. is_token_octet k ≡ true) q h.1.0)

-- a string whose first octet begins no token is no token
is_no_token : (ends : Bool) (c : ℕ) (cs s a rest : List ℕ) → Simple ends s a → (is_digit c ≡ false → is_token_octet c ≡ true → ⊥) → c ∷ cs ≡ s ++ rest → Simple false s a
is_no_token true c cs s a rest h other e = absurd (begins_no_token c cs a rest h.1 other (e ∙ ap (λ t. t ++ rest) h.0))
is_no_token false c cs s a rest h other e = h

-- what follows a length: a colon and the octets, or a string between marks
abbrev pub StandsBehind : List ℕ → List ℕ → List ℕ → Type 0
StandsBehind x a rest = (x ≡ 58 ∷ (a ++ rest)) ⊎ ((s : List ℕ) × IsMarked s a × (x ≡ s ++ rest))

cut_behind : (w c d : ℕ) (cs x ds t a rest : List ℕ) → (w ≡ 0) ⊎ Stops is_digit x → IsDigit c → (IsDigit d → ⊥) → IsBehind ds d t a
    → c ∷ cs ≡ decimal w ++ x → c ∷ cs ≡ ds ++ d ∷ (t ++ rest) → (w ≡ length a) × StandsBehind x a rest
cut_behind w c d cs x ds t a rest ends low other (inl b) e f =
    let p = count_once w (length a) d x (t ++ rest) ends other (sym e ∙ f ∙ ap (λ k. k ++ d ∷ (t ++ rest)) b.1) in
    (p.0, inl (p.1 ∙ ap (λ k. k ∷ (t ++ rest)) b.0 ∙ ap (λ k. 58 ∷ (k ++ rest)) b.2))
cut_behind w c d cs x ds t a rest ends low other (inr (m, inl n, k)) e f = search rules
cut_behind w c d cs x ds t a rest ends low other (inr (m, inr n, k)) e f =
    let p = count_once w (length a) d x (t ++ rest) ends other (sym e ∙ f ∙ ap (λ u. u ++ d ∷ (t ++ rest)) n) in
    (p.0, inr (d ∷ t, k, p.1))

pub ends_written : (n w : ℕ) (x : List ℕ) → n ≡ min w 1048577 → (n ≡ 0) ⊎ Stops is_digit x → (w ≡ 0) ⊎ Stops is_digit x
ends_written n w x c (inl z) = inl (omega arith)
ends_written n w x c (inr s) = inr s

-- a length that was read is that of the string, and the rest of the string's spelling follows it
pub counted_stands : (text : List ℕ) (at first number to : ℕ) (a rest : List ℕ) → StandsAt text at first → IsDigit first → (r : ReadsCount text at number to)
    → (number ≡ 0) ⊎ Stops is_digit (drop to text) → StringAt text at a rest → (r.written ≡ length a) × StandsBehind (drop to text) a rest
counted_stands text at first number to a rest opens low r ends s =
    let f = is_no_token s.ends_token first (drop (at + 1) text) s.spelling a rest s.meant (λ d t. cc (sym d ∙ digit_passes first low)) (sym opens.spelled ∙ s.spelled) in
    let h : Cut s.spelling a = cut s.spelling a f in
    let e : drop at text ≡ h.digits ++ h.mark ∷ (h.tail ++ rest) = s.spelled ∙ ap (λ t. t ++ rest) h.spelled ∙ append_assoc h.digits (h.mark ∷ h.tail) rest in
    cut_behind r.written first h.mark (drop (at + 1) text) (drop to text) h.digits h.tail a rest (ends_written number r.written (drop to text) r.capped ends) low h.other h.behind
    (sym opens.spelled ∙ r.spelled) (sym opens.spelled ∙ e)

colon_first : (x a rest : List ℕ) → StandsBehind x a rest → x ≡ [] → ⊥
colon_first x a rest (inl h) e = let q : [] ≡ 58 ∷ (a ++ rest) = sym e ∙ h in cc
colon_first x a rest (inr h) e = search (rules, marked_first)

pub counted_ended : (text : List ℕ) (at first number to : ℕ) (a rest : List ℕ) → StandsAt text at first → IsDigit first → ReadsCount text at number to
    → (number ≡ 0) ⊎ Stops is_digit (drop to text) → StringAt text at a rest → drop to text ≡ [] → ⊥
counted_ended text at first number to a rest opens low r ends s e =
    let p = counted_stands text at first number to a rest opens low r ends s in colon_first (drop to text) a rest p.1 e

marked_behind : (x : List ℕ) (c : ℕ) (cs a rest : List ℕ) → StandsBehind x a rest → x ≡ c ∷ cs → c ≢ 58 → (s : List ℕ) × IsMarked s a × (x ≡ s ++ rest)
marked_behind x c cs a rest (inl h) e n = let q : c ∷ cs ≡ 58 ∷ (a ++ rest) = sym e ∙ h in let k : c ≡ 58 = cc in absurd (n k)
marked_behind x c cs a rest (inr h) e n = h

verbatim_behind : (x : List ℕ) (c : ℕ) (cs a rest : List ℕ) → StandsBehind x a rest → x ≡ c ∷ cs → c ≡ 58 → cs ≡ a ++ rest
verbatim_behind x c cs a rest (inl h) e n = let q : c ∷ cs ≡ 58 ∷ (a ++ rest) = sym e ∙ h in cc
verbatim_behind x c cs a rest (inr h) e n = search (rules, marked_first, is_mark)

-- the string between marks that follows a length
pub marked_stands : (text : List ℕ) (at first number to c : ℕ) (a rest : List ℕ) → StandsAt text at first → IsDigit first → ReadsCount text at number to
    → (number ≡ 0) ⊎ Stops is_digit (drop to text) → StandsAt text to c → c ≢ 58 → StringAt text at a rest
    → (s : List ℕ) × IsMarked s a × (drop to text ≡ s ++ rest)
marked_stands text at first number to c a rest opens low r ends next n s =
    let p = counted_stands text at first number to a rest opens low r ends s in marked_behind (drop to text) c (drop (to + 1) text) a rest p.1 next.spelled n

pub verbatim_fits : (text : List ℕ) (at first number to c : ℕ) (a rest : List ℕ) → StandsAt text at first → IsDigit first → ReadsCount text at number to
    → (number ≡ 0) ⊎ Stops is_digit (drop to text) → StandsAt text to c → c ≡ 58 → StringAt text at a rest → to + 1 + number ≤ length text
verbatim_fits text at first number to c a rest opens low r ends next n s =
    let p = counted_stands text at first number to a rest opens low r ends s in
    let e = verbatim_behind (drop to text) c (drop (to + 1) text) a rest p.1 next.spelled n in
    omega (arith, r.capped, p.0, next.within, ap length e, length-append a rest, length-drop (to + 1) text)

-- ---- what was read

pub verbatim_string : (text : List ℕ) (at number to c end : ℕ) (octets : List ℕ) → ReadsCount text at number to → StandsAt text to c → c ≡ 58
    → ReadsOctets text (to + 1) number octets end → ReadsString text at octets end
verbatim_string text at number to c end octets r next n o =
    search (rules, append_assoc (decimal (length octets)) (58 ∷ octets) (drop end text), verbatim_is octets)

pub octets_few : (text a : List ℕ) (at to : ℕ) → Reads IsMarked text at a to → length a ≤ length text
octets_few text a at to m =
    omega (arith, marked_few m.spelling a m.meant, ap length m.spelled, length-append m.spelling (drop to text), length-drop at text)

pub counted_string : (text : List ℕ) (at number to end : ℕ) (octets : List ℕ) → length text ≤ 1048576 → ReadsCount text at number to
    → Reads IsMarked text to octets end → length octets ≡ number → ReadsString text at octets end
counted_string text at number to end octets short r m n =
    let w : r.written ≡ length octets = omega (arith, r.capped, octets_few text octets to end m) in
    record {
      stands = record {
        ends_token = false;
        spelling = decimal r.written ++ m.spelling;
        spelled = r.spelled ∙ ap (λ t. decimal r.written ++ t) m.spelled ∙ sym (append_assoc (decimal r.written) m.spelling (drop end text));
        meant = inr (record { count = decimal r.written; marked = m.spelling; spelled = refl; counts = inr (ap decimal w); meant = m.meant });
        apart = tt;
      };
      forward = omega (arith, r.forward, m.forward);
      within = m.within;
    }

-- there is no string if the length in front is not that of the string between marks
pub counted_elsewhere : (text : List ℕ) (at first number to c end n : ℕ) (octets a rest : List ℕ) → length octets ≤ 1048576 → StandsAt text at first → IsDigit first
    → ReadsCount text at number to → (number ≡ 0) ⊎ Stops is_digit (drop to text) → StandsAt text to c → c ≢ 58 → Reads IsMarked text to octets end
    → n ≡ length octets → n ≢ number → StringAt text at a rest → ⊥
counted_elsewhere text at first number to c end n octets a rest short opens low r ends next apart m l other s =
    let k = marked_stands text at first number to c a rest opens low r ends next apart s in
    let one = one_marked m.spelling (drop end text) octets k.0 rest a m.meant k.1 (sym m.spelled ∙ k.2) in
    let p = counted_stands text at first number to a rest opens low r ends s in
    let w = p.0 in
    let q : n ≡ number = omega (arith, r.capped, w, ap length one.0) in
    other q

-- ---- strings without a length in front

pub marked_string : (text : List ℕ) (at end : ℕ) (octets : List ℕ) → Reads IsMarked text at octets end → ReadsString text at octets end
marked_string text at end octets m = search rules

pub nothing_stands : (text : List ℕ) (at : ℕ) (a rest : List ℕ) → StringAt text at a rest → drop at text ≡ [] → ⊥
nothing_stands text at a rest s e = search (rules, simple_first)

behind_none : (c d : ℕ) (cs ds t a rest : List ℕ) → (IsDigit c → ⊥) → IsBehind ds d t a → c ∷ cs ≡ ds ++ d ∷ (t ++ rest)
    → (s : List ℕ) × IsMarked s a × (c ∷ cs ≡ s ++ rest)
behind_none c d cs ds t a rest other (inl b) e = search (rules, decimal_starts (length a))
behind_none c d cs ds t a rest other (inr (m, inl n, k)) e = (d ∷ t, k, e ∙ ap (λ u. u ++ d ∷ (t ++ rest)) n)
behind_none c d cs ds t a rest other (inr (m, inr i, k)) e = search (rules, decimal_starts (length a))

-- a string whose first octet occurs in no token is between marks
pub uncounted_stands : (text : List ℕ) (at c : ℕ) (a rest : List ℕ) → StandsAt text at c → (IsDigit c → ⊥) → is_token_octet c ≡ false → StringAt text at a rest
    → (s : List ℕ) × IsMarked s a × (drop at text ≡ s ++ rest)
uncounted_stands text at c a rest opens other n s =
    let f = is_no_token s.ends_token c (drop (at + 1) text) s.spelling a rest s.meant (λ d t. cc (sym n ∙ t)) (sym opens.spelled ∙ s.spelled) in
    let h : Cut s.spelling a = cut s.spelling a f in
    let e : drop at text ≡ h.digits ++ h.mark ∷ (h.tail ++ rest) = s.spelled ∙ ap (λ t. t ++ rest) h.spelled ∙ append_assoc h.digits (h.mark ∷ h.tail) rest in
    let k = behind_none c h.mark (drop (at + 1) text) h.digits h.tail a rest other h.behind (sym opens.spelled ∙ e) in
    (k.0, k.1, opens.spelled ∙ k.2)
