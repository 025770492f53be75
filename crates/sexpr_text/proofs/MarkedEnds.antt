-- Where a string between marks, or one with a length in front, is refused, and what of it was read up to there.
use Rattle.std.proofs.Common.{◌≡◌, ◌≢◌, ℕ, ◌+◌, ◌-◌, ◌<◌, ◌≤◌, Bool, true, false, ◌⊎◌, inl, inr, List, [], ◌∷◌, ◌++◌, length, take, drop, replicate, refl, sym, ap, subst, ◌∙◌, append_assoc, append-nil, length-append, length-drop, arith, rules}
use Rattle.std.proofs.lemmas.List.{length-replicate, drop-append-le, drop-drop, drop_at, drop_all}
use Rattle.std.specs.List.{AllByRecursion}
use Rattle.sexpr_core.specs.declared.fault.FormFault.{FormFault, TheVariants.{Short, Bad}}
use Rattle.sexpr_core.specs.{Reading.{Passed, IsBodyEnd, is_body_octet, Begins, RefusesPart, StandsAt}, Value.{decimal}}
use Rattle.sexpr_core.proofs.{Spans.{Agree, agree, stands_too, long_too, stops_here, end_is}, BraceLaws.{body_octets}}
use Rattle.sexpr_core.proofs.{Texts.{IsDigit, decimal_starts, verbatim_is}, Refusals.{begins_front}}
use Rattle.sexpr_text.specs.AdvancedForm.{is_digit, IsCount, pieces_text, IsQuoted, IsMarked}
use Rattle.sexpr_text.specs.Reads.{Reads, ReadsCount, is_hexadecimal_octet, Stops, IsTooFew, Stands}
use Rattle.sexpr_text.specs.Refusal.{OpensQuoted, IsUnclosed, IsUnclosedString}
use Rattle.sexpr_text.specs.Inner.Begun.{Begun, From, IsPartEnd, IsFrontEnd, GoesMarked, IsStringPart, GoesString}
use Rattle.sexpr_text.proofs.{Beginnings.{count_begins}, CountedLaws.{count_once, ends_written}, Marked.{is_mark, hexadecimal_octets}}
use Rattle.sexpr_text.proofs.{RefusedParts.{marked_too, count_too, ends_too, no_mark}, UnclosedStrings.{unclosed_marked, unclosed_first, cut_open}}
use Rattle.sexpr_text.proofs.OneValue.{mark_no_digit}
use Rattle.sexpr_text.proofs.StringEnds.{nothing_begun, part_later, pieces_open, body_fails, quoted_is, digits_are, symbols_are}

-- ---- between marks

body_begun : (p : ℕ → Bool) (mark : ℕ) (text : List ℕ) (at to : ℕ) → StandsAt text at mark
    → ((body : List ℕ) → AllByRecursion (λ d. p d ≡ true) body → IsUnclosed (mark ∷ body)) → Passed p text (at + 1) to → Begun GoesMarked text at to
body_begun p mark text at to opens on b = search rules

marked_end : (p : ℕ → Bool) (mark : ℕ) (text : List ℕ) (at : ℕ) (fault : FormFault) → StandsAt text at mark
    → ((body : List ℕ) → AllByRecursion (λ d. p d ≡ true) body → IsUnclosed (mark ∷ body))
    → ((body : List ℕ) → IsUnclosed (mark ∷ body) → AllByRecursion (λ d. p d ≡ true) body)
    → IsBodyEnd p text (at + 1) fault → IsPartEnd GoesMarked IsUnclosed text at fault
marked_end p mark text at Short opens on back h = body_begun p mark text at (length text) opens on h
marked_end p mark text at (Bad k) opens on back h =
    let passed : Passed p text (at + 1) k = h.0 in
    let stands : StandsAt text k h.1.0 = h.1.1 in (
      body_begun p mark text at k opens on passed,
      stops_here (From IsUnclosed at) text at k (omega (arith, passed.ordered)) stands.within (λ other a u.
          let o = stands_too text other k at mark a (omega (arith, passed.ordered)) opens in
          body_fails p text other (at + 1) k h.1.0 a passed stands h.1.2 (back (drop (at + 1) other) (subst IsUnclosed o.spelled u))),
    )
marked_end p mark text at _ opens on back h = h

pub hexadecimal_marked_end : (text : List ℕ) (at c : ℕ) (fault : FormFault) → StandsAt text at c → c ≡ 35 → IsBodyEnd is_hexadecimal_octet text (at + 1) fault
    → IsPartEnd GoesMarked IsUnclosed text at fault
hexadecimal_marked_end text at c fault s e h =
    marked_end is_hexadecimal_octet 35 text at fault (subst (StandsAt text at) e s) (λ body all. inr (inl (record { body = body; spelled = refl; digits = all }))) digits_are h

pub packed_marked_end : (text : List ℕ) (at c : ℕ) (fault : FormFault) → StandsAt text at c → c ≡ 124 → IsBodyEnd is_body_octet text (at + 1) fault
    → IsPartEnd GoesMarked IsUnclosed text at fault
packed_marked_end text at c fault s e h =
    marked_end is_body_octet 124 text at fault (subst (StandsAt text at) e s) (λ body all. inr (inr (record { body = body; spelled = refl; symbols = all }))) symbols_are h

quoted_goes : (text : List ℕ) (at to : ℕ) → Begun OpensQuoted text at to → Begun GoesMarked text at to
quoted_goes text at to b = record { part = b.part; spelled = b.spelled; goes = inr (inl b.goes); ordered = b.ordered; within = b.within }

-- a quoted string that is not closed begins a whole one
quoted_on : (other : List ℕ) (at : ℕ) → at ≤ length other → StandsAt other at 34 → IsUnclosed (drop at other) → Begins (Stands IsQuoted at) other
quoted_on other at le s u = search (rules, quoted_is, drop-append-le, append-nil)

pub quoted_marked_end : (text : List ℕ) (at c : ℕ) (fault : FormFault) → StandsAt text at c → c ≡ 34 → IsFrontEnd OpensQuoted text at fault
    → RefusesPart (Stands IsQuoted at) text at fault → IsPartEnd GoesMarked IsUnclosed text at fault
quoted_marked_end text at c Short s e h r = quoted_goes text at (length text) h
quoted_marked_end text at c (Bad k) s e h r = (
  quoted_goes text at k h,
  record {
    behind = r.behind;
    within = r.within;
    none = λ b.
        let other = take (k + 1) text ++ b.rest in
        let a : Agree text other k = agree text k b.rest r.within in
        r.none (begins_front (Stands IsQuoted at) (take (k + 1) text) b.rest
        (quoted_on other at (omega (arith, long_too text other k a, r.behind)) (stands_too text other k at 34 a r.behind (subst (StandsAt text at) e s)) b.whole));
  },
)
quoted_marked_end text at c _ s e h r = h

pub no_mark_end : (text : List ℕ) (at c : ℕ) → StandsAt text at c → c ≢ 34 → c ≢ 35 → c ≢ 124 → IsPartEnd GoesMarked IsUnclosed text at (Bad at)
no_mark_end text at c s p q r = (
  nothing_begun GoesMarked text at (inl refl) (omega (arith, s.within)),
  stops_here (From IsUnclosed at) text at at (omega arith) s.within (λ other a u.
      let o = stands_too text other at at c a (omega arith) s in
      let f = unclosed_first (drop at other) u in
      let e : c ∷ drop (at + 1) other ≡ f.0 ∷ f.1 = sym o.spelled ∙ f.2 in
      let same : c ≡ f.0 = cc in
      let g : false ≡ true = sym (no_mark c p q r) ∙ ap is_mark same ∙ f.3 in
      cc),
)

-- ---- with a length in front, or without

pub none_string : GoesString []
none_string = inl (count_begins [] 0 (inl refl))

pub count_short : (text : List ℕ) (at number to : ℕ) → ReadsCount text at number to → drop to text ≡ [] → Begun GoesString text at (length text)
count_short text at number to r e = search (rules, end_is, count_begins)

few_octets : (n : ℕ) (x : List ℕ) → length x < n → Begins IsStringPart (decimal n ++ 58 ∷ x)
few_octets n x h =
    let filler : List ℕ = replicate (n - length x) 0 in
    let whole : length (x ++ filler) ≡ n = omega (arith, length-append x filler, length-replicate {A = ℕ} (n - length x) 0) in
    record {
      rest = filler;
      whole = record {
        ends_token = false;
        octets = x ++ filler;
        meant = inl (append_assoc (decimal n) (58 ∷ x) filler ∙ ap (λ k. decimal k ++ 58 ∷ (x ++ filler)) (sym whole) ∙ sym (verbatim_is (x ++ filler)));
      };
    }

pub verbatim_end : (text : List ℕ) (at number to c : ℕ) (fault : FormFault) → length text ≤ 1048576 → ReadsCount text at number to → StandsAt text to c → c ≡ 58
    → IsTooFew text (to + 1) number fault → IsPartEnd GoesString IsUnclosedString text at fault
verbatim_end text at number to c Short short r s e h = record {
  part = decimal r.written ++ 58 ∷ drop (to + 1) text;
  spelled =
      r.spelled ∙ ap (λ t. decimal r.written ++ t) (s.spelled ∙ ap (λ k. k ∷ drop (to + 1) text) e)
      ∙ sym (append-nil (decimal r.written ++ 58 ∷ drop (to + 1) text))
      ∙ ap (λ t. (decimal r.written ++ 58 ∷ drop (to + 1) text) ++ t) (sym (drop_all (length text) text (omega arith)));
  goes = inl (few_octets r.written (drop (to + 1) text) (omega (arith, h, r.capped, length-drop (to + 1) text, s.within)));
  ordered = omega (arith, r.forward, r.within);
  within = omega arith;
}
verbatim_end text at number to c _ short r s e h = search rules

goes_counted : (count : List ℕ) (n : ℕ) (part : List ℕ) → IsCount count n → GoesMarked part → GoesString (count ++ part)
goes_counted count n part c (inl e) = inl (subst (Begins IsStringPart) (sym (ap (λ t. count ++ t) e ∙ append-nil count)) (count_begins count n c))
goes_counted count n part c (inr u) = inr (record { count = count; number = n; marked = part; spelled = refl; counts = c; meant = u })

cut_counted : (w c : ℕ) (cs x digits : List ℕ) (n mark : ℕ) (tail : List ℕ) → (w ≡ 0) ⊎ Stops is_digit x → IsDigit c → IsCount digits n → is_mark mark ≡ true
    → c ∷ cs ≡ decimal w ++ x → c ∷ cs ≡ digits ++ mark ∷ tail → x ≡ mark ∷ tail
cut_counted w c cs x digits n mark tail ends low (inl k) m e f = search (rules, mark_no_digit)
cut_counted w c cs x digits n mark tail ends low (inr k) m e f =
    (count_once w n mark x tail ends (mark_no_digit mark m) (sym e ∙ f ∙ ap (λ t. t ++ mark ∷ tail) k)).1

-- the string between marks that is not closed follows the length
counted_open : (text : List ℕ) (at first number to : ℕ) → StandsAt text at first → IsDigit first → ReadsCount text at number to
    → (number ≡ 0) ⊎ Stops is_digit (drop to text) → IsUnclosedString (drop at text) → IsUnclosed (drop to text)
counted_open text at first number to s low r ends u = search (rules, cut_open, cut_counted, ends_written)

pub counted_end : (text : List ℕ) (at first number to : ℕ) (fault : FormFault) → StandsAt text at first → IsDigit first → ReadsCount text at number to
    → (number ≡ 0) ⊎ Stops is_digit (drop to text) → IsPartEnd GoesMarked IsUnclosed text to fault → IsPartEnd GoesString IsUnclosedString text at fault
counted_end text at first number to fault s low r ends h =
    part_later GoesMarked GoesString IsUnclosed IsUnclosedString text (decimal r.written) at to fault (omega (arith, r.forward)) r.spelled (λ part g. goes_counted (decimal r.written) r.written part (inr refl) g)
    (λ other n a le u.
    counted_open other at first number to (stands_too text other n at first a (omega (arith, r.forward)) s) low (count_too text other n at number to a (omega arith) r)
    (ends_too text other n number to a le ends) u) h

-- a string between marks without its closing mark
record WithoutMark (s : List ℕ) : Type 0 where
  front : List ℕ
  mark : ℕ
  whole : s ≡ front ++ mark ∷ []
  unclosed : IsUnclosed front

without_mark : (s a : List ℕ) → IsMarked s a → WithoutMark s
without_mark s a (inl h) =
    record { front = 34 ∷ pieces_text h.pieces; mark = 34; whole = h.spelled; unclosed = inl (pieces_open h.pieces (34 ∷ []) h.right) }
without_mark s a (inr (inl h)) =
    let digits = hexadecimal_octets h.body a h.packed in
    record { front = 35 ∷ h.body; mark = 35; whole = h.spelled; unclosed = inr (inl (record { body = h.body; spelled = refl; digits = digits })) }
without_mark s a (inr (inr h)) =
    let symbols = body_octets h.body a h.packed in
    record { front = 124 ∷ h.body; mark = 124; whole = h.spelled; unclosed = inr (inr (record { body = h.body; spelled = refl; symbols = symbols })) }

-- a length that is not that of the string between marks after it
pub count_end : (text : List ℕ) (at first number to end : ℕ) (octets : List ℕ) → StandsAt text at first → IsDigit first → ReadsCount text at number to
    → (number ≡ 0) ⊎ Stops is_digit (drop to text) → Reads IsMarked text to octets end → IsPartEnd GoesString IsUnclosedString text at (Bad (end - 1))
count_end text at first number to end octets s low r ends m =
    let w = without_mark m.spelling octets m.meant in
    let e : drop to text ≡ w.front ++ w.mark ∷ drop end text = m.spelled ∙ ap (λ t. t ++ drop end text) w.whole ∙ append_assoc w.front (w.mark ∷ []) (drop end text) in
    let n : to + length w.front ≡ end - 1 =
    omega (arith, ap length e, length-append w.front (w.mark ∷ drop end text), length-drop to text, length-drop end text, m.forward, m.within) in
    let last : drop (end - 1) text ≡ w.mark ∷ drop end text =
    sym (ap (λ k. drop k text) n) ∙ sym (drop-drop (length w.front) to text) ∙ ap (drop (length w.front)) e ∙ drop_at w.front (w.mark ∷ drop end text) (length w.front) refl in (
      record {
        part = decimal r.written ++ w.front;
        spelled = r.spelled ∙ ap (λ t. decimal r.written ++ t) (e ∙ ap (λ t. w.front ++ t) (sym last)) ∙ sym (append_assoc (decimal r.written) w.front (drop (end - 1) text));
        goes = goes_counted (decimal r.written) r.written w.front (inr refl) (inr w.unclosed);
        ordered = omega (arith, r.forward, m.forward);
        within = omega (arith, m.within);
      },
      stops_here (From IsUnclosedString at) text at (end - 1) (omega (arith, r.forward, m.forward)) (omega (arith, m.forward, m.within)) (λ other a u.
          let also = marked_too text other (end - 1) to end octets a (omega (arith, m.forward)) m in
          unclosed_marked also.spelling (drop end other) octets (drop to other) also.meant
          (counted_open other at first number to (stands_too text other (end - 1) at first a (omega (arith, r.forward, m.forward)) s) low
          (count_too text other (end - 1) at number to a (omega (arith, m.forward)) r) (ends_too text other (end - 1) number to a (omega (arith, m.forward)) ends) u)
          (sym also.spelled)),
    )

cut_uncounted : (c : ℕ) (cs digits : List ℕ) (n mark : ℕ) (tail : List ℕ) → (IsDigit c → ⊥) → IsCount digits n → c ∷ cs ≡ digits ++ mark ∷ tail → c ∷ cs ≡ mark ∷ tail
cut_uncounted c cs digits n mark tail other (inl k) e = e ∙ ap (λ t. t ++ mark ∷ tail) k
cut_uncounted c cs digits n mark tail other (inr k) e = search (rules, decimal_starts n)

pub uncounted_end : (text : List ℕ) (at c : ℕ) (fault : FormFault) → StandsAt text at c → (IsDigit c → ⊥) → IsPartEnd GoesMarked IsUnclosed text at fault
    → IsPartEnd GoesString IsUnclosedString text at fault
uncounted_end text at c fault s other h =
    part_later GoesMarked GoesString IsUnclosed IsUnclosedString text [] at at fault (omega arith) refl (λ part g. goes_counted [] 0 part (inl refl) g)
    (λ also n a le u.
    let k = cut_open (drop at also) u in
    let o = stands_too text also n at c a le s in
    subst IsUnclosed (sym (o.spelled ∙ cut_uncounted c (drop (at + 1) also) k.digits k.number k.mark k.tail other k.counts (sym o.spelled ∙ k.spelled))) k.unclosed) h
