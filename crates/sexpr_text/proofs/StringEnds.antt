-- Where an escape or a quoted string is refused, and what of it was read up to there.
use Rattle.std.proofs.Common.{◌≡◌, Result, Ok, Err, IfErr, ℕ, ◌+◌, ◌<◌, ◌≤◌, Bool, true, false, inl, inr, List, [], ◌∷◌, ◌++◌, length, drop, refl, sym, ap, subst, ◌∙◌, append_assoc, append-nil, length-append, arith, rules}
use Rattle.std.specs.List.{AllByRecursion}
use Rattle.sexpr_core.specs.{declared.fault.FormFault.{FormFault, TheVariants.{Short, Bad}}, Reading.{Passed, is_body_octet, StandsAt, StopsAt}}
use Rattle.sexpr_core.proofs.{Spans.{Agree, spelled_too, stands_too, stops_later, end_is}, Texts.{fails_among, head_is, tail_is}}
use Rattle.sexpr_text.specs.AdvancedForm.{Piece, octal, hexadecimal, escaped, piece_text, pieces_text, pieces_octets, IsPiece, ArePieces}
use Rattle.sexpr_text.specs.{Reads.{ReadsDigit, is_hexadecimal_octet}, Refusal.{OpensQuoted, IsUnclosed}}
use Rattle.sexpr_text.specs.Inner.Begun.{Begun, From, IsPartEnd, IsFrontEnd, GoesPiece, GoesDigit}
use Rattle.sexpr_text.proofs.{Marked.{are_on}, StringLaws.{ReadsPieces, last_text, are_more}}

-- what two clauses say of the same fault
pub IfErr-both : {A B : Type 0} (r : Result A B) (P Q R : B → Type 0) → ((e : B) → P e → Q e → R e) → IfErr r P → IfErr r Q → IfErr r R
IfErr-both (Ok a) P Q R on p q = tt
IfErr-both (Err e) P Q R on p q = on e p q

-- ---- what may continue after a part that was read

pub nothing_begun : (G : List ℕ → Type 0) (text : List ℕ) (at : ℕ) → G [] → at ≤ length text → Begun G text at at
nothing_begun G text at g le = record { part = []; spelled = refl; goes = g; ordered = omega arith; within = le }

pub nothing_left : (G : List ℕ → Type 0) (text : List ℕ) (at : ℕ) → G [] → at ≤ length text → drop at text ≡ [] → Begun G text at (length text)
nothing_left G text at g le e = subst (Begun G text at) (end_is text at e le) (nothing_begun G text at g le)

-- other octets precede the part
pub begun_later : (G H : List ℕ → Type 0) (text front : List ℕ) (at i to : ℕ) → at ≤ i → drop at text ≡ front ++ drop i text
    → ((part : List ℕ) → drop i text ≡ part ++ drop to text → G part → H (front ++ part)) → Begun G text i to → Begun H text at to
begun_later G H text front at i to le e on b = search (rules, append_assoc)

front_later : (G H : List ℕ → Type 0) (text front : List ℕ) (at i : ℕ) (fault : FormFault) → at ≤ i → drop at text ≡ front ++ drop i text
    → ((part y : List ℕ) → drop i text ≡ part ++ y → G part → H (front ++ part)) → IsFrontEnd G text i fault → IsFrontEnd H text at fault
front_later G H text front at i Short le e on h = search (rules, begun_later)
front_later G H text front at i (Bad k) le e on h = begun_later G H text front at i k le e (λ part q g. on part (drop k text) q g) h
front_later G H text front at i _ le e on h = h

pub end_later : (G H U V : List ℕ → Type 0) (text front : List ℕ) (at i : ℕ) (fault : FormFault) → at ≤ i → drop at text ≡ front ++ drop i text
    → ((part : List ℕ) → G part → H (front ++ part)) → ((k : ℕ) → fault ≡ Bad k → StopsAt (From U i) text i k → StopsAt (From V at) text at k)
    → IsPartEnd G U text i fault → IsPartEnd H V text at fault
end_later G H U V text front at i Short le e on stops h = begun_later G H text front at i (length text) le e (λ part q g. on part g) h
end_later G H U V text front at i (Bad k) le e on stops h = (begun_later G H text front at i k le e (λ part q g. on part g) h.0, stops k refl h.1)
end_later G H U V text front at i _ le e on stops h = h

pub part_later : (G H U V : List ℕ → Type 0) (text front : List ℕ) (at i : ℕ) (fault : FormFault) → at ≤ i → drop at text ≡ front ++ drop i text
    → ((part : List ℕ) → G part → H (front ++ part)) → ((other : List ℕ) (n : ℕ) → Agree text other n → i ≤ n → V (drop at other) → U (drop i other))
    → IsPartEnd G U text i fault → IsPartEnd H V text at fault
part_later G H U V text front at i fault le e on step h = search (rules, end_later, stops_later)

-- ---- escapes

-- the octets `seen` of a piece, which `rest` would complete, precede a digit
digit_end : (front text seen rest : List ℕ) (at i : ℕ) (fault : FormFault) (p : Piece) → at ≤ i → drop at text ≡ seen ++ drop i text
    → ((behind : List ℕ) → IsPiece p behind) → front ++ (seen ++ rest) ≡ piece_text p → IsFrontEnd GoesDigit text i fault → IsFrontEnd (GoesPiece front) text at fault
digit_end front text seen rest at i fault p le e right is h = search (rules, front_later, append-nil)

pub high_end : (text : List ℕ) (at : ℕ) (fault : FormFault) → IsFrontEnd GoesDigit text at fault → IsFrontEnd (GoesPiece (92 ∷ 120 ∷ [])) text at fault
high_end text at fault h =
    digit_end (92 ∷ 120 ∷ []) text [] (48 ∷ 48 ∷ []) at at fault (hexadecimal 48 48 0 0) (omega arith) refl (λ behind. (refl, refl)) refl h

pub low_end : (text : List ℕ) (at m : ℕ) (fault : FormFault) → ReadsDigit text at m → IsFrontEnd GoesDigit text (at + 1) fault
    → IsFrontEnd (GoesPiece (92 ∷ 120 ∷ [])) text at fault
low_end text at m fault r h =
    digit_end (92 ∷ 120 ∷ []) text (r.octet ∷ []) (48 ∷ []) at (at + 1) fault (hexadecimal r.octet 48 m 0) (omega arith) r.stands.spelled
    (λ behind. (r.valued, refl)) refl h

pub second_end : (text : List ℕ) (at d : ℕ) (fault : FormFault) → d < 4 → StandsAt text at (48 + d) → IsFrontEnd GoesDigit text (at + 1) fault
    → IsFrontEnd (GoesPiece (92 ∷ [])) text at fault
second_end text at d fault low s h =
    digit_end (92 ∷ []) text ((48 + d) ∷ []) (48 ∷ 48 ∷ []) at (at + 1) fault (octal d 0 0) (omega arith) s.spelled (λ behind. (low, omega arith, omega arith)) refl h

pub third_end : (text : List ℕ) (at d b : ℕ) (fault : FormFault) → d < 4 → b < 8 → StandsAt text at (48 + d) → StandsAt text (at + 1) (48 + b)
    → IsFrontEnd GoesDigit text (at + 2) fault → IsFrontEnd (GoesPiece (92 ∷ [])) text at fault
third_end text at d b fault low few s next h =
    let n : at + 1 + 1 ≡ at + 2 = omega arith in
    digit_end (92 ∷ []) text ((48 + d) ∷ (48 + b) ∷ []) (48 ∷ []) at (at + 2) fault (octal d b 0) (omega arith)
    (s.spelled ∙ ap (λ t. (48 + d) ∷ t) next.spelled ∙ ap (λ k. (48 + d) ∷ (48 + b) ∷ drop k text) n) (λ behind. (low, few, omega arith)) refl h

pub letter_goes : GoesPiece (92 ∷ []) []
letter_goes = record { piece = escaped 97 7; rest = 97 ∷ []; right = λ behind. refl; spelled = refl }

-- an octet precedes the part
pub octet_end : (front text : List ℕ) (at c d : ℕ) (fault : FormFault) → StandsAt text at c → c ≡ d
    → IsFrontEnd (GoesPiece (front ++ d ∷ [])) text (at + 1) fault → IsFrontEnd (GoesPiece front) text at fault
octet_end front text at c d fault s is h =
    front_later (GoesPiece (front ++ d ∷ [])) (GoesPiece front) text (d ∷ []) at (at + 1) fault (omega arith) (s.spelled ∙ ap (λ k. k ∷ drop (at + 1) text) is)
    (λ part y q g. record { piece = g.piece; rest = g.rest; right = g.right; spelled = sym (append_assoc front (d ∷ []) (part ++ g.rest)) ∙ g.spelled }) h

-- ---- quoted strings

-- pieces are well formed before a quote
closes : (ps : List Piece) (x : List ℕ) → ArePieces ps x → ArePieces ps (34 ∷ [])
closes ps x h = are_on ps x (34 ∷ []) (λ s e. omega (arith, e)) (λ s e. omega (arith, e)) h

pub pieces_open : (ps : List Piece) (x : List ℕ) → ArePieces ps x → OpensQuoted (34 ∷ pieces_text ps)
pieces_open ps x h = record {
  body = pieces_text ps;
  more = 34 ∷ [];
  octets = pieces_octets ps;
  spelled = refl;
  some = omega arith;
  whole = record { pieces = ps; spelled = refl; meant = refl; right = closes ps x h };
}

piece_open : (ps : List Piece) (x part : List ℕ) (y : List ℕ) → ArePieces ps x → x ≡ part ++ y → GoesPiece [] part → OpensQuoted (34 ∷ (pieces_text ps ++ part))
piece_open ps x [] y h e g = subst (λ t. OpensQuoted (34 ∷ t)) (sym (append-nil (pieces_text ps))) (pieces_open ps x h)
piece_open ps x (c ∷ cs) y h e g =
    let all : List ℕ = piece_text g.piece ++ 34 ∷ [] in
    let same : all ≡ (c ∷ cs) ++ (g.rest ++ 34 ∷ []) = ap (λ t. t ++ 34 ∷ []) (sym g.spelled) ∙ append_assoc (c ∷ cs) g.rest (34 ∷ []) in
    let right : ArePieces ps all =
    subst (ArePieces ps) (sym same) (are_on ps ((c ∷ cs) ++ y) ((c ∷ cs) ++ (g.rest ++ 34 ∷ [])) (λ s. s) (λ s. s) (subst (ArePieces ps) e h)) in
    record {
      body = pieces_text ps ++ c ∷ cs;
      more = g.rest ++ 34 ∷ [];
      octets = pieces_octets (ps ++ g.piece ∷ []);
      spelled = refl;
      some = omega (arith, length-append g.rest (34 ∷ []));
      whole = record {
        pieces = ps ++ g.piece ∷ [];
        spelled =
            ap (λ t. 34 ∷ t) (append_assoc (pieces_text ps) (c ∷ cs) (g.rest ++ 34 ∷ []) ∙ ap (λ t. pieces_text ps ++ t) (sym same)
            ∙ sym (last_text ps g.piece (34 ∷ [])));
        meant = refl;
        right = are_more ps g.piece all (34 ∷ []) right refl (g.right (34 ∷ []));
      };
    }

pub quoted_short : (text : List ℕ) (at i : ℕ) (octets : List ℕ) → StandsAt text at 34 → ReadsPieces text (at + 1) octets i → drop i text ≡ []
    → Begun OpensQuoted text at (length text)
quoted_short text at i octets opens r e = search (rules, append-nil, pieces_open, end_is text i e r.within)

pub quoted_end : (text : List ℕ) (at i : ℕ) (octets : List ℕ) (fault : FormFault) → StandsAt text at 34 → ReadsPieces text (at + 1) octets i
    → IsFrontEnd (GoesPiece []) text i fault → IsFrontEnd OpensQuoted text at fault
quoted_end text at i octets fault opens r h =
    front_later (GoesPiece []) OpensQuoted text (34 ∷ pieces_text r.pieces) at i fault (omega (arith, r.ordered))
    (opens.spelled ∙ ap (λ t. 34 ∷ t) r.spelled)
    (λ part y e g. piece_open r.pieces (drop i text) part y r.right e g) h

-- ---- bodies

-- octets with one that may not occur in a body are no beginning of a body
pub body_fails : (p : ℕ → Bool) (text other : List ℕ) (at k c : ℕ) → Agree text other k → Passed p text at k → StandsAt text k c → p c ≡ false
    → AllByRecursion (λ d. p d ≡ true) (drop at other) → ⊥
body_fails p text other at k c a b s f all =
    let e : drop at other ≡ b.body ++ drop k other = spelled_too text other k at k b.body a (omega (arith, b.ordered)) (omega arith) b.spelled in
    let d = stands_too text other k k c a (omega arith) s in
    fails_among p b.body c (drop (k + 1) other) (drop at other) f all (sym (e ∙ ap (λ t. b.body ++ t) d.spelled))

other_marks : (m n : ℕ) (x y : List ℕ) → m ∷ x ≡ n ∷ y → (m ≡ n → ⊥) → ⊥
other_marks m n x y e f = f (head_is m n x y e)

-- the opening mark says which of the three kinds of string is not closed
pub quoted_is : (x : List ℕ) → IsUnclosed (34 ∷ x) → OpensQuoted (34 ∷ x)
quoted_is x (inl h) = h
quoted_is x u = search (rules, other_marks)

pub digits_are : (x : List ℕ) → IsUnclosed (35 ∷ x) → AllByRecursion (λ d. is_hexadecimal_octet d ≡ true) x
digits_are x (inr (inl h)) = subst (AllByRecursion (λ d. is_hexadecimal_octet d ≡ true)) (sym (tail_is 35 35 x h.body h.spelled)) h.digits
digits_are x u = search (rules, other_marks)

pub symbols_are : (x : List ℕ) → IsUnclosed (124 ∷ x) → AllByRecursion (λ d. is_body_octet d ≡ true) x
symbols_are x (inr (inr h)) = subst (AllByRecursion (λ d. is_body_octet d ≡ true)) (sym (tail_is 124 124 x h.body h.spelled)) h.symbols
symbols_are x u = search (rules, other_marks)
