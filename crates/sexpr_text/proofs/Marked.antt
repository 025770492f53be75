-- Strings between marks and pieces of quoted strings: a text begins with at most one of each. What is read of a hexadecimal
-- body.
use Rattle.std.proofs.Common.{◌≡◌, ◌≢◌, ℕ, zero, suc, ◌+◌, ◌-◌, ◌<◌, ◌≤◌, ◌==◌, ◌&&◌, ◌||◌, false, Some, None, List, [], ◌∷◌, ◌++◌, length, refl, sym, ap, subst, ◌∙◌, append_assoc, length-append, arith, inl, inr, ◌⊎◌, rules, Bool, true, Ok, drop, append-nil, Err}
use Rattle.std.proofs.lemmas.{Bool.{cases_Bool, Decides.{nat_tests}}, List.Elements.{All-head, All-tail}, Option.{none-some}}
use Rattle.std.specs.{Prelude.{nat_le, if◌then◌else◌}, List.{AllPass}}
use Rattle.hex.specs.{Hex.{hex_digit_value, is_hex_digit, decode_of}, declared.error.FromHexError.{FromHexError, TheVariants.{OutOfMemory}}}
use Rattle.hex.proofs.HexLemmas.{decode_of-ok}
use Rattle.sexpr_text.specs.AdvancedForm.{escape_value, Piece, raw, escaped, octal, hexadecimal, line, line_pair, piece_text, piece_octets, StartsOther, IsPiece, pieces_text, pieces_octets, ArePieces, IsQuoted, IsHexadecimal, IsPacked, IsMarked}
use Rattle.sexpr_text.specs.Reads.{is_hexadecimal_octet, Reads, Keeps, IsNoHexadecimalOctet, IsDigitsFault, Stops}
use Rattle.sexpr_core.proofs.{BraceLaws.{body_octets, one_packed, visible_le, packed_short}, Spans.{one_body, visible-append}}
use Rattle.sexpr_core.proofs.Texts.{Passes, one_front, tail_is, all-append}
use Rattle.sexpr_core.specs.{Reading.{StandsAt, is_whitespace, visible, IsBase64}, declared.fault.FormFault.{FormFault, TheVariants.{Bad, Memory}}}

-- ---- the kind of a piece is known from its text

-- which kind of escape the octet after a backslash begins: 1 another octet, 2 octal, 3 hexadecimal, 4 a line end
abbrev escape_sort : ℕ → ℕ
escape_sort e = if e == 120 then 3 else if e == 13 || e == 10 then 4 else if nat_le 48 e && nat_le e 51 then 2 else 1

abbrev behind_sort : List ℕ → ℕ
behind_sort [] = 5
behind_sort (e ∷ es) = escape_sort e

-- the same for a text; 0 if it does not begin with a backslash, 5 if it ends before the kind is known
abbrev text_sort : List ℕ → ℕ
text_sort [] = 5
text_sort (c ∷ cs) = if c == 92 then behind_sort cs else 0

abbrev piece_sort : Piece → ℕ
piece_sort (raw c) = 0
piece_sort (escaped e c) = 1
piece_sort (octal a b c) = 2
piece_sort (hexadecimal h l m n) = 3
piece_sort _ = 4

octal_sorted : (a : ℕ) → a < 4 → escape_sort (48 + a) ≡ 2
octal_sorted zero h = refl
octal_sorted (suc zero) h = refl
octal_sorted (suc (suc zero)) h = refl
octal_sorted (suc (suc (suc zero))) h = refl
octal_sorted (suc (suc (suc (suc a)))) h = absurd (omega arith)

no_octal : (a c : ℕ) → a < 4 → escape_value (48 + a) ≡ Some c → ⊥
no_octal zero c h e = none-some c e
no_octal (suc zero) c h e = none-some c e
no_octal (suc (suc zero)) c h e = none-some c e
no_octal (suc (suc (suc zero))) c h e = none-some c e
no_octal (suc (suc (suc (suc a)))) c h e = absurd (omega arith)

no_escape : (e c k : ℕ) → escape_value e ≡ Some c → escape_value k ≡ escape_value 0 → e ≡ k → ⊥
no_escape e c k h none is = let n : escape_value 0 ≡ Some c = sym none ∙ ap escape_value (sym is) ∙ h in cc

no_octal_escape : (e c : ℕ) → escape_value e ≡ Some c → 48 ≤ e → e < 52 → ⊥
no_octal_escape e c h low high = let q : e ≡ 48 + (e - 48) = omega arith in no_octal (e - 48) c (omega arith) (ap escape_value (sym q) ∙ h)

letter_sorted : (e : ℕ) → e ≢ 120 → e ≢ 13 → e ≢ 10 → (48 ≤ e → e < 52 → ⊥) → escape_sort e ≡ 1
letter_sorted e x r n o = grind (arith, nat_tests)

escape_sorted : (e c : ℕ) → escape_value e ≡ Some c → escape_sort e ≡ 1
escape_sorted e c h = search (rules, letter_sorted, no_escape, no_octal_escape)

raw_sorted : (c : ℕ) (cs : List ℕ) → c ≢ 92 → text_sort (c ∷ cs) ≡ 0
raw_sorted c cs h = let f : (c == 92) ≡ false = grind (arith, nat_tests) in rw f refl

sorted : (p : Piece) (x : List ℕ) → IsPiece p x → text_sort (piece_text p ++ x) ≡ piece_sort p
sorted (raw c) x h = raw_sorted c x h.1
sorted (escaped e c) x h = escape_sorted e c h
sorted (octal a b c) x h = octal_sorted a h.0
sorted (hexadecimal h l m n) x k = refl
sorted (line c) x (inl h) = ap escape_sort h.0
sorted (line c) x (inr h) = ap escape_sort h.0
sorted (line_pair c d) x (inl h) = ap escape_sort h.0
sorted (line_pair c d) x (inr h) = ap escape_sort h.0

octal_same : (a b c d m n : ℕ) (x y : List ℕ)
    → 92 ∷ (48 + a) ∷ (48 + b) ∷ (48 + c) ∷ x ≡ 92 ∷ (48 + d) ∷ (48 + m) ∷ (48 + n) ∷ y → (a ≡ d) × (b ≡ m) × (c ≡ n) × (x ≡ y)
octal_same a b c d m n x y e = search rules

some_same : (m n : ℕ) → Some m ≡ Some n → m ≡ n
some_same m n e = cc

-- no LF follows a lone CR, and no CR follows a lone LF
lone : (c d : ℕ) (x y : List ℕ) → ((c ≡ 13) × StartsOther 10 x) ⊎ ((c ≡ 10) × StartsOther 13 x) → ((c ≡ 13) × (d ≡ 10)) ⊎ ((c ≡ 10) × (d ≡ 13)) → x ≡ d ∷ y → ⊥
lone c d x y (inl h) (inl k) e = let s : StartsOther 10 (d ∷ y) = subst (StartsOther 10) e h.1 in s k.1
lone c d x y (inl h) (inr k) e = let q : ◌≡◌ {A = ℕ} 13 10 = sym h.0 ∙ k.0 in omega arith
lone c d x y (inr h) (inl k) e = let q : ◌≡◌ {A = ℕ} 10 13 = sym h.0 ∙ k.0 in omega arith
lone c d x y (inr h) (inr k) e = let s : StartsOther 13 (d ∷ y) = subst (StartsOther 13) e h.1 in s k.1

-- a text begins with at most one piece
pub one_piece : (p q : Piece) (x y : List ℕ) → IsPiece p x → IsPiece q y → piece_text p ++ x ≡ piece_text q ++ y → (piece_octets p ≡ piece_octets q) × (x ≡ y)
one_piece (raw c) (raw d) x y hp hq e = (cc, cc)
one_piece (escaped a c) (escaped b d) x y hp hq e = search (rules, some_same)
one_piece (octal a b c) (octal d m n) x y hp hq e = search (rules, octal_same)
one_piece (hexadecimal h l m n) (hexadecimal i j v w) x y hp hq e = search (rules, some_same)
one_piece (line c) (line d) x y hp hq e = (refl, cc)
one_piece (line c) (line_pair d f) x y hp hq e = search (rules, lone)
one_piece (line_pair d f) (line c) x y hp hq e = search (rules, lone)
one_piece (line_pair c d) (line_pair f g) x y hp hq e = (refl, cc)
one_piece p q x y hp hq e = let s : piece_sort p ≡ piece_sort q = sym (sorted p x hp) ∙ ap text_sort e ∙ sorted q y hq in absurd (omega (arith, s))

-- ---- pieces

no_quote : (p : Piece) (x t : List ℕ) → IsPiece p x → piece_text p ++ x ≡ 34 ∷ t → ⊥
no_quote (raw c) x t h e = let q : c ≡ 34 = cc in h.0 q
no_quote _ x t h e = let q : ◌≡◌ {A = ℕ} 92 34 = cc in omega arith

-- the pieces that follow those before, up to the closing quote
pub record Left (x rest before all : List ℕ) : Type 0 where
  pub pieces : List Piece
  pub spelled : x ≡ pieces_text pieces ++ 34 ∷ rest
  pub right : ArePieces pieces (34 ∷ rest)
  pub meant : all ≡ before ++ pieces_octets pieces

pub left_pieces : (ps qs : List Piece) (x rest : List ℕ) → ArePieces ps x → ArePieces qs (34 ∷ rest) → pieces_text ps ++ x ≡ pieces_text qs ++ 34 ∷ rest
    → Left x rest (pieces_octets ps) (pieces_octets qs)
left_pieces [] qs x rest hp hq e = record { pieces = qs; spelled = e; right = hq; meant = refl }
left_pieces (p ∷ ps) [] x rest hp hq e = absurd (search (rules, no_quote, append_assoc))
left_pieces (p ∷ ps) (q ∷ qs) x rest hp hq e =
    let o = one_piece p q (pieces_text ps ++ x) (pieces_text qs ++ 34 ∷ rest) hp.0 hq.0
    (sym (append_assoc (piece_text p) (pieces_text ps) x) ∙ e ∙ append_assoc (piece_text q) (pieces_text qs) (34 ∷ rest)) in
    let l = left_pieces ps qs x rest hp.1 hq.1 o.1 in
    search (rules, append_assoc)

-- no piece begins with a quote
pub none_left : (ps : List Piece) (r rest : List ℕ) → ArePieces ps (34 ∷ rest) → 34 ∷ r ≡ pieces_text ps ++ 34 ∷ rest → (pieces_octets ps ≡ []) × (r ≡ rest)
none_left [] r rest h e = (refl, cc)
none_left (p ∷ ps) r rest h e = absurd (search (rules, no_quote, append_assoc))

starts_on : (d : ℕ) (t x y : List ℕ) → (StartsOther d x → StartsOther d y) → StartsOther d (t ++ x) → StartsOther d (t ++ y)
starts_on d [] x y on h = on h
starts_on d (c ∷ cs) x y on h = h

piece_on : (p : Piece) (t x y : List ℕ) → (StartsOther 10 x → StartsOther 10 y) → (StartsOther 13 x → StartsOther 13 y) → IsPiece p (t ++ x) → IsPiece p (t ++ y)
piece_on (line c) t x y l r (inl h) = inl (h.0, starts_on 10 t x y l h.1)
piece_on (line c) t x y l r (inr h) = inr (h.0, starts_on 13 t x y r h.1)
piece_on p t x y l r h = h

-- pieces stay well formed before other octets, if these begin with LF or CR only if the first ones do
pub are_on : (ps : List Piece) (x y : List ℕ) → (StartsOther 10 x → StartsOther 10 y) → (StartsOther 13 x → StartsOther 13 y) → ArePieces ps x → ArePieces ps y
are_on [] x y l r h = tt
are_on (p ∷ ps) x y l r h = (piece_on p (pieces_text ps) x y l r h.0, are_on ps x y l r h.1)

-- pieces are well formed, whatever follows their closing quote
pub are_followed : (ps : List Piece) (r rest : List ℕ) → ArePieces ps (34 ∷ r) → ArePieces ps (34 ∷ rest)
are_followed ps r rest h = are_on ps (34 ∷ r) (34 ∷ rest) (λ s. s) (λ s. s) h

piece_few : (p : Piece) → length (piece_octets p) ≤ length (piece_text p)
piece_few (raw c) = omega arith
piece_few _ = omega arith

-- pieces have no more octets than their text
pub pieces_few : (ps : List Piece) → length (pieces_octets ps) ≤ length (pieces_text ps)
pieces_few [] = omega arith
pieces_few (p ∷ ps) = omega (arith, piece_few p, pieces_few ps, length-append (piece_octets p) (pieces_octets ps), length-append (piece_text p) (pieces_text ps))

-- ---- which piece begins with a backslash and an octet

sort_is : (p : Piece) (rest xs : List ℕ) (k : ℕ) → IsPiece p rest → xs ≡ piece_text p ++ rest → text_sort xs ≡ k → piece_sort p ≡ k
sort_is p rest xs k h e s = sym (sorted p rest h) ∙ sym (ap text_sort e) ∙ s

pub hexadecimal_piece : (p : Piece) (rest t : List ℕ) → IsPiece p rest → 92 ∷ 120 ∷ t ≡ piece_text p ++ rest
    → (h : ℕ) × (l : ℕ) × (m : ℕ) × (n : ℕ) × (t ≡ h ∷ l ∷ rest) × (hex_digit_value h ≡ Some m) × (hex_digit_value l ≡ Some n)
hexadecimal_piece (hexadecimal h l m n) rest t k e = (h, l, m, n, cc, k.0, k.1)
hexadecimal_piece p rest t k e = let s : piece_sort p ≡ 3 = sort_is p rest (92 ∷ 120 ∷ t) 3 k e refl in absurd (omega (arith, s))

pub octal_piece : (p : Piece) (rest t : List ℕ) (a : ℕ) → a < 4 → IsPiece p rest → 92 ∷ (48 + a) ∷ t ≡ piece_text p ++ rest
    → (b : ℕ) × (c : ℕ) × (t ≡ (48 + b) ∷ (48 + c) ∷ rest) × (b < 8) × (c < 8)
octal_piece (octal d b c) rest t a low k e = (b, c, cc, k.1, k.2)
octal_piece p rest t a low k e = let s : piece_sort p ≡ 2 = sort_is p rest (92 ∷ (48 + a) ∷ t) 2 k e (octal_sorted a low) in absurd (omega (arith, s))

-- an octet that begins no escape follows no backslash
pub letter_piece : (p : Piece) (rest t : List ℕ) (c : ℕ) → IsPiece p rest → 92 ∷ c ∷ t ≡ piece_text p ++ rest
    → c ≢ 120 → c ≢ 13 → c ≢ 10 → (48 ≤ c → c < 52 → ⊥) → escape_value c ≡ None → ⊥
letter_piece (escaped e v) rest t c k q x r n o none = search rules
letter_piece p rest t c k q x r n o none = search (rules, letter_sorted, sort_is)

-- ---- opening and closing marks

pub closed : (m : ℕ) (s body r : List ℕ) → s ≡ m ∷ (body ++ m ∷ []) → s ++ r ≡ m ∷ (body ++ m ∷ r)
closed m s body r e = ap (λ t. t ++ r) e ∙ ap (λ t. m ∷ t) (append_assoc body (m ∷ []) r)

-- what follows the opening mark
pub behind_opening : (m : ℕ) (text : List ℕ) (at c : ℕ) (s body rest : List ℕ) → StandsAt text at c → s ≡ m ∷ (body ++ m ∷ []) → drop at text ≡ s ++ rest
    → (c ≡ m) × (drop (at + 1) text ≡ body ++ m ∷ rest)
behind_opening m text at c s body rest opens spelled e = search (rules, closed)

opened : (m n : ℕ) (s a r t b q : List ℕ) → s ≡ m ∷ (a ++ m ∷ []) → t ≡ n ∷ (b ++ n ∷ []) → s ++ r ≡ t ++ q
    → (m ≡ n) × (a ++ m ∷ r ≡ b ++ n ∷ q)
opened m n s a r t b q d e h = search (rules, closed)

-- ---- a text begins with at most one quoted string

pub one_quoted : (s r a t q b : List ℕ) → IsQuoted s a → IsQuoted t b → s ++ r ≡ t ++ q → (a ≡ b) × (r ≡ q)
one_quoted s r a t q b h k e =
    let o = opened 34 34 s (pieces_text h.pieces) r t (pieces_text k.pieces) q h.spelled k.spelled e in
    let l = left_pieces h.pieces k.pieces (34 ∷ r) q (are_followed h.pieces [] r h.right) (are_followed k.pieces [] q k.right) o.1 in
    let n = none_left l.pieces r q l.right l.spelled in
    (h.meant ∙ sym (append-nil (pieces_octets h.pieces)) ∙ ap (λ t. pieces_octets h.pieces ++ t) (sym n.0) ∙ sym l.meant ∙ sym k.meant, n.1)

-- ---- a text begins with at most one hexadecimal string

abbrev digit_holds : ℕ → Type 0
digit_holds c = is_hex_digit c ≡ true

visible_digits : (c : ℕ) (cs : List ℕ) → AllPass is_hex_digit (visible (c ∷ cs)) → (is_hexadecimal_octet c ≡ true) × AllPass is_hex_digit (visible cs)
visible_digits c cs h = elim (cases_Bool (is_whitespace c)) [
  | inl e ↦ (rw e refl, rw e at h)
  | inr e ↦
      let k : AllPass is_hex_digit (c ∷ visible cs) = rw e at h in
      (rw (e, All-head digit_holds c (visible cs) k) refl, All-tail digit_holds c (visible cs) k)
]

hexadecimal_body : (body : List ℕ) → AllPass is_hex_digit (visible body) → Passes is_hexadecimal_octet body
hexadecimal_body [] h = tt
hexadecimal_body (c ∷ cs) h = let p = visible_digits c cs h in (p.0, hexadecimal_body cs p.1)

-- the body of a hexadecimal string has only digits and whitespace
pub hexadecimal_octets : (body octets : List ℕ) → decode_of (visible body) ≡ Ok octets → Passes is_hexadecimal_octet body
hexadecimal_octets body octets e = hexadecimal_body body (decode_of-ok (visible body) octets e).1

pub one_hexadecimal : (s r a t q b : List ℕ) → IsHexadecimal s a → IsHexadecimal t b → s ++ r ≡ t ++ q → (a ≡ b) × (r ≡ q)
one_hexadecimal s r a t q b h k e =
    let o = opened 35 35 s h.body r t k.body q h.spelled k.spelled e in
    let f = one_front is_hexadecimal_octet h.body k.body (35 ∷ r) (35 ∷ q) (hexadecimal_octets h.body a h.packed) (hexadecimal_octets k.body b k.packed) refl refl o.1 in
    let m : decode_of (visible k.body) ≡ Ok a = ap (λ t. decode_of (visible t)) (sym f.0) ∙ h.packed in
    let g : decode_of (visible k.body) ≡ Ok b = k.packed in
    (cc, tail_is 35 35 r q f.1)

-- ---- a text begins with at most one string in base64

pub one_base64 : (s r a t q b : List ℕ) → IsPacked s a → IsPacked t b → s ++ r ≡ t ++ q → (a ≡ b) × (r ≡ q)
one_base64 s r a t q b h k e =
    let o = opened 124 124 s h.body r t k.body q h.spelled k.spelled e in
    let f = one_body h.body k.body 124 124 r q (body_octets h.body a h.packed) (body_octets k.body b k.packed) refl refl o.1 in
    (one_packed (visible k.body) a b (subst (λ t. IsBase64 (visible t) a) f.0 h.packed) k.packed, f.2)

-- ---- a text begins with at most one string between marks

-- a text begins with at most one string between marks, and determines where it ends
pub one_marked : (s r a t q b : List ℕ) → IsMarked s a → IsMarked t b → s ++ r ≡ t ++ q → (a ≡ b) × (r ≡ q)
one_marked s r a t q b (inl h) (inl k) e = one_quoted s r a t q b h k e
one_marked s r a t q b (inr (inl h)) (inr (inl k)) e = one_hexadecimal s r a t q b h k e
one_marked s r a t q b (inr (inr h)) (inr (inr k)) e = one_base64 s r a t q b h k e
one_marked s r a t q b (inl h) (inr (inl k)) e = absurd (omega (arith, (opened 34 35 s _ r t k.body q h.spelled k.spelled e).0))
one_marked s r a t q b (inl h) (inr (inr k)) e = absurd (omega (arith, (opened 34 124 s _ r t k.body q h.spelled k.spelled e).0))
one_marked s r a t q b (inr (inl h)) (inl k) e = absurd (omega (arith, (opened 35 34 s h.body r t _ q h.spelled k.spelled e).0))
one_marked s r a t q b (inr (inl h)) (inr (inr k)) e = absurd (omega (arith, (opened 35 124 s h.body r t k.body q h.spelled k.spelled e).0))
one_marked s r a t q b (inr (inr h)) (inl k) e = absurd (omega (arith, (opened 124 34 s h.body r t _ q h.spelled k.spelled e).0))
one_marked s r a t q b (inr (inr h)) (inr (inl k)) e = absurd (omega (arith, (opened 124 35 s h.body r t k.body q h.spelled k.spelled e).0))

abbrev pub is_mark : ℕ → Bool
is_mark c = c == 34 || c == 35 || c == 124

-- a string between marks begins with an opening mark
pub marked_first : (s a : List ℕ) → IsMarked s a → (c : ℕ) × (cs : List ℕ) × (s ≡ c ∷ cs) × (is_mark c ≡ true)
marked_first s a (inl h) = (34, pieces_text h.pieces ++ 34 ∷ [], h.spelled, refl)
marked_first s a (inr (inl h)) = (35, h.body ++ 35 ∷ [], h.spelled, refl)
marked_first s a (inr (inr h)) = (124, h.body ++ 124 ∷ [], h.spelled, refl)

-- ---- a string has no more octets than its text

longer : (m : ℕ) (s body : List ℕ) → s ≡ m ∷ (body ++ m ∷ []) → length body + 2 ≤ length s
longer m s body e = omega (arith, ap length e, length-append body (m ∷ []))

pub marked_few : (s a : List ℕ) → IsMarked s a → length a ≤ length s
marked_few s a (inl h) = omega (arith, longer 34 s (pieces_text h.pieces) h.spelled, ap length h.meant, pieces_few h.pieces)
marked_few s a (inr (inl h)) = search (rules, decode_of-ok, longer, visible_le)
marked_few s a (inr (inr h)) = omega (arith, longer 124 s h.body h.spelled, packed_short h.body a h.packed)

-- ---- the opening mark says which of the three kinds a string is

sort_of : (text : List ℕ) (at c : ℕ) (s a rest : List ℕ) → StandsAt text at c → IsMarked s a → drop at text ≡ s ++ rest
    → ((c ≡ 34) × IsQuoted s a) ⊎ (((c ≡ 35) × IsHexadecimal s a) ⊎ ((c ≡ 124) × IsPacked s a))
sort_of text at c s a rest opens (inl h) e = inl ((behind_opening 34 text at c s (pieces_text h.pieces) rest opens h.spelled e).0, h)
sort_of text at c s a rest opens (inr (inl h)) e = inr (inl ((behind_opening 35 text at c s h.body rest opens h.spelled e).0, h))
sort_of text at c s a rest opens (inr (inr h)) e = inr (inr ((behind_opening 124 text at c s h.body rest opens h.spelled e).0, h))

pub quoted_of : (text : List ℕ) (at c : ℕ) (s a rest : List ℕ) → StandsAt text at c → c ≡ 34 → IsMarked s a → drop at text ≡ s ++ rest → IsQuoted s a
quoted_of text at c s a rest opens is m e = search (rules, sort_of)

pub hexadecimal_of : (text : List ℕ) (at c : ℕ) (s a rest : List ℕ) → StandsAt text at c → c ≡ 35 → IsMarked s a → drop at text ≡ s ++ rest → IsHexadecimal s a
hexadecimal_of text at c s a rest opens is m e = search (rules, sort_of)

pub packed_of : (text : List ℕ) (at c : ℕ) (s a rest : List ℕ) → StandsAt text at c → c ≡ 124 → IsMarked s a → drop at text ≡ s ++ rest → IsPacked s a
packed_of text at c s a rest opens is m e = search (rules, sort_of)

-- ---- a hexadecimal body, octet by octet

pub nothing_kept : (text : List ℕ) (at : ℕ) → at ≤ length text → Keeps text at [] at
nothing_kept text at h = record { body = []; octets = tt; spelled = refl; rest_is = refl; ordered = omega arith; within = h }

pub more_kept : (text : List ℕ) (at i c : ℕ) (kept new : List ℕ) → Keeps text at kept i → StandsAt text i c
    → (is_hexadecimal_octet c ≡ true) × (new ≡ kept ++ visible (c ∷ [])) → Keeps text at new (i + 1)
more_kept text at i c kept new k stands e = record {
  body = k.body ++ c ∷ [];
  octets = all-append (λ n. is_hexadecimal_octet n ≡ true) k.body (c ∷ []) k.octets (e.0, tt);
  spelled = k.spelled ∙ ap (λ t. k.body ++ t) stands.spelled ∙ sym (append_assoc k.body (c ∷ []) (drop (i + 1) text));
  rest_is = e.1 ∙ ap (λ t. t ++ visible (c ∷ [])) k.rest_is ∙ sym (visible-append k.body (c ∷ []));
  ordered = omega (arith, k.ordered);
  within = omega (arith, stands.within);
}

pub hexadecimal_read : (text : List ℕ) (at i : ℕ) (kept octets : List ℕ) → StandsAt text at 35 → Keeps text (at + 1) kept i → StandsAt text i 35
    → decode_of kept ≡ Ok octets → Reads IsHexadecimal text at octets (i + 1)
hexadecimal_read text at i kept octets opens k closes e = record {
  spelling = 35 ∷ (k.body ++ 35 ∷ []);
  spelled = opens.spelled ∙ ap (λ t. 35 ∷ t) (k.spelled ∙ ap (λ t. k.body ++ t) closes.spelled ∙ sym (append_assoc k.body (35 ∷ []) (drop (i + 1) text)));
  meant = record { body = k.body; spelled = refl; packed = ap decode_of (sym k.rest_is) ∙ e };
  forward = omega (arith, k.ordered);
  within = omega (arith, closes.within);
}

-- if the next octet may not occur in a body, the octets so far are the whole body, and its mark follows
kept_stops : (text : List ℕ) (at i : ℕ) (kept body rest : List ℕ) → (k : Keeps text at kept i) → Stops is_hexadecimal_octet (drop i text)
    → Passes is_hexadecimal_octet body → drop at text ≡ body ++ 35 ∷ rest → (k.body ≡ body) × (drop i text ≡ 35 ∷ rest)
kept_stops text at i kept body rest k stops all e =
    one_front is_hexadecimal_octet k.body body (drop i text) (35 ∷ rest) k.octets all stops refl (sym k.spelled ∙ e)

pub kept_refused : (text : List ℕ) (at i c : ℕ) (kept body rest : List ℕ) (fault : FormFault) → Keeps text at kept i → StandsAt text i c
    → (c ≡ 35 → ⊥) → Passes is_hexadecimal_octet body → drop at text ≡ body ++ 35 ∷ rest → IsNoHexadecimalOctet c i fault → fault ≡ Memory
kept_refused text at i c kept body rest (Bad n) k stands apart all e is =
    let s = kept_stops text at i kept body rest k (subst (Stops is_hexadecimal_octet) (sym stands.spelled) is.1) all e in
    let q : c ∷ drop (i + 1) text ≡ 35 ∷ rest = sym stands.spelled ∙ s.1 in
    let m : c ≡ 35 = cc in
    absurd (apart m)
kept_refused text at i c kept body rest _ k stands apart all e is = search rules

pub kept_end : (text : List ℕ) (at i : ℕ) (kept body rest : List ℕ) → Keeps text at kept i → drop i text ≡ []
    → Passes is_hexadecimal_octet body → drop at text ≡ body ++ 35 ∷ rest → ⊥
kept_end text at i kept body rest k ended all e =
    let s = kept_stops text at i kept body rest k (subst (Stops is_hexadecimal_octet) (sym ended) tt) all e in
    let q : [] ≡ 35 ∷ rest = sym ended ∙ s.1 in cc

-- the digits that were kept are those of the string at this offset
pub same_digits : (text : List ℕ) (at i : ℕ) (kept body rest : List ℕ) → Keeps text at kept i → StandsAt text i 35
    → Passes is_hexadecimal_octet body → drop at text ≡ body ++ 35 ∷ rest → kept ≡ visible body
same_digits text at i kept body rest k closes all e =
    search (rules, kept_stops text at i kept body rest k (subst (Stops is_hexadecimal_octet) (sym closes.spelled) refl) all e)

pub digits_refused : (text : List ℕ) (at i : ℕ) (kept s a rest : List ℕ) (error : FromHexError) (fault : FormFault) → StandsAt text at 35
    → Keeps text (at + 1) kept i → StandsAt text i 35 → IsHexadecimal s a → drop at text ≡ s ++ rest
    → (error ≡ OutOfMemory) ⊎ (decode_of kept ≡ Err error) → IsDigitsFault error i fault → fault ≡ Memory
digits_refused text at i kept s a rest error fault opens k closes h e (inl o) is = subst (λ x. IsDigitsFault x i fault) o is
digits_refused text at i kept s a rest error fault opens k closes h e (inr d) is =
    let m = same_digits text (at + 1) i kept h.body rest k closes (hexadecimal_octets h.body a h.packed) (behind_opening 35 text at 35 s h.body rest opens h.spelled e).1 in
    let q : decode_of kept ≡ Ok a = ap decode_of m ∙ h.packed in
    cc
