-- What the reader of strings without a display hint has read, octet by octet, and of quoted strings piece by piece.
use Rattle.std.proofs.Common.{◌≡◌, ◌≢◌, ℕ, ◌+◌, ◌-◌, ◌*◌, ◌<◌, ◌≤◌, min, true, false, List, [], ◌∷◌, ◌++◌, length, drop, map, refl, sym, ap, subst, ◌∙◌, append_assoc, append-nil, arith, inl, inr, rules, Some, None, Option}
use Rattle.std.specs.List.{AllByRecursion}
use Rattle.sexpr_core.{specs.Reading.{StandsAt, ReadsBase64}, proofs.{Texts.{decimal_digit, all-append}, Steps.{more_capped, more_spelled}}}
use Rattle.sexpr_text.specs.AdvancedForm.{is_digit, is_token_octet, IsToken, Piece, raw, escaped, octal, hexadecimal, line, line_pair, piece_text, piece_octets, StartsOther, IsPiece, pieces_text, pieces_octets, ArePieces, IsQuoted, IsPacked, IsMarked, escape_value}
use Rattle.sexpr_text.specs.Reads.{Reads, ReadsPlain, ReadsPiece, ReadsToken, ReadsCount, ReadsEscape, ReadsDigit, IsLineEnd, escape_octets}
use Rattle.sexpr_text.proofs.Marked.{Left, left_pieces, are_followed, behind_opening}

-- ---- tokens

pub token_first : (text : List ℕ) (at c : ℕ) (octets : List ℕ) → StandsAt text at c → is_digit c ≡ false → is_token_octet c ≡ true
    → octets ≡ c ∷ [] → ReadsToken text at octets (at + 1)
token_first text at c octets stands other token e = search rules

pub token_grows : (xs : List ℕ) (c : ℕ) → IsToken xs → is_token_octet c ≡ true → IsToken (xs ++ c ∷ [])
token_grows [] c h token = absurd h
token_grows (x ∷ xs) c h token = (h.0, all-append (λ k. is_token_octet k ≡ true) (x ∷ xs) (c ∷ []) h.1 (token, tt))

pub token_more : (text : List ℕ) (at i c : ℕ) (octets new : List ℕ) → ReadsToken text at octets i → StandsAt text i c → is_token_octet c ≡ true
    → new ≡ octets ++ c ∷ [] → ReadsToken text at new (i + 1)
token_more text at i c octets new r stands token e = search (rules, append_assoc, token_grows)

-- ---- base64

pub packed_read : (text : List ℕ) (at to : ℕ) (octets : List ℕ) → StandsAt text at 124 → ReadsBase64 text (at + 1) 124 octets to → Reads IsPacked text at octets to
packed_read text at to octets opens r = record {
  spelling = 124 ∷ (r.body ++ 124 ∷ []);
  spelled = opens.spelled ∙ ap (λ t. 124 ∷ t) (r.spelled ∙ sym (append_assoc r.body (124 ∷ []) (drop to text)));
  meant = record { body = r.body; spelled = refl; packed = r.packed };
  forward = omega (arith, r.goes_on);
  within = r.within;
}

pub packed_marked : (text : List ℕ) (at to : ℕ) (octets : List ℕ) → Reads IsPacked text at octets to → Reads IsMarked text at octets to
packed_marked text at to octets r = record { spelling = r.spelling; spelled = r.spelled; meant = inr (inr r.meant); forward = r.forward; within = r.within }

pub quoted_marked : (text : List ℕ) (at to : ℕ) (octets : List ℕ) → Reads IsQuoted text at octets to → Reads IsMarked text at octets to
quoted_marked text at to octets r = record { spelling = r.spelling; spelled = r.spelled; meant = inl r.meant; forward = r.forward; within = r.within }

-- ---- lengths

pub count_first : (text : List ℕ) (at c : ℕ) → StandsAt text at c → 48 ≤ c → c < 58 → ReadsCount text at (c - 48) (at + 1)
count_first text at c stands low high =
    let e : 48 + (c - 48) ≡ c = omega arith in
    record {
      written = c - 48;
      capped = omega arith;
      spelled = stands.spelled ∙ ap (λ k. k ∷ drop (at + 1) text) (sym e) ∙ ap (λ t. t ++ drop (at + 1) text) (sym (decimal_digit (c - 48) (omega arith)));
      forward = omega arith;
      within = omega (arith, stands.within);
    }

pub count_more : (text : List ℕ) (at i n c grown : ℕ) (r : ReadsCount text at n i) → 0 < n → 48 ≤ c → c < 58 → StandsAt text i c
    → grown ≡ min (n * 10 + (c - 48)) 1048577 → ReadsCount text at grown (i + 1)
count_more text at i n c grown r some low high stands e = record {
  written = r.written * 10 + (c - 48);
  capped = more_capped n r.written (c - 48) grown r.capped e;
  spelled = more_spelled text at i r.written c (omega (arith, r.capped)) low high stands r.spelled;
  forward = omega (arith, r.forward);
  within = omega (arith, stands.within);
}

-- ---- quoted strings

pieces_text-append : (ps qs : List Piece) → pieces_text (ps ++ qs) ≡ pieces_text ps ++ pieces_text qs
pieces_text-append [] qs = refl
pieces_text-append (p ∷ ps) qs = ap (λ t. piece_text p ++ t) (pieces_text-append ps qs) ∙ sym (append_assoc (piece_text p) (pieces_text ps) (pieces_text qs))

pieces_octets-append : (ps qs : List Piece) → pieces_octets (ps ++ qs) ≡ pieces_octets ps ++ pieces_octets qs
pieces_octets-append [] qs = refl
pieces_octets-append (p ∷ ps) qs = ap (λ t. piece_octets p ++ t) (pieces_octets-append ps qs) ∙ sym (append_assoc (piece_octets p) (pieces_octets ps) (pieces_octets qs))

pub last_text : (ps : List Piece) (p : Piece) (rest : List ℕ) → pieces_text (ps ++ p ∷ []) ++ rest ≡ pieces_text ps ++ (piece_text p ++ rest)
last_text ps p rest = search (rules, pieces_text-append ps (p ∷ []), append-nil (piece_text p), append_assoc (pieces_text ps) (piece_text p) rest)

pub are_more : (ps : List Piece) (p : Piece) (x rest : List ℕ) → ArePieces ps x → x ≡ piece_text p ++ rest → IsPiece p rest → ArePieces (ps ++ p ∷ []) rest
are_more [] p x rest h e right = (right, tt)
are_more (q ∷ qs) p x rest h e right = search (rules, last_text qs p rest, are_more qs p x rest h.1 e right)

-- pieces of a quoted string, one after the other
pub record ReadsPieces (text : List ℕ) (at : ℕ) (octets : List ℕ) (to : ℕ) : Type 0 where
  pub pieces : List Piece
  pub spelled : drop at text ≡ pieces_text pieces ++ drop to text
  pub meant : octets ≡ pieces_octets pieces
  pub right : ArePieces pieces (drop to text)
  pub ordered : at ≤ to
  pub within : to ≤ length text

pub more_quoted : (text : List ℕ) (at i to : ℕ) (octets new : List ℕ) → ReadsPieces text at octets i → ReadsPiece text i octets new to → ReadsPieces text at new to
more_quoted text at i to octets new r s = record {
  pieces = r.pieces ++ s.piece ∷ [];
  spelled = r.spelled ∙ ap (λ t. pieces_text r.pieces ++ t) s.spelled ∙ sym (last_text r.pieces s.piece (drop to text));
  meant = s.meant ∙ ap (λ t. t ++ piece_octets s.piece) r.meant ∙ ap (λ t. pieces_octets r.pieces ++ t) (sym (append-nil (piece_octets s.piece))) ∙ sym (pieces_octets-append r.pieces (s.piece ∷ []));
  right = are_more r.pieces s.piece (drop i text) (drop to text) r.right s.spelled s.right;
  ordered = omega (arith, r.ordered, s.forward);
  within = s.within;
}

pub quoted_read : (text : List ℕ) (at i : ℕ) (octets : List ℕ) → StandsAt text at 34 → ReadsPieces text (at + 1) octets i → StandsAt text i 34
    → Reads IsQuoted text at octets (i + 1)
quoted_read text at i octets opens r closes = record {
  spelling = 34 ∷ (pieces_text r.pieces ++ 34 ∷ []);
  spelled = opens.spelled ∙ ap (λ t. 34 ∷ t) (r.spelled ∙ ap (λ t. pieces_text r.pieces ++ t) closes.spelled ∙ sym (append_assoc (pieces_text r.pieces) (34 ∷ []) (drop (i + 1) text)));
  meant = record { pieces = r.pieces; spelled = refl; meant = r.meant; right = are_followed r.pieces (drop (i + 1) text) [] (subst (ArePieces r.pieces) closes.spelled r.right) };
  forward = omega (arith, r.ordered);
  within = omega (arith, closes.within);
}

-- ---- quoted strings whose octets all mean themselves

pub nothing_plain : (text : List ℕ) (at : ℕ) → at ≤ length text → ReadsPlain text at [] at
nothing_plain text at h = record { spelled = refl; plain = tt; ordered = omega arith; within = h }

pub more_plain : (text : List ℕ) (at i c : ℕ) (octets : List ℕ) → ReadsPlain text at octets i → StandsAt text i c → c ≢ 34 → c ≢ 92
    → ReadsPlain text at (octets ++ c ∷ []) (i + 1)
more_plain text at i c octets r stands no_quote no_escape = search (rules, append_assoc, all-append)

raws : (xs rest : List ℕ) → AllByRecursion (λ c. (c ≢ 34) × (c ≢ 92)) xs
    → (pieces_text (map raw xs) ≡ xs) × (pieces_octets (map raw xs) ≡ xs) × ArePieces (map raw xs) rest
raws [] rest h = (refl, refl, tt)
raws (x ∷ xs) rest h = let r = raws xs rest h.1 in (ap (λ t. x ∷ t) r.0, ap (λ t. x ∷ t) r.1, (h.0, r.2))

pub plain_quoted : (text : List ℕ) (at end c : ℕ) (octets : List ℕ) → StandsAt text at 34 → ReadsPlain text (at + 1) octets end → StandsAt text end c → c ≡ 34
    → Reads IsQuoted text at octets (end + 1)
plain_quoted text at end c octets opens r closes e =
    let w = raws octets (drop end text) r.plain in
    quoted_read text at end octets opens
    record {
      pieces = map raw octets;
      spelled = r.spelled ∙ ap (λ t. t ++ drop end text) (sym w.0);
      meant = sym w.1;
      right = w.2;
      ordered = r.ordered;
      within = r.within;
    }
    (subst (StandsAt text end) e closes)

-- ---- quoted strings: octets one after the other

stands_two : (text : List ℕ) (at a b : ℕ) → StandsAt text at a → StandsAt text (at + 1) b → drop at text ≡ a ∷ b ∷ drop (at + 2) text
stands_two text at a b h k = search rules

stands_three : (text : List ℕ) (at a b c : ℕ) → StandsAt text at a → StandsAt text (at + 1) b → StandsAt text (at + 2) c
    → drop at text ≡ a ∷ b ∷ c ∷ drop (at + 3) text
stands_three text at a b c h k l = search (rules, stands_two)

-- what follows an octet of a spelling
pub second_octet : (text : List ℕ) (at a b : ℕ) (rest : List ℕ) → StandsAt text at a → drop at text ≡ b ∷ rest → drop (at + 1) text ≡ rest
second_octet text at a b rest h e = let k : a ∷ drop (at + 1) text ≡ b ∷ rest = sym h.spelled ∙ e in cc

pub third_octet : (text : List ℕ) (at a b : ℕ) (rest : List ℕ) → StandsAt text (at + 1) a → drop (at + 1) text ≡ b ∷ rest → drop (at + 2) text ≡ rest
third_octet text at a b rest h e = search (rules, second_octet text (at + 1) a b rest h e)

pub octal_behind : (text : List ℕ) (at a : ℕ) (xs : List ℕ) → StandsAt text at a → 92 ∷ drop at text ≡ xs → 92 ∷ a ∷ drop (at + 1) text ≡ xs
octal_behind text at a xs h e = ap (λ t. 92 ∷ t) (sym h.spelled) ∙ e

pub starts_seen : (text : List ℕ) (i c d : ℕ) → StandsAt text i c → c ≢ d → StartsOther d (drop i text)
starts_seen text i c d h n = subst (StartsOther d) (sym h.spelled) n

pub starts_ended : (text : List ℕ) (i d : ℕ) → drop i text ≡ [] → StartsOther d (drop i text)
starts_ended text i d e = subst (StartsOther d) (sym e) tt

-- ---- quoted strings: escapes

-- the rest of an escape, from its parts
escape_is : (front text : List ℕ) (at to : ℕ) (octet : Option ℕ) (p : Piece) → front ++ drop at text ≡ piece_text p ++ drop to text
    → piece_octets p ≡ escape_octets octet → IsPiece p (drop to text) → at < to → to ≤ length text → ReadsEscape front text at octet to
escape_is front text at to octet p e m r f w = search rules

pub line_end_pair : (text : List ℕ) (at second d : ℕ) → IsLineEnd text at second → StandsAt text (at + 1) d → d ≡ second
    → ReadsEscape (92 ∷ []) text at None (at + 2)
line_end_pair text at second d (inl h) k e =
    escape_is (92 ∷ []) text at (at + 2) None (line_pair 13 10) (ap (λ t. 92 ∷ t) (stands_two text at 13 d h.0 k ∙ ap (λ n. 13 ∷ n ∷ drop (at + 2) text) (e ∙ h.1)))
    refl (inl (refl, refl)) (omega arith) (omega (arith, k.within))
line_end_pair text at second d (inr h) k e =
    escape_is (92 ∷ []) text at (at + 2) None (line_pair 10 13) (ap (λ t. 92 ∷ t) (stands_two text at 10 d h.0 k ∙ ap (λ n. 10 ∷ n ∷ drop (at + 2) text) (e ∙ h.1)))
    refl (inr (refl, refl)) (omega arith) (omega (arith, k.within))

pub line_end_alone : (text : List ℕ) (at second : ℕ) → IsLineEnd text at second → StartsOther second (drop (at + 1) text)
    → ReadsEscape (92 ∷ []) text at None (at + 1)
line_end_alone text at second (inl h) o =
    escape_is (92 ∷ []) text at (at + 1) None (line 13) (ap (λ t. 92 ∷ t) h.0.spelled) refl
    (inl (refl, subst (λ n. StartsOther n (drop (at + 1) text)) h.1 o)) (omega arith) (omega (arith, h.0.within))
line_end_alone text at second (inr h) o =
    escape_is (92 ∷ []) text at (at + 1) None (line 10) (ap (λ t. 92 ∷ t) h.0.spelled) refl
    (inr (refl, subst (λ n. StartsOther n (drop (at + 1) text)) h.1 o)) (omega arith) (omega (arith, h.0.within))

pub letter_escape : (text : List ℕ) (at e c : ℕ) → StandsAt text at e → escape_value e ≡ Some c → ReadsEscape (92 ∷ []) text at (Some c) (at + 1)
letter_escape text at e c h m =
    escape_is (92 ∷ []) text at (at + 1) (Some c) (escaped e c) (ap (λ t. 92 ∷ t) h.spelled) refl m (omega arith) (omega (arith, h.within))

pub hexadecimal_escape : (text : List ℕ) (at m n : ℕ) → ReadsDigit text at m → ReadsDigit text (at + 1) n
    → ReadsEscape (92 ∷ 120 ∷ []) text at (Some (m * 16 + n)) (at + 2)
hexadecimal_escape text at m n h k =
    escape_is (92 ∷ 120 ∷ []) text at (at + 2) (Some (m * 16 + n)) (hexadecimal h.octet k.octet m n)
    (ap (λ t. 92 ∷ 120 ∷ t) (stands_two text at h.octet k.octet h.stands k.stands)) refl (h.valued, k.valued) (omega arith) (omega (arith, k.stands.within))

pub octal_escape : (text : List ℕ) (at a b c : ℕ) → a < 4 → StandsAt text at (48 + a) → (b < 8) × StandsAt text (at + 1) (48 + b)
    → (c < 8) × StandsAt text (at + 2) (48 + c) → ReadsEscape (92 ∷ []) text at (Some (a * 64 + b * 8 + c)) (at + 3)
octal_escape text at a b c low h k l =
    escape_is (92 ∷ []) text at (at + 3) (Some (a * 64 + b * 8 + c)) (octal a b c)
    (ap (λ t. 92 ∷ t) (stands_three text at (48 + a) (48 + b) (48 + c) h k.1 l.1)) refl (low, k.0, l.0) (omega arith) (omega (arith, l.1.within))

-- ---- quoted strings: pieces

pub raw_piece : (text : List ℕ) (at c : ℕ) (old new : List ℕ) → StandsAt text at c → c ≢ 34 → c ≢ 92 → new ≡ old ++ c ∷ [] → ReadsPiece text at old new (at + 1)
raw_piece text at c old new h n m e =
    record { piece = raw c; spelled = h.spelled; meant = e; right = (n, m); forward = omega arith; within = omega (arith, h.within) }

-- the pieces that are still to be read of the string at the opening quote
pub quoted_left : (text : List ℕ) (at i : ℕ) (octets s a rest : List ℕ) → StandsAt text at 34 → (r : ReadsPieces text (at + 1) octets i) → (q : IsQuoted s a)
    → drop at text ≡ s ++ rest → Left (drop i text) rest (pieces_octets r.pieces) (pieces_octets q.pieces)
quoted_left text at i octets s a rest opens r q e =
    left_pieces r.pieces q.pieces (drop i text) rest r.right (are_followed q.pieces [] rest q.right)
    (sym r.spelled ∙ (behind_opening 34 text at 34 s (pieces_text q.pieces) rest opens q.spelled e).1)

not_ended : (xs : List ℕ) (c : ℕ) (rest : List ℕ) → [] ≡ xs ++ c ∷ rest → ⊥
not_ended [] c rest e = cc
not_ended (x ∷ xs) c rest e = cc

pub left_ended : (x rest before all : List ℕ) → Left x rest before all → x ≡ [] → ⊥
left_ended x rest before all l e = not_ended (pieces_text l.pieces) 34 rest (sym e ∙ l.spelled)

piece_next : (ps : List Piece) (c : ℕ) (x rest : List ℕ) → ArePieces ps (34 ∷ rest) → c ∷ x ≡ pieces_text ps ++ 34 ∷ rest → c ≢ 34
    → (p : Piece) × (t : List ℕ) × IsPiece p t × (c ∷ x ≡ piece_text p ++ t)
piece_next [] c x rest h e n = let q : c ≡ 34 = cc in absurd (n q)
piece_next (p ∷ ps) c x rest h e n = (p, pieces_text ps ++ 34 ∷ rest, h.0, e ∙ append_assoc (piece_text p) (pieces_text ps) (34 ∷ rest))

pub left_next : (text : List ℕ) (i c : ℕ) (rest before all : List ℕ) → Left (drop i text) rest before all → StandsAt text i c → c ≢ 34
    → (p : Piece) × (t : List ℕ) × IsPiece p t × (drop i text ≡ piece_text p ++ t)
left_next text i c rest before all l h n = search (rules, piece_next)
