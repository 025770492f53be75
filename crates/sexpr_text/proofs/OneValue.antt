-- A text spells at most one string or value, and determines where it ends.
use Rattle.std.proofs.Common.{◌≡◌, ℕ, ◌==◌, ◌||◌, Bool, true, false, ◌⊎◌, inl, inr, List, [], ◌∷◌, ◌++◌, length, refl, sym, ap, subst, ◌∙◌, append_assoc, arith, rules, ◌<◌, nat_le, Some, None}
use Rattle.std.proofs.lemmas.Bool.{or_cases, and_parts, eqb-true, leb-true, cases_Bool, agree_below_at, Decides.{nat_tests}}
use Rattle.sexpr_core.specs.Value.{decimal, Value, Values, string, list, none, more, canon}
use Rattle.sexpr_core.specs.Reading.{is_whitespace, AreSpaces, IsSpace, StartsVisible, IsBase64, Braced, visible}
use Rattle.sexpr_core.proofs.Texts.{IsDigit, AreDigits, AreDigits-decimal, decimal_starts, decimal_same, parts_agree, verbatim_is, same_length, one_front, Passes, canon_one, all-append, tail_is}
use Rattle.sexpr_core.proofs.{BraceLaws.{body_octets, one_packed}, Spans.{one_body, one_end}}
use Rattle.sexpr_text.specs.AdvancedForm.{is_digit, is_token_octet, IsToken, IsApart, IsCount, IsMarked, Simple, IsHinted, SpellsAs, SpellsMembers, Spells, IsText}
use Rattle.sexpr_text.specs.Reads.{Stops}
use Rattle.sexpr_text.proofs.Marked.{is_mark, marked_first, one_marked}

-- ---- a text spells at most one string without a display hint

-- the first octet of a string's spelling: an octet of a token, also a digit, or an opening mark
abbrev pub is_string_start : ℕ → Bool
is_string_start c = is_token_octet c || c == 34 || c == 35 || c == 124

decimal_first : (n : ℕ) (cs : List ℕ) → (c : ℕ) × (ds : List ℕ) × (decimal n ++ cs ≡ c ∷ ds) × IsDigit c
decimal_first n cs = let s = decimal_starts n in (s.digit, s.rest ++ cs, ap (λ t. t ++ cs) s.is, s.low)

-- a string between marks begins with a digit of its length or with its opening mark
pub string_first : (count : List ℕ) (n mark : ℕ) (tail s : List ℕ) → IsCount count n → is_mark mark ≡ true → s ≡ count ++ mark ∷ tail
    → (c : ℕ) × (cs : List ℕ) × (s ≡ c ∷ cs) × (IsDigit c ⊎ (is_mark c ≡ true))
string_first count n mark tail s (inl k) m e = (mark, tail, e ∙ ap (λ t. t ++ mark ∷ tail) k, inr m)
string_first count n mark tail s (inr k) m e = search (rules, decimal_first n (mark ∷ tail))

-- a string that is no token begins with a digit or an opening mark
pub cut_first : (s a : List ℕ) → Simple false s a → (c : ℕ) × (cs : List ℕ) × (s ≡ c ∷ cs) × (IsDigit c ⊎ (is_mark c ≡ true))
cut_first s a (inl h) = let f = decimal_first (length a) (58 ∷ a) in (f.0, f.1, h ∙ verbatim_is a ∙ f.2, inl f.3)
cut_first s a (inr h) =
    let f = marked_first h.marked a h.meant in
    string_first h.count (length a) f.0 f.1 s h.counts f.3 (h.spelled ∙ ap (λ t. h.count ++ t) f.2)

pub either_starts : (c : ℕ) → IsDigit c ⊎ (is_mark c ≡ true) → is_string_start c ≡ true
either_starts c (inl h) = grind (arith, nat_tests)
either_starts c (inr h) = grind (arith, nat_tests)

token_first : (s a : List ℕ) → s ≡ a → IsToken a → (c : ℕ) × (cs : List ℕ) × (s ≡ c ∷ cs) × (is_string_start c ≡ true)
token_first s [] e h = absurd h
token_first s (c ∷ cs) e h = (c, cs, e, rw h.1.0 refl)

pub simple_first : (e : Bool) (s a : List ℕ) → Simple e s a → (c : ℕ) × (cs : List ℕ) × (s ≡ c ∷ cs) × (is_string_start c ≡ true)
simple_first true s a h = token_first s a h.0 h.1
simple_first false s a h = let f = cut_first s a h in (f.0, f.1, f.2, either_starts f.0 f.3)

-- ---- digits, and what follows them

-- what follows the digits: in verbatim form a colon and the octets, otherwise a string between marks
abbrev pub IsBehind : List ℕ → ℕ → List ℕ → List ℕ → Type 0
IsBehind digits mark tail octets =
    ((mark ≡ 58) × (digits ≡ decimal (length octets)) × (tail ≡ octets)) ⊎ ((is_mark mark ≡ true) × IsCount digits (length octets) × IsMarked (mark ∷ tail) octets)

-- the spelling of a string that is no token, divided after the digits with which it begins
pub record Cut (text octets : List ℕ) : Type 0 where
  pub digits : List ℕ
  pub mark : ℕ
  pub tail : List ℕ
  pub spelled : text ≡ digits ++ mark ∷ tail
  pub are_digits : AreDigits digits
  pub other : IsDigit mark → ⊥
  pub behind : IsBehind digits mark tail octets

pub mark_no_digit : (c : ℕ) → is_mark c ≡ true → IsDigit c → ⊥
mark_no_digit c h k = grind (arith, nat_tests)

pub count_digits : (count : List ℕ) (n : ℕ) → IsCount count n → AreDigits count
count_digits count n (inl e) = subst AreDigits (sym e) tt
count_digits count n (inr e) = subst AreDigits (sym e) (AreDigits-decimal n)

pub cut : (s a : List ℕ) → Simple false s a → Cut s a
cut s a (inl e) = search (rules, verbatim_is, AreDigits-decimal)
cut s a (inr h) = search (rules, marked_first, count_digits, mark_no_digit)

one_behind : (c d : ℕ) (ds es x a r y b q : List ℕ) → IsBehind ds c x a → IsBehind es d y b → ds ≡ es → c ≡ d → x ++ r ≡ y ++ q → (a ≡ b) × (r ≡ q)
one_behind c d ds es x a r y b q (inl h) (inl k) e f g = search (rules, decimal_same, same_length)
one_behind c d ds es x a r y b q (inl h) (inr k) e f g = search (rules, ap is_mark (sym h.0 ∙ f) ∙ k.0)
one_behind c d ds es x a r y b q (inr h) (inl k) e f g = search (rules, ap is_mark (sym k.0 ∙ sym f) ∙ h.0)
one_behind c d ds es x a r y b q (inr h) (inr k) e f g = one_marked (c ∷ x) r a (d ∷ y) q b h.2 k.2 cc

one_cut : (s r a t q b : List ℕ) → Cut s a → Cut t b → s ++ r ≡ t ++ q → (a ≡ b) × (r ≡ q)
one_cut s r a t q b h k e =
    let l : h.digits ++ h.mark ∷ (h.tail ++ r) ≡ k.digits ++ k.mark ∷ (k.tail ++ q) =
    sym (append_assoc h.digits (h.mark ∷ h.tail) r) ∙ ap (λ u. u ++ r) (sym h.spelled) ∙ e ∙ ap (λ u. u ++ q) k.spelled ∙ append_assoc k.digits (k.mark ∷ k.tail) q in
    let p = parts_agree h.digits k.digits (h.tail ++ r) (k.tail ++ q) h.mark k.mark h.are_digits k.are_digits h.other k.other l in
    one_behind h.mark k.mark h.digits k.digits h.tail a r k.tail b q h.behind k.behind p.heads p.marks p.tails

-- ---- tokens

pub apart_stops : (r : List ℕ) → IsApart true r → Stops is_token_octet r
apart_stops [] h = tt
apart_stops (c ∷ cs) h = h

pub token_passes : (a : List ℕ) → IsToken a → Passes is_token_octet a
token_passes [] h = absurd h
token_passes (c ∷ cs) h = h.1

pub token_other : (c : ℕ) → is_digit c ≡ false → is_token_octet c ≡ true → IsDigit c ⊎ (is_mark c ≡ true) → ⊥
token_other c h k (inl d) = grind (arith, nat_tests)
token_other c h k (inr m) = grind (arith, nat_tests)

-- an octet that begins a token begins no other string
pub no_token : (c : ℕ) (cs t q b : List ℕ) → is_digit c ≡ false → is_token_octet c ≡ true → Simple false t b → c ∷ cs ≡ t ++ q → ⊥
no_token c cs t q b h k l e = search (rules, cut_first t b l)

token_apart : (a r t q b : List ℕ) → IsToken a → Simple false t b → a ++ r ≡ t ++ q → ⊥
token_apart [] r t q b h l e = absurd h
token_apart (c ∷ cs) r t q b h l e = no_token c (cs ++ r) t q b h.0 h.1.0 l e

-- a text begins with at most one spelling of a string, and determines where it ends
pub one_simple : (e f : Bool) (s r a t q b : List ℕ) → Simple e s a → IsApart e r → Simple f t b → IsApart f q → s ++ r ≡ t ++ q → (a ≡ b) × (r ≡ q)
one_simple true true s r a t q b h k l m p =
    one_front is_token_octet a b r q (token_passes a h.1) (token_passes b l.1) (apart_stops r k) (apart_stops q m)
    (ap (λ u. u ++ r) (sym h.0) ∙ p ∙ ap (λ u. u ++ q) l.0)
one_simple true false s r a t q b h k l m p = absurd (token_apart a r t q b h.1 l (ap (λ u. u ++ r) (sym h.0) ∙ p))
one_simple false true s r a t q b h k l m p = absurd (token_apart b q s r a l.1 h (ap (λ u. u ++ q) (sym l.0) ∙ sym p))
one_simple false false s r a t q b h k l m p = one_cut s r a t q b (cut s a h) (cut t b l) p

-- ---- the first octet of a value

abbrev pub is_value_start : ℕ → Bool
is_value_start c = is_string_start c || c == 40 || c == 91

space_low : (c : ℕ) → is_whitespace c ≡ true → c < 33
space_low c h = search (rules, or_cases, nat_le, eqb-true, leb-true, and_parts)

space_starts : (c : ℕ) → is_whitespace c ≡ true → is_value_start c ≡ true → ⊥
space_starts c h k = search (rules, agree_below_at, space_low)

pub start_visible : (c : ℕ) → is_value_start c ≡ true → is_whitespace c ≡ false
start_visible c h = search (rules, cases_Bool, space_starts)

pub simple_differs : (e : Bool) (s a r x : List ℕ) (d : ℕ) → Simple e s a → is_string_start d ≡ false → s ++ r ≡ d ∷ x → ⊥
simple_differs e s a r x d m other eq = search (rules, simple_first, is_string_start)

pub string_start : (c : ℕ) → is_string_start c ≡ true → is_value_start c ≡ true
string_start c h = rw h refl

pub value_first : (e : Bool) (s : List ℕ) (v : Value) → SpellsAs e s v → (c : ℕ) × (cs : List ℕ) × (s ≡ c ∷ cs) × (is_value_start c ≡ true)
value_first e s (string None a) m = let p = simple_first e s a m in (p.0, p.1, p.2, string_start p.0 p.3)
value_first e s (string (Some h) a) m = (91, _, m.spelled, refl)
value_first e s (list vs) m = (40, _, m.2, refl)

pub value_differs : (e : Bool) (s r x : List ℕ) (v : Value) (d : ℕ) → SpellsAs e s v → is_value_start d ≡ false → s ++ r ≡ d ∷ x → ⊥
value_differs e s r x v d m other eq = search (rules, value_first)

pub simple_visible : (e : Bool) (s a x : List ℕ) → Simple e s a → StartsVisible (s ++ x)
simple_visible e s a x m = search (rules, simple_first, start_visible, string_start)

pub value_visible : (e : Bool) (s x : List ℕ) (v : Value) → SpellsAs e s v → StartsVisible (s ++ x)
value_visible e s x v m = search (rules, value_first, start_visible)

-- ---- what follows a token

pub space_apart : (c : ℕ) → is_whitespace c ≡ true → is_token_octet c ≡ false
space_apart c h = search (rules, agree_below_at, space_low)

pub apart_append : (e : Bool) (xs ys : List ℕ) (d : ℕ) → IsApart e xs → is_token_octet d ≡ false → IsApart e (xs ++ d ∷ ys)
apart_append false xs ys d h k = tt
apart_append true [] ys d h k = k
apart_append true (x ∷ xs) ys d h k = h

pub apart_front : (e : Bool) (xs ys : List ℕ) → IsApart e (xs ++ ys) → IsApart e xs
apart_front true (x ∷ xs) ys h = h
apart_front e xs ys h = tt

pub spaces_apart : (e : Bool) (xs : List ℕ) → AreSpaces xs → IsApart e xs
spaces_apart true (x ∷ xs) h = space_apart x h.0
spaces_apart e xs h = tt

-- ---- hinted strings

pub hinted_text : (e : Bool) (s g a r : List ℕ) (m : IsHinted e s g a)
    → s ++ r ≡ 91 ∷ (m.inside ++ (m.hint_text ++ (m.behind_hint ++ 93 ∷ (m.behind ++ (m.octets_text ++ r)))))
hinted_text e s g a r m = ap (λ t. t ++ r) m.spelled ∙ simp append_assoc

hinted_one : (e f : Bool) (s r t q g a h b : List ℕ) → IsHinted e s g a → IsApart e r → IsHinted f t h b → IsApart f q → s ++ r ≡ t ++ q
    → (g ≡ h) × (a ≡ b) × (r ≡ q)
hinted_one e f s r t q g a h b m k n l eq =
    let c = m.octets_text ++ r in
    let d = n.octets_text ++ q in
    let w1 = tail_is 91 91 _ _ (sym (hinted_text e s g a r m) ∙ eq ∙ hinted_text f t h b q n) in
    let p1 = one_end m.inside n.inside _ _ m.spaces_inside n.spaces_inside (simple_visible _ m.hint_text g _ m.hint_meant) (simple_visible _ n.hint_text h _ n.hint_meant) w1 in
    let p2 = one_simple m.as_token n.as_token m.hint_text _ g n.hint_text _ h m.hint_meant
    (apart_append m.as_token m.behind_hint (m.behind ++ c) 93 (spaces_apart m.as_token m.behind_hint m.spaces_behind_hint) refl) n.hint_meant
    (apart_append n.as_token n.behind_hint (n.behind ++ d) 93 (spaces_apart n.as_token n.behind_hint n.spaces_behind_hint) refl) p1.1 in
    let p3 = one_end m.behind_hint n.behind_hint (93 ∷ (m.behind ++ c)) (93 ∷ (n.behind ++ d)) m.spaces_behind_hint n.spaces_behind_hint refl refl p2.1 in
    let w3 = tail_is 93 93 _ _ p3.1 in
    let p4 = one_end m.behind n.behind c d m.spaces_behind n.spaces_behind (simple_visible e m.octets_text a r m.octets_meant) (simple_visible f n.octets_text b q n.octets_meant) w3 in
    let p5 = one_simple e f m.octets_text r a n.octets_text q b m.octets_meant k n.octets_meant l p4.1 in
    (p2.0, p5.0, p5.1)

-- ---- values

pub list_text : (s inside r : List ℕ) → s ≡ 40 ∷ (inside ++ 41 ∷ []) → s ++ r ≡ 40 ∷ (inside ++ 41 ∷ r)
list_text s inside r e = ap (λ t. t ++ r) e ∙ ap (λ t. 40 ∷ t) (append_assoc inside (41 ∷ []) r)

pub member_text : (s before first rest r : List ℕ) → s ≡ before ++ (first ++ rest) → s ++ r ≡ before ++ (first ++ (rest ++ r))
member_text s before first rest r e = ap (λ t. t ++ r) e ∙ simp append_assoc

list_differs : (s inside r t x : List ℕ) → s ≡ 40 ∷ (inside ++ 41 ∷ []) → t ≡ 91 ∷ x → s ++ r ≡ t → ⊥
list_differs s inside r t x e f eq = search (rules, list_text)

list_inside : (s i r t j q : List ℕ) → s ≡ 40 ∷ (i ++ 41 ∷ []) → t ≡ 40 ∷ (j ++ 41 ∷ []) → s ++ r ≡ t ++ q → i ++ 41 ∷ r ≡ j ++ 41 ∷ q
list_inside s i r t j q e f eq = search (rules, list_text)

mutual
  pub one_spelling : (e f : Bool) (s r t q : List ℕ) (v w : Value) → SpellsAs e s v → IsApart e r → SpellsAs f t w → IsApart f q → s ++ r ≡ t ++ q
      → (v ≡ w) × (r ≡ q)
  one_spelling e f s r t q (string None a) (string None b) m k n l eq =
      let p = one_simple e f s r a t q b m k n l eq in (ap (string None) p.0, p.1)
  one_spelling e f s r t q (string (Some g) a) (string (Some h) b) m k n l eq =
      let p = hinted_one e f s r t q g a h b m k n l eq in
      (ap (λ i. string (Some i) a) p.0 ∙ ap (string (Some h)) p.1, p.2)
  one_spelling e f s r t q (list vs) (list ws) m k n l eq =
      let p = one_members m.0 r n.0 q vs ws m.3 n.3 (list_inside s m.0 r t n.0 q m.2 n.2 eq) in
      (ap list p.0, p.1)
  one_spelling e f s r t q (list vs) (string None b) m k n l eq =
      absurd (simple_differs f t b q _ 40 n refl (sym eq ∙ list_text s m.0 r m.2))
  one_spelling e f s r t q v w m k n l eq = absurd (search (rules, simple_differs, hinted_text, list_text, list_differs))

  one_members : (s r t q : List ℕ) (vs ws : Values) → SpellsMembers s vs → SpellsMembers t ws → s ++ 41 ∷ r ≡ t ++ 41 ∷ q → (vs ≡ ws) × (r ≡ q)
  one_members s r t q none none m n eq =
      let p = one_end s t (41 ∷ r) (41 ∷ q) m n refl refl eq in
      (refl, tail_is 41 41 r q p.1)
  one_members s r t q none (more w ws) m n eq =
      let p = one_end s n.0 (41 ∷ r) (n.2 ++ (n.3 ++ 41 ∷ q)) m n.5 refl (value_visible n.1 n.2 _ w n.6) (eq ∙ member_text t n.0 n.2 n.3 (41 ∷ q) n.4) in
      absurd (value_differs n.1 n.2 _ _ w 41 n.6 refl (sym p.1))
  one_members s r t q (more v vs) none m n eq =
      let p = one_end m.0 t (m.2 ++ (m.3 ++ 41 ∷ r)) (41 ∷ q) m.5 n (value_visible m.1 m.2 _ v m.6) refl (sym (member_text s m.0 m.2 m.3 (41 ∷ r) m.4) ∙ eq) in
      absurd (value_differs m.1 m.2 _ _ v 41 m.6 refl p.1)
  one_members s r t q (more v vs) (more w ws) m n eq =
      let p = one_end m.0 n.0 (m.2 ++ (m.3 ++ 41 ∷ r)) (n.2 ++ (n.3 ++ 41 ∷ q)) m.5 n.5 (value_visible m.1 m.2 _ v m.6) (value_visible n.1 n.2 _ w n.6)
      (sym (member_text s m.0 m.2 m.3 (41 ∷ r) m.4) ∙ eq ∙ member_text t n.0 n.2 n.3 (41 ∷ q) n.4) in
      let o = one_spelling m.1 n.1 m.2 (m.3 ++ 41 ∷ r) n.2 (n.3 ++ 41 ∷ q) v w m.6 (apart_append m.1 m.3 r 41 m.7 refl) n.6 (apart_append n.1 n.3 q 41 n.7 refl) p.1 in
      let i = one_members m.3 r n.3 q vs ws m.8 n.8 o.1 in
      (ap (λ k. more k vs) o.0 ∙ ap (more w) i.0, i.1)

-- whitespace may precede members
pub spaces_members : (spaces inside : List ℕ) (vs : Values) → AreSpaces spaces → SpellsMembers inside vs → SpellsMembers (spaces ++ inside) vs
spaces_members spaces inside none h m = all-append IsSpace spaces inside h m
spaces_members spaces inside (more v vs) h m =
    (spaces ++ m.0, m.1, m.2, m.3, ap (λ t. spaces ++ t) m.4 ∙ sym (append_assoc spaces m.0 (m.2 ++ m.3)), all-append IsSpace spaces m.0 h m.5, m.6, m.7, m.8)

-- ---- whole texts

spelled_once : (text : List ℕ) (v w : Value) → Spells text v → Spells text w → v ≡ w
spelled_once text v w m n =
    let p = one_end m.before n.before (m.middle ++ m.after) (n.middle ++ n.after) m.spaces_before n.spaces_before (value_visible _ m.middle _ v m.spelled) (value_visible _ n.middle _ w n.spelled)
    (sym m.parts ∙ n.parts) in
    (one_spelling m.ends_token n.ends_token m.middle m.after n.middle n.after v w m.spelled (spaces_apart m.ends_token m.after m.spaces_after) n.spelled (spaces_apart n.ends_token n.after n.spaces_after) p.1).0

-- no spelling begins with a brace
spelled_or_braced : (text : List ℕ) (v w : Value) → Spells text v → Braced text w → ⊥
spelled_or_braced text v w m n =
    let p = one_end m.before n.before (m.middle ++ m.after) (123 ∷ (n.body ++ 125 ∷ n.after)) m.spaces_before n.spaces_before (value_visible _ m.middle _ v m.spelled) refl
    (sym m.parts ∙ n.parts) in
    value_differs m.ends_token m.middle m.after _ v 123 m.spelled refl p.1

braced_once : (text : List ℕ) (v w : Value) → Braced text v → Braced text w → v ≡ w
braced_once text v w m n =
    let p = one_end m.before n.before (123 ∷ (m.body ++ 125 ∷ m.after)) (123 ∷ (n.body ++ 125 ∷ n.after)) m.spaces_before n.spaces_before refl refl (sym m.parts ∙ n.parts) in
    let b = one_body m.body n.body 125 125 m.after n.after (body_octets m.body (canon v) m.packed) (body_octets n.body (canon w) n.packed) refl refl
    (tail_is 123 123 _ _ p.1) in
    let c : canon v ≡ canon w = one_packed (visible n.body) (canon v) (canon w) (subst (λ k. IsBase64 (visible k) (canon v)) b.0 m.packed) n.packed in
    (canon_one v w [] [] (ap (λ k. k ++ []) c)).0

pub one_value : (text : List ℕ) (v w : Value) → IsText text v → IsText text w → v ≡ w
one_value text v w (inl m) (inl n) = spelled_once text v w m n
one_value text v w (inl m) (inr n) = absurd (spelled_or_braced text v w m n)
one_value text v w (inr m) (inl n) = absurd (spelled_or_braced text w v n m)
one_value text v w (inr m) (inr n) = braced_once text v w m n
