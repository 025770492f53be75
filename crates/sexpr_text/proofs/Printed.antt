-- What is printed for a value: what a sink takes in several calls, what is printed after other octets, and that the printed
-- text spells the value, as the canonical text does.
use Rattle.std.proofs.Common.{◌≡◌, ℕ, List, ◌++◌, suc, ◌+◌, ◌%◌, ◌<◌, ◌≤◌, ◌==◌, ◌||◌, Bool, true, false, [], ◌∷◌, length, map, take, drop, take-append-drop, get_or, cond, Vec, Global, Some, refl, sym, ap, ◌∙◌, append_assoc, append-nil, arith, rules, not, None, subst, if◌then◌else◌, inl}
use Rattle.std.proofs.lemmas.Bool.{cases_Bool, and_parts, or_cases, or_parts, not-true, eqb-true, eqb-false, Decides.{nat_tests}}
use Rattle.std.proofs.lemmas.List.{map-append, take_more, take_all, length-take-le, length-map}
use Rattle.std.specs.List.{AllByRecursion}
use Rattle.base64.{specs.{Engines.{standard}, GeneralPurpose.{encode_of, IsBytes}}, proofs.EngineFacts.{encode_of-append}}
use Rattle.sexpr_core.specs.Value.{Value, Values, none, more, values, atom_value, sexp_value, string, list, HasOctets, HaveOctets, verbatim, canon, canons}
use Rattle.sexpr_core.specs.{declared.tree.{Atom.{Atom}, Sexp.{Sexp, TheVariants.{List as Branch}}}, Reading.{AreSpaces}}
use Rattle.sexpr_core.proofs.{TreeLaws.{sexp_list}, BraceLaws.{packed_encoded}}
use Rattle.sexpr_text.specs.AdvancedForm.{IsToken, every, is_token, is_printable, quoted_body, printed_string, gap, adv, adv_all, is_digit, is_token_octet, IsApart, Piece, raw, escaped, IsPiece, pieces_text, pieces_octets, ArePieces, escape_value, IsQuoted, IsPacked, Simple, IsHinted, SpellsAs, SpellsMembers, Spells}

-- ---- what a sink takes in several calls

module _ {S : Type 0} (takes : S → List ℕ → S → Type 0)
    (both : (a b c : S) (x y : List ℕ) → takes a x b → takes b y c → takes a (x ++ y) c) where
  -- two pieces that are these octets together
  pub in_two : {a b c : S} {x y : List ℕ} (whole : List ℕ) → takes a x b → takes b y c → x ++ y ≡ whole → takes a whole c
  in_two {a} {b} {c} {x} {y} whole f g e = rw (← e) (both a b c x y f g)

  pub in_three : {a b c d : S} {x y z : List ℕ} (whole : List ℕ) → takes a x b → takes b y c → takes c z d
      → (x ++ y) ++ z ≡ whole → takes a whole d
  in_three {a} {b} {c} {d} {x} {y} {z} whole f g h e = rw (← e) (both a c d (x ++ y) z (both a b c x y f g) h)

-- ---- what is printed after other octets

quoted_body-append : (xs ys : List ℕ) → quoted_body (xs ++ ys) ≡ quoted_body xs ++ quoted_body ys
quoted_body-append [] ys = refl
quoted_body-append (c ∷ cs) ys = let e = quoted_body-append cs ys in search (rules, cases_Bool)

pub quoted_one : (xs : List ℕ) (k d : ℕ) → k < length xs
    → quoted_body (take k xs) ++ quoted_body (get_or xs k d ∷ []) ≡ quoted_body (take (k + 1) xs)
quoted_one xs k d lt = sym (ap quoted_body (take_more xs k d lt) ∙ quoted_body-append (take k xs) (get_or xs k d ∷ []))

pub printed_token : (octets : List ℕ) → is_token octets ≡ true → printed_string octets ≡ octets
unfolding printed_string
printed_token octets e = rw e refl

every_all : (test : ℕ → Bool) (xs : List ℕ) → AllByRecursion (λ k. test k ≡ true) xs → every test xs ≡ true
every_all test [] h = refl
every_all test (c ∷ cs) h = rw h.0 (every_all test cs h.1)

pub token_printed : (octets : List ℕ) → IsToken octets → printed_string octets ≡ octets
token_printed [] h = absurd h
token_printed (c ∷ cs) h = search (rules, every_all, printed_token)

pub printed_quoted : (octets : List ℕ) → is_token octets ≡ false → every is_printable octets ≡ true → printed_string octets ≡ 34 ∷ (quoted_body octets ++ 34 ∷ [])
unfolding printed_string
printed_quoted octets e f = rw (e, f) refl

pub printed_packed : (octets : List ℕ) → is_token octets ≡ false → every is_printable octets ≡ false → printed_string octets ≡ 124 ∷ (encode_of standard octets ++ 124 ∷ [])
unfolding printed_string
printed_packed octets e f = rw (e, f) refl

-- ---- lists

pub adv_all-append : (n : ℕ) (vs ws : List Value) → adv_all n (values (vs ++ ws)) ≡ adv_all n (values vs) ++ adv_all (n + length vs) (values ws)
adv_all-append n [] ws = let e : n ≡ n + 0 = omega arith in ap (λ m. adv_all m (values ws)) e
adv_all-append n (v ∷ vs) ws = search (rules, append_assoc, adv_all-append (suc n) vs ws)

pub gap_suc : (n : ℕ) → gap (suc n) ≡ 32 ∷ []
gap_suc n = let e : (suc n == 0) ≡ false = grind (arith, nat_tests) in ap (λ b. cond b [] (32 ∷ [])) e

-- each member after the first has a space before it
pub past_first : (n : ℕ) (vs : Values) → adv_all (suc n) vs ≡ adv_all 1 vs
past_first n none = refl
past_first n (more v vs) =
    (λ i. gap_suc n i ++ (adv v ++ past_first (suc n) vs i)) ∙ sym (λ i. gap_suc 0 i ++ (adv v ++ past_first 1 vs i))

pub member_behind : {A : Type 0} (f : A → Value) (xs : List A) (k : ℕ) (d : A) → k < length xs
    → (adv_all 0 (values (map f (take k xs))) ++ gap k) ++ adv (f (get_or xs k d)) ≡ adv_all 0 (values (map f (take (k + 1) xs)))
member_behind f xs k d lt =
    let before = map f (take k xs) in
    let v = f (get_or xs k d) in
    let split : map f (take (k + 1) xs) ≡ before ++ v ∷ [] = ap (map f) (take_more xs k d lt) ∙ map-append f (take k xs) (get_or xs k d ∷ []) in
    let count : 0 + length before ≡ k = omega (arith, length-map (take k xs) f, length-take-le k xs (omega arith)) in
    rw (split, adv_all-append 0 before (v ∷ []), count) (simp (append_assoc, append-nil) refl)

pub list_between : (tree : Sexp) (ms : Vec Sexp Global) (xs : List Sexp) (k : ℕ) → tree ≡ Branch ms → xs ≡ ms.items → length xs ≤ k
    → ((40 ∷ []) ++ adv_all 0 (values (map sexp_value (take k xs)))) ++ 41 ∷ [] ≡ adv (sexp_value tree)
list_between tree ms xs k is same le = search (rules, take_all, sexp_list)

-- ---- pieces

pub packed_one : (n : ℕ) (rest piece behind packed whole : List ℕ) → n % 3 ≡ 0 → piece ≡ take n rest → behind ≡ drop n rest → length piece ≡ n
    → packed ++ encode_of standard rest ≡ whole → (packed ++ encode_of standard piece) ++ encode_of standard behind ≡ whole
packed_one n rest piece behind packed whole triple front back long e =
    let parts : piece ++ behind ≡ rest = rw (front, back) (take-append-drop n rest) in
    let even : length piece % 3 ≡ 0 = rw long triple in
    append_assoc packed (encode_of standard piece) (encode_of standard behind)
    ∙ ap (λ s. packed ++ s) (sym (encode_of-append standard piece behind even) ∙ ap (encode_of standard) parts) ∙ e

pub hinted_whole : (atom : Atom) (hint : Vec ℕ Global) (hinted body : List ℕ) → atom.hint ≡ Some hint → hinted ≡ hint.items → body ≡ atom.body.items
    → (91 ∷ (printed_string hinted ++ 93 ∷ [])) ++ printed_string body ≡ adv (atom_value atom)
hinted_whole atom hint hinted body is h b = search (rules, append_assoc (printed_string hinted) (93 ∷ []) (printed_string body))

-- ---- the printed text spells the value: tokens

all_pass : (test : ℕ → Bool) (xs : List ℕ) → every test xs ≡ true → AllByRecursion (λ k. test k ≡ true) xs
all_pass test [] h = tt
all_pass test (c ∷ cs) h = let p = and_parts (test c) (every test cs) h in (p.0, all_pass test cs p.1)

token_meant : (octets : List ℕ) → is_token octets ≡ true → IsToken octets
token_meant [] h = absurd cc
token_meant (c ∷ cs) h =
    let p = and_parts (not (is_digit c)) (every is_token_octet (c ∷ cs)) h in
    (not-true (is_digit c) p.0, all_pass is_token_octet (c ∷ cs) p.1)

-- ---- the printed text spells the value: quoted strings

-- the piece that is printed for an octet
abbrev piece_of : ℕ → Piece
piece_of c = if c == 34 || c == 92 then escaped c c else raw c

abbrev pieces_of : List ℕ → List Piece
pieces_of [] = []
pieces_of (c ∷ cs) = piece_of c ∷ pieces_of cs

text_of : (octets : List ℕ) → quoted_body octets ≡ pieces_text (pieces_of octets)
text_of [] = refl
text_of (c ∷ cs) = search (rules, cases_Bool, text_of cs)

octets_of : (octets : List ℕ) → octets ≡ pieces_octets (pieces_of octets)
octets_of [] = refl
octets_of (c ∷ cs) = search (rules, cases_Bool, octets_of cs)

escaped_itself : (c : ℕ) → (c == 34 || c == 92) ≡ true → escape_value c ≡ Some c
escaped_itself c h = search (rules, or_cases, eqb-true)

piece_right : (c : ℕ) (rest : List ℕ) → IsPiece (piece_of c) rest
piece_right c rest = search (rules, cases_Bool, escaped_itself, or_parts, eqb-false)

pieces_right : (octets rest : List ℕ) → ArePieces (pieces_of octets) rest
pieces_right [] rest = tt
pieces_right (c ∷ cs) rest = (piece_right c (pieces_text (pieces_of cs) ++ rest), pieces_right cs rest)

quoted : (octets : List ℕ) → IsQuoted (34 ∷ (quoted_body octets ++ 34 ∷ [])) octets
quoted octets = search (rules, text_of, octets_of, pieces_right)

-- ---- the printed text spells the value: strings

packed : (octets : List ℕ) → IsBytes octets → IsPacked (124 ∷ (encode_of standard octets ++ 124 ∷ [])) octets
packed octets h = record { body = encode_of standard octets; spelled = refl; packed = packed_encoded octets h }

marked : (octets : List ℕ) → IsBytes octets → is_token octets ≡ false → Simple false (printed_string octets) octets
marked octets h other = grind (arith, cases_Bool, printed_quoted, quoted, printed_packed, packed)

string_spelled : (octets : List ℕ) → IsBytes octets → Simple (is_token octets) (printed_string octets) octets
string_spelled octets h = search (rules, cases_Bool, printed_token, token_meant, marked)

-- ---- the printed text spells the value: values

-- a string with a display hint, from its parts
pub hinted_is : (ends as_token : Bool) (text hint octets inside hint_text behind_hint behind octets_text : List ℕ)
    → text ≡ 91 ∷ (inside ++ (hint_text ++ (behind_hint ++ 93 ∷ (behind ++ octets_text)))) → AreSpaces inside → Simple as_token hint_text hint
    → AreSpaces behind_hint → AreSpaces behind → Simple ends octets_text octets → IsHinted ends text hint octets
hinted_is ends as_token text hint octets inside hint_text behind_hint behind octets_text e s m t u n = search rules

-- whether what is printed for a value ends in a token
abbrev ends : Value → Bool
ends (string hint octets) = is_token octets
ends (list vs) = false

gap_spaces : (n : ℕ) → AreSpaces (gap n)
gap_spaces n = search (rules, cases_Bool)

space_apart : (b : Bool) (rest : List ℕ) → IsApart b (32 ∷ rest)
space_apart true rest = refl
space_apart false rest = tt

pub end_apart : (b : Bool) → IsApart b []
end_apart true = tt
end_apart false = tt

-- a space or nothing follows a member
apart : (b : Bool) (n : ℕ) (vs : Values) → IsApart b (adv_all (suc n) vs)
apart b n none = end_apart b
apart b n (more v vs) =
    subst (λ s. IsApart b (s ++ (adv v ++ adv_all (suc (suc n)) vs))) (sym (gap_suc n)) (space_apart b (adv v ++ adv_all (suc (suc n)) vs))

mutual
  spelled : (v : Value) → HasOctets v → SpellsAs (ends v) (adv v) v
  spelled (string None octets) h = string_spelled octets h
  spelled (string (Some hint) octets) h =
      hinted_is (is_token octets) (is_token hint) _ hint octets [] (printed_string hint) [] [] (printed_string octets) refl tt (string_spelled hint h.0) tt tt (string_spelled octets h.1)
  spelled (list vs) h = (adv_all 0 vs, refl, refl, members_spelled 0 vs h)

  members_spelled : (n : ℕ) (vs : Values) → HaveOctets vs → SpellsMembers (adv_all n vs) vs
  members_spelled n none h = tt
  members_spelled n (more v vs) h =
      (gap n, ends v, adv v, adv_all (suc n) vs, refl, gap_spaces n, spelled v h.0, apart (ends v) n vs, members_spelled (suc n) vs h.1)

pub printed_spelled : (v : Value) → HasOctets v → Spells (adv v) v
printed_spelled v h = record {
  before = [];
  ends_token = ends v;
  middle = adv v;
  after = [];
  parts = sym (append-nil (adv v));
  spaces_before = tt;
  spelled = spelled v h;
  spaces_after = tt;
}

-- what is printed to an empty output
pub all_spelled : (out text : List ℕ) (v : Value) → out ≡ [] → text ≡ out ++ adv v → HasOctets v → Spells text v
all_spelled out text v begins e h = subst (λ t. Spells t v) (sym (e ∙ ap (λ s. s ++ adv v) begins)) (printed_spelled v h)

-- ---- the canonical text of a value spells it

mutual
  canon_spelled : (v : Value) → SpellsAs false (canon v) v
  canon_spelled (string None octets) = inl refl
  canon_spelled (string (Some hint) octets) = hinted_is false false _ hint octets [] (verbatim hint) [] [] (verbatim octets) refl tt (inl refl) tt tt (inl refl)
  canon_spelled (list vs) = (canons vs, refl, refl, canons_spelled vs)

  canons_spelled : (vs : Values) → SpellsMembers (canons vs) vs
  canons_spelled none = tt
  canons_spelled (more v vs) = ([], false, canon v, canons vs, refl, tt, canon_spelled v, tt, canons_spelled vs)

pub canonical_spelled : (v : Value) → Spells (canon v) v
canonical_spelled v = record {
  before = [];
  ends_token = false;
  middle = canon v;
  after = [];
  parts = sym (append-nil (canon v));
  spaces_before = tt;
  spelled = canon_spelled v;
  spaces_after = tt;
}
