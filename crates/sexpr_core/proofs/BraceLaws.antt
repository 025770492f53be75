-- Base64 in the standard alphabet: its length, and which octets it has. A text in braces has at most one value.
use Rattle.std.proofs.Common.{◌≡◌, ℕ, zero, suc, ◌+◌, ◌-◌, ◌*◌, ◌/◌, ◌%◌, ◌<◌, true, List, [], ◌∷◌, ◌++◌, length, get_or, replicate, refl, ap, subst, arith, length-append, append-nil, Bool, ◌&&◌, Ok, rules, ◌≤◌, false, take, drop, sym, ◌∙◌, append_assoc, length-drop}
use Rattle.std.proofs.lemmas.{Bool.{cases_Bool, and_parts}, List.{length-replicate, length-take-le, Sums.{length-filter, count_by-le-length}}}
use Rattle.std.specs.List.{AllByRecursion}
use Rattle.base64.specs.{Rfc4648.{encode_symbols}, Engines.{standard}}
use Rattle.base64.specs.GeneralPurpose.{encode_of, engine_symbols, IsBytes, decode_of, IsDecodeFailure}
use Rattle.base64.specs.declared.decode.{DecodeError.{DecodeError}, DecodeAllocError.{DecodeAllocError, TheVariants.{DecodeError as Failed}}}
use Rattle.base64.proofs.{RoundTrip.{length-encode_symbols}, EngineFacts.{decode_of-encode_of}}
use Rattle.sexpr_core.specs.Reading.{visible, is_symbol, is_body_octet, AreBodyOctets, IsBase64, StandsAt, AreSpaces, Skips, Braced, IsBraced, IsBracedWithin, ReadsBase64, PackedAt, transport, IsFaultAt, RefusesBody, IsTrailingBehind, RefusesPart, BracesDeep, IsShallowBraced, Begins, StopsAt}
use Rattle.sexpr_core.specs.declared.fault.FormFault.{FormFault, TheVariants.{TooLong, TooDeep, Bad, Trailing, Memory}}
use Rattle.sexpr_core.specs.{Value.{Value, canon, plain, verbatim, decimal, IsWithinLimits, octet_limit}, Inner.Gathering.{GathersTo, BodyAt}}
use Rattle.sexpr_core.proofs.Spans.{no_space, stops_here, stops_later, Agree, spelled_too, stands_too, skips_too, long_too, front_is, one_body, same_body, gathers_to_too, one_end}
use Rattle.sexpr_core.proofs.{Texts.{all-append, all_front}, Prefix.{RefusesPart-less}}

-- ---- the length of base64

abbrev table : List ℕ
table = engine_symbols standard

length-encoded : (b : List ℕ) → length (encode_of standard b) % 4 ≡ 0
length-encoded b = search (rules, length-encode_symbols, length-append, length-replicate)

pub missing_is : (symbols octets : List ℕ) (b : IsBase64 symbols octets) → b.missing ≡ (4 - length symbols % 4) % 4
missing_is symbols octets b =
    omega (arith, b.few, length-encoded octets, ap length b.encoded, length-append symbols (replicate b.missing 61), length-replicate {A = ℕ} b.missing 61)

-- ---- the octets of base64

abbrev pub AreSymbols : List ℕ → Type 0
AreSymbols xs = AllByRecursion (λ c. is_symbol c ≡ true) xs

symbol_at : (xs : List ℕ) (i : ℕ) → AreSymbols xs → i < length xs → is_symbol (get_or xs i 0) ≡ true
symbol_at [] i h lt = absurd (omega arith)
symbol_at (x ∷ xs) zero h lt = h.0
symbol_at (x ∷ xs) (suc i) h lt = symbol_at xs i h.1 (omega arith)

are_symbols : List ℕ → Bool
are_symbols [] = true
are_symbols (c ∷ cs) = is_symbol c && are_symbols cs

all_symbols : (xs : List ℕ) → are_symbols xs ≡ true → AreSymbols xs
unfolding are_symbols
all_symbols [] h = tt
all_symbols (x ∷ xs) h = let p = and_parts (is_symbol x) (are_symbols xs) h in (p.0, all_symbols xs p.1)

table_symbols : AreSymbols table
unfolding are_symbols
table_symbols = all_symbols table refl

table_at : (i : ℕ) → i < 64 → is_symbol (get_or table i 0) ≡ true
table_at i lt = let e : length table ≡ 64 = refl in symbol_at table i table_symbols (omega arith)

behind : (x : ℕ) (xs : List ℕ) → IsBytes (x ∷ xs) → IsBytes xs
behind x xs h = λ i. h (suc i)

symbols_of : (b : List ℕ) → IsBytes b → AreSymbols (encode_symbols table b)
unfolding encode_symbols
symbols_of [] h = tt
symbols_of (a ∷ []) h =
    let p : a < 256 = h 0 in (table_at (a / 4) (omega arith), (table_at (a % 4 * 16) (omega arith), tt))
symbols_of (a ∷ b ∷ []) h =
    let p : a < 256 = h 0 in
    let q : b < 256 = h 1 in
    (table_at (a / 4) (omega arith), (table_at (a % 4 * 16 + b / 16) (omega arith), (table_at (b % 16 * 4) (omega arith), tt)))
symbols_of (a ∷ b ∷ c ∷ rest) h =
    let p : a < 256 = h 0 in
    let q : b < 256 = h 1 in
    let r : c < 256 = h 2 in
    let g : IsBytes rest = behind c rest (behind b (c ∷ rest) (behind a (b ∷ c ∷ rest) h)) in
    (table_at (a / 4) (omega arith), (table_at (a % 4 * 16 + b / 16) (omega arith), (table_at (b % 16 * 4 + c / 64) (omega arith), (table_at (c % 64) (omega arith), symbols_of rest g))))

all_replicate : (n : ℕ) → AreSymbols (replicate n 61)
all_replicate zero = tt
all_replicate (suc n) = (refl, all_replicate n)

encoded_symbols : (b : List ℕ) → IsBytes b → AreSymbols (encode_of standard b)
encoded_symbols b h = all-append (λ c. is_symbol c ≡ true) (encode_symbols table b) (replicate ((3 - length b % 3) % 3) 61) (symbols_of b h) (all_replicate ((3 - length b % 3) % 3))

visible_body : (c : ℕ) (cs : List ℕ) → AreSymbols (visible (c ∷ cs)) → (is_body_octet c ≡ true) × AreSymbols (visible cs)
visible_body c cs h = search (rules, cases_Bool)

body_of : (body : List ℕ) → AreSymbols (visible body) → AreBodyOctets body
body_of [] h = tt
body_of (c ∷ cs) h = let p = visible_body c cs h in (p.0, body_of cs p.1)

-- the body of a text in base64 has only symbols and whitespace
pub body_octets : (body octets : List ℕ) → IsBase64 (visible body) octets → AreBodyOctets body
body_octets body octets b = search (rules, body_of, all_front, encoded_symbols)

pub whole_is : (symbols octets padded : List ℕ) (missing : ℕ) (b : IsBase64 symbols octets) → missing ≡ (4 - length symbols % 4) % 4
    → padded ≡ symbols ++ replicate missing 61 → padded ≡ encode_of standard octets
whole_is symbols octets padded missing b m e = search (rules, missing_is symbols octets b)

pub no_failure : (input octets : List ℕ) (f : DecodeAllocError) (d : DecodeError) → decode_of standard input ≡ Ok octets → IsDecodeFailure standard input f → f ≡ Failed d → ⊥
no_failure input octets f d e h is = let k = subst (IsDecodeFailure standard input) is h in cc

-- ---- encoded octets have no whitespace

visible_symbols : (xs : List ℕ) → AreSymbols xs → visible xs ≡ xs
visible_symbols [] h = refl
visible_symbols (c ∷ cs) h = rw (no_space c h.0) (ap (λ s. c ∷ s) (visible_symbols cs h.1))

pub visible_encoded : (b : List ℕ) → IsBytes b → visible (encode_of standard b) ≡ encode_of standard b
visible_encoded b h = visible_symbols (encode_of standard b) (encoded_symbols b h)

-- the padded base64 of octets is base64 of them
pub packed_encoded : (b : List ℕ) → IsBytes b → IsBase64 (visible (encode_of standard b)) b
packed_encoded b h = search (rules, append-nil, visible_encoded)

-- ---- a text in braces has at most one value

encoded_once : (a b : List ℕ) → encode_of standard a ≡ encode_of standard b → decode_of standard (encode_of standard a) ≡ Ok a
    → decode_of standard (encode_of standard b) ≡ Ok b → a ≡ b
encoded_once a b e p q = cc

pub one_packed : (symbols a b : List ℕ) → IsBase64 symbols a → IsBase64 symbols b → a ≡ b
one_packed symbols a b p q =
    let m : p.missing ≡ q.missing = missing_is symbols a p ∙ sym (missing_is symbols b q) in
    let e : encode_of standard a ≡ encode_of standard b = sym p.encoded ∙ ap (λ k. symbols ++ replicate k 61) m ∙ q.encoded in
    encoded_once a b e (decode_of-encode_of standard a refl p.are_octets) (decode_of-encode_of standard b refl q.are_octets)

pub read_once : (text : List ℕ) (at mark to : ℕ) (a body rest b : List ℕ) → ReadsBase64 text at mark a to → is_body_octet mark ≡ false
    → IsBase64 (visible body) b → drop at text ≡ body ++ mark ∷ rest → (a ≡ b) × (drop to text ≡ rest)
read_once text at mark to a body rest b r other packed e =
    let p = one_body r.body body mark mark (drop to text) rest (body_octets r.body a r.packed) (body_octets body b packed) other other (sym r.spelled ∙ e) in
    (one_packed (visible body) a b (subst (λ s. IsBase64 (visible s) a) p.0 r.packed) packed, p.2)

-- after the whitespace come the opening brace, the body and the closing brace
pub opening : (text : List ℕ) (begin : ℕ) (v : Value) → Skips text 0 begin → (b : Braced text v) → drop begin text ≡ 123 ∷ (b.body ++ 125 ∷ b.after)
opening text begin v s b =
    (one_end s.spaces b.before (drop begin text) (123 ∷ (b.body ++ 125 ∷ b.after)) s.are_spaces b.spaces_before s.ends refl
    (sym s.spelled ∙ b.parts)).1

pub no_opening : (text : List ℕ) (begin : ℕ) (v : Value) → Skips text 0 begin → drop begin text ≡ [] → Braced text v → ⊥
no_opening text begin v s e b = let p = opening text begin v s b in let q : 123 ∷ (b.body ++ 125 ∷ b.after) ≡ [] = sym p ∙ e in cc

pub opens : (text : List ℕ) (begin c : ℕ) (v : Value) → Skips text 0 begin → StandsAt text begin c → Braced text v → c ≡ 123
opens text begin c v s stands b = cc (sym stands.spelled ∙ opening text begin v s b)

pub body_is : (text : List ℕ) (begin c : ℕ) (v : Value) → Skips text 0 begin → StandsAt text begin c → (b : Braced text v)
    → drop (begin + 1) text ≡ b.body ++ 125 ∷ b.after
body_is text begin c v s stands b = cc (sym stands.spelled ∙ opening text begin v s b)

pub visible_le : (xs : List ℕ) → length (visible xs) ≤ length xs
visible_le xs = search (rules, length-filter, count_by-le-length)

-- the decoded octets are at most one more than the octets of the body
pub packed_short : (body octets : List ℕ) → IsBase64 (visible body) octets → length octets ≤ length body + 1
packed_short body octets p =
    let n = length octets in
    let k = (3 - n % 3) % 3 in
    let encoded : length (encode_of standard octets) ≡ (4 * n + 2) / 3 + k =
    length-append (encode_symbols (engine_symbols standard) octets) (replicate k 61) ∙ ap (λ m. m + length (replicate {A = ℕ} k 61)) (length-encode_symbols (engine_symbols standard) octets) ∙ ap (λ m. (4 * n + 2) / 3 + m) (length-replicate {A = ℕ} k 61) in
    omega (arith, p.few, encoded, ap length p.encoded, length-append (visible body) (replicate p.missing 61), length-replicate {A = ℕ} p.missing 61, visible_le body)

pub braced_limits : (text : List ℕ) (v : Value) → IsBracedWithin text v → IsWithinLimits v
braced_limits text v b = search (rules, packed_short, length-append)

pub read_short : (text : List ℕ) (at mark to : ℕ) (octets : List ℕ) → length text ≤ 1048576 → ReadsBase64 text at mark octets to → length octets ≤ 1048576
read_short text at mark to octets few r =
    omega (arith, packed_short r.body octets r.packed, ap length r.spelled, length-append r.body (mark ∷ drop to text), length-drop at text)

-- ---- faults of base64 and of texts in braces

reads_too : (text other : List ℕ) (k at mark to : ℕ) (octets : List ℕ) → Agree text other k → to ≤ k + 1 → ReadsBase64 text at mark octets to
    → ReadsBase64 other at mark octets to
reads_too text other k at mark to octets a le r =
    let e = spelled_too text other k at to (r.body ++ mark ∷ []) a (omega (arith, r.goes_on)) le (r.spelled ∙ sym (append_assoc r.body (mark ∷ []) (drop to text)))
    ∙ append_assoc r.body (mark ∷ []) (drop to other) in
    search (rules, e, long_too text other k a)

packed_stops : (text : List ℕ) (at mark to : ℕ) (symbols : List ℕ) → GathersTo text at mark symbols to → is_body_octet mark ≡ false
    → ((octets : List ℕ) → IsBase64 symbols octets → ⊥) → StopsAt (PackedAt at mark) text at (to - 1)
packed_stops text at mark to symbols g apart never =
    stops_here (PackedAt at mark) text at (to - 1) (omega (arith, g.goes_on)) (omega (arith, g.goes_on, g.within)) (λ other a w.
    let same = same_body other at mark to symbols w.body w.rest (gathers_to_too text other (to - 1) at mark to symbols a (omega (arith, g.goes_on)) g) apart
    (body_octets w.body w.octets w.packed) w.spelled in
    never w.octets (subst (λ s. IsBase64 s w.octets) (sym same.0) w.packed))

-- the fault, if the gathered symbols are no base64
pub packed_refused : (text : List ℕ) (at mark to : ℕ) (symbols : List ℕ) (fault : FormFault) → GathersTo text at mark symbols to → is_body_octet mark ≡ false
    → IsFaultAt (to - 1) fault → ((octets : List ℕ) → IsBase64 symbols octets → fault ≡ Memory) → RefusesPart (PackedAt at mark) text at fault
packed_refused text at mark to symbols (Bad k) g apart is only =
    subst (λ n. StopsAt (PackedAt at mark) text at n) (sym is)
    (packed_stops text at mark to symbols g apart (λ octets b. let e : Bad k ≡ Memory = only octets b in cc))
packed_refused text at mark to symbols _ g apart is only = search rules

-- the fault of a part that is no body is also the fault of the base64
pub body_not_packed : (text : List ℕ) (at mark : ℕ) (fault : FormFault) → RefusesPart (BodyAt at mark) text at fault → RefusesPart (PackedAt at mark) text at fault
body_not_packed text at mark fault h =
    RefusesPart-less (BodyAt at mark) (PackedAt at mark) text at fault
    (λ t w. record { body = w.body; rest = w.rest; octets = body_octets w.body w.octets w.packed; spelled = w.spelled }) h

-- what each fault says of a text in braces, where the reader finds it
abbrev pub BraceFault : List ℕ → FormFault → Type 0
BraceFault text TooLong = octet_limit < length text
BraceFault text TooDeep = BracesDeep text
BraceFault text (Bad at) = (at < length text) × (Begins IsBraced (take (at + 1) text) → ⊥)
BraceFault text (Trailing at) = (at < length text) × ((v : Value) × IsBracedWithin (take at text) v)
BraceFault text _ = Unit {0}

-- the first octet after the whitespace is no opening brace
pub not_opened : (text : List ℕ) (begin c : ℕ) → Skips text 0 begin → StandsAt text begin c → (c ≡ 123 → ⊥) → BraceFault text (Bad begin)
not_opened text begin c s stands apart =
    let h = stops_here IsBraced text begin begin (omega arith) stands.within (λ other a w. apart (opens other begin c w.value
    (skips_too text other begin 0 begin a (omega arith) s) (stands_too text other begin begin c a (omega arith) stands) w.braced)) in
    (h.within, h.none)

-- the body is no base64
pub body_missed : (text : List ℕ) (begin c : ℕ) (fault : FormFault) → Skips text 0 begin → StandsAt text begin c
    → RefusesPart (PackedAt (begin + 1) 125) text (begin + 1) fault → BraceFault text fault
body_missed text begin c (Bad k) s stands h =
    let r = stops_later IsBraced (PackedAt (begin + 1) 125) text (begin + 1) (begin + 1) k (omega arith) (λ other n a le w.
    let e = body_is other begin c w.value (skips_too text other n 0 begin a (omega arith) s) (stands_too text other n begin c a (omega arith) stands) w.braced in
    record { body = w.braced.body; rest = w.braced.after; octets = canon w.value; spelled = e; packed = w.braced.packed }) h in
    (r.within, r.none)
body_missed text begin c _ s stands h = search rules

-- the decoded octets are no canonical text
pub body_unread : (text : List ℕ) (begin c to : ℕ) (octets : List ℕ) (fault : FormFault) → Skips text 0 begin → StandsAt text begin c → c ≡ 123
    → ReadsBase64 text (begin + 1) 125 octets to → RefusesBody octets (to - 1) fault → BraceFault text fault
body_unread text begin c to octets (Bad k) s stands e r h =
    let last : k ≡ to - 1 = h.0 in
    let z = stops_here IsBraced text begin k (omega (arith, last, r.goes_on)) (omega (arith, last, r.goes_on, r.within)) (λ other a w.
    let f = body_is other begin c w.value (skips_too text other k 0 begin a (omega (arith, last, r.goes_on)) s) (stands_too text other k begin c a (omega (arith, last, r.goes_on)) stands) w.braced in
    h.1 w.value (read_once other (begin + 1) 125 to octets w.braced.body w.braced.after (canon w.value)
    (reads_too text other k (begin + 1) 125 to octets a (omega (arith, last, r.goes_on)) r) refl w.braced.packed f).0) in
    (z.within, z.none)
body_unread text begin c to octets _ s stands e r h = search rules

-- an octet follows the closing brace and whitespace
pub braced_before : (text : List ℕ) (begin c to : ℕ) (octets : List ℕ) (fault : FormFault) → length text ≤ 1048576 → Skips text 0 begin → StandsAt text begin c → c ≡ 123
    → ReadsBase64 text (begin + 1) 125 octets to → ((v : Value) × (octets ≡ canon v) × IsWithinLimits v) → IsTrailingBehind text to fault → BraceFault text fault
braced_before text begin c to octets (Trailing k) few s stands e r v h =
    let behind : Skips text to k = h.1 in
    let front = s.spaces ++ 123 ∷ (r.body ++ 125 ∷ behind.spaces) in
    let whole : text ≡ front ++ drop k text =
    s.spelled ∙ ap (λ t. s.spaces ++ t) (stands.spelled ∙ ap (λ n. n ∷ drop (begin + 1) text) e ∙ ap (λ t. 123 ∷ t) (r.spelled ∙ ap (λ t. r.body ++ 125 ∷ t) behind.spelled)) ∙ simp append_assoc in
    let taken : take k text ≡ front = front_is text front k whole behind.within in
    search (rules, length-take-le)
braced_before text begin c to octets _ few s stands e r v h = search rules

-- whitespace begins a text in braces
empty_octets : IsBytes (canon (plain []))
unfolding verbatim decimal
empty_octets zero = omega arith
empty_octets (suc zero) = omega arith
empty_octets (suc (suc i)) = omega arith

pub spaces_begin_shallow : (xs : List ℕ) → AreSpaces xs → Begins IsShallowBraced xs
spaces_begin_shallow xs all = record {
  rest = transport (plain []);
  whole = record {
    value = plain [];
    braced = record {
      before = xs;
      body = encode_of standard (canon (plain []));
      after = [];
      parts = refl;
      spaces_before = all;
      packed = packed_encoded (canon (plain [])) empty_octets;
      spaces_after = tt;
    };
    shallow = omega arith;
  };
}

pub spaces_begin : (xs : List ℕ) → AreSpaces xs → Begins IsBraced xs
spaces_begin xs all = search (rules, spaces_begin_shallow)
