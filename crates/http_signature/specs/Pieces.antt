-- The pieces of `Signature-Input` and `Signature` (RFC 8941, section 4.2), in its one way to write them. Each reading gives what is read and
-- the rest of the text, or the first refusal from the left.
use Rattle.std.specs.{Prelude.{ℕ, List, [], ◌∷◌, ◌+◌, ◌-◌, ◌*◌, ◌==◌, Bool, false, not, ◌&&◌, ◌||◌, Option, Some, None, Result, Ok, Err, is_some, length, take, drop, codes, fold, nat_lt, if◌then◌else◌}, List.{prefix_len}, Str.{bytes_eq}}
use Rattle.base64.specs.{Engines.{standard}, GeneralPurpose.{decode_of}}
use Rattle.http_signature.specs.{declared.refusal.Refusal.{Refusal, TheVariants.{Malformed, OtherLabel, TwoSignatures}}, Readings.{◌>>=◌}, Characters.{is_within}, Texts.{trimmed}}

-- ---- one octet

-- the rest, if the text begins with this octet
abbrev pub after : ℕ → List ℕ → Option (List ℕ)
after octet [] = None
after octet (first ∷ rest) = if first == octet then Some rest else None

abbrev pub or_malformed : {A : Type 0} → Option A → Result A Refusal
or_malformed None = Err Malformed
or_malformed (Some a) = Ok a

abbrev pub expect : ℕ → List ℕ → Result (List ℕ) Refusal
expect octet text = or_malformed (after octet text)

-- the longest beginning of which each octet passes, and the rest
abbrev pub span : (ℕ → Bool) → List ℕ → List ℕ × List ℕ
span p text = (take (prefix_len p text) text, drop (prefix_len p text) text)

-- ---- names (section 4.2.3.3), strings without escapes (section 4.2.5), integers (section 4.2.4)

-- a small letter or `*`
abbrev pub is_name_start : ℕ → Bool
is_name_start octet = is_within 97 122 octet || (octet == 42)

-- also a digit, `_`, `-` and `.`
abbrev pub is_name_octet : ℕ → Bool
is_name_octet octet = is_name_start octet || is_within 48 57 octet || (octet == 95) || (octet == 45) || (octet == 46)

abbrev pub read_name : List ℕ → Result (List ℕ × List ℕ) Refusal
read_name [] = Err Malformed
read_name (first ∷ rest) = if is_name_start first then Ok (span is_name_octet (first ∷ rest)) else Err Malformed

-- visible ASCII and spaces, but no quote and no backslash
abbrev pub is_string_octet : ℕ → Bool
is_string_octet octet = (octet == 32) || (octet == 33) || is_within 35 91 octet || is_within 93 126 octet

-- what is inside of quotes: the rest must begin with one
abbrev pub closed : ℕ → List ℕ × List ℕ → Result (List ℕ × List ℕ) Refusal
closed octet (inside, rest) = expect octet rest >>= (λ behind. Ok (inside, behind))

abbrev pub read_string : List ℕ → Result (List ℕ × List ℕ) Refusal
read_string octets = expect 34 octets >>= (λ rest. closed 34 (span is_string_octet rest))

abbrev pub is_digit : ℕ → Bool
is_digit octet = is_within 48 57 octet

-- 1 to 15 digits, without a 0 in front
abbrev pub is_number : List ℕ → Bool
is_number [] = false
is_number (first ∷ rest) = nat_lt (length rest) 15 && (not (first == 48) || (length rest == 0))

abbrev pub number_of : List ℕ → ℕ
number_of digits = fold (λ n digit. n * 10 + (digit - 48)) 0 digits

abbrev pub number_in : List ℕ × List ℕ → Result (ℕ × List ℕ) Refusal
number_in (digits, rest) = if is_number digits then Ok (number_of digits, rest) else Err Malformed

abbrev pub read_number : List ℕ → Result (ℕ × List ℕ) Refusal
read_number octets = number_in (span is_digit octets)

-- ---- octets in base64 (section 4.2.7), with padding

abbrev pub is_inside : ℕ → Bool
is_inside octet = not (octet == 58)

abbrev pub decoded : {E : Type 0} → Result (List ℕ) E → List ℕ → Result (List ℕ × List ℕ) Refusal
decoded (Ok octets) rest = Ok (octets, rest)
decoded (Err e) rest = Err Malformed

abbrev pub read_octets : List ℕ → Result (List ℕ × List ℕ) Refusal
read_octets text = do
  rest ← expect 58 text
  p ← closed 58 (span is_inside rest)
  decoded (decode_of standard p.0) p.1

-- ---- the label in front, and the end

abbrev pub read_label : List ℕ → Result (List ℕ) Refusal
read_label octets = do
  p ← read_name octets
  rest ← expect 61 p.1
  if bytes_eq p.0 (codes "spki") then Ok rest else Err OtherLabel

-- nothing may follow; a comma, also behind spaces and tabs, begins a second member
abbrev pub end_fault : List ℕ → Option Refusal
end_fault [] = None
end_fault (first ∷ rest) = if is_some (after 44 (trimmed (first ∷ rest))) then Some TwoSignatures else Some Malformed

abbrev pub unless : {A : Type 0} → A → Option Refusal → Result A Refusal
unless a None = Ok a
unless a (Some refusal) = Err refusal

abbrev pub end_of : {A : Type 0} → A → List ℕ → Result A Refusal
end_of a text = unless a (end_fault text)
