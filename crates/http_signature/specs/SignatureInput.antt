-- What is read of the value of `Signature-Input` (RFC 9421, section 4.1) in this profile, or the first refusal from the left.
use Rattle.std.specs.{Prelude.{ℕ, zero, suc, List, [], ◌∷◌, ◌++◌, Bool, true, false, not, ◌&&◌, ◌||◌, Option, Some, None, Result, Ok, Err, is_some, length, codes, nat_lt, if◌then◌else◌}, Str.{bytes_eq}}
use Rattle.http_signature.specs.declared.{refusal.Refusal.{Refusal, TheVariants.{Malformed, ComponentTwice, UnknownComponent, MissingComponent, ParameterTwice, UnknownParameter, MissingParameter}}, parameters.Parameters.{Parameters}}
use Rattle.http_signature.specs.{Readings.{◌>>=◌}, Characters.{is_field_name}, Nonces.{is_among}, Pieces.{after, expect, read_label, read_name, read_string, read_number, read_octets, end_of}}

-- ---- components

abbrev pub is_derived : List ℕ → Bool
is_derived name =
    bytes_eq name (codes "@method") || bytes_eq name (codes "@authority") || bytes_eq name (codes "@path") || bytes_eq name (codes "@query")
    || bytes_eq name (codes "@target-uri")

-- a field may be covered, but not the two of the signature
abbrev pub is_component : List ℕ → Bool
is_component name =
    is_derived name || (is_field_name name && not (bytes_eq name (codes "signature")) && not (bytes_eq name (codes "signature-input")))

-- a space, but before the first component nothing
abbrev pub separator : List (List ℕ) → List ℕ → Result (List ℕ) Refusal
separator [] text = Ok text
separator (name ∷ names) text = expect 32 text

-- behind `;` are parameters of a component
abbrev pub allowed : List (List ℕ) → List ℕ × List ℕ → Result (List ℕ × List ℕ) Refusal
allowed seen (name, rest) =
    if is_component name then (
    if is_some (after 59 rest) then Err UnknownComponent else (
    if is_among name seen then Err ComponentTwice else Ok (name, rest)
    )) else Err UnknownComponent

abbrev pub next_component : List (List ℕ) → List ℕ → Result (List ℕ × List ℕ) Refusal
next_component seen text = do
  rest ← separator seen text
  p ← read_string rest
  allowed seen p

abbrev pub or_closed : List (List ℕ) → Option (List ℕ) → Result (List (List ℕ) × List ℕ) Refusal → Result (List (List ℕ) × List ℕ) Refusal
or_closed seen (Some rest) other = Ok (seen, rest)
or_closed seen None other = other

-- components up to `)`, at most so many, after those that were seen
unfoldable pub components_in : ℕ → List (List ℕ) → List ℕ → Result (List (List ℕ) × List ℕ) Refusal
components_in zero seen text = or_closed seen (after 41 text) (Err Malformed)
components_in (suc room) seen text =
    or_closed seen (after 41 text) (next_component seen text >>= (λ p. components_in room (seen ++ p.0 ∷ []) p.1))

abbrev pub has_required : List (List ℕ) → Bool
has_required names =
    is_among (codes "@method") names && is_among (codes "@authority") names && is_among (codes "x-spki-public-key") names
    && (is_among (codes "@target-uri") names || (is_among (codes "@path") names && is_among (codes "@query") names))

-- ---- parameters

abbrev pub number_after : Bool → List ℕ → Result (ℕ × List ℕ) Refusal
number_after true rest = Err ParameterTwice
number_after false rest = expect 61 rest >>= read_number

abbrev pub string_after : Bool → List ℕ → Result (List ℕ × List ℕ) Refusal
string_after true rest = Err ParameterTwice
string_after false rest = expect 61 rest >>= read_string

-- one more parameter, of this name; the rest begins behind the name
abbrev pub with_parameter : Parameters → List ℕ → List ℕ → Result (Parameters × List ℕ) Refusal
with_parameter p name rest =
    if bytes_eq name (codes "created") then (number_after (is_some p.created) rest >>= (λ q. Ok (record p { created = Some q.0 }, q.1))) else (
    if bytes_eq name (codes "expires") then (number_after (is_some p.expires) rest >>= (λ q. Ok (record p { expires = Some q.0 }, q.1))) else (
    if bytes_eq name (codes "nonce") then (string_after (is_some p.nonce) rest >>= (λ q. Ok (record p { nonce = Some q.0 }, q.1))) else (
    if bytes_eq name (codes "keyid") then (string_after (is_some p.keyid) rest >>= (λ q. Ok (record p { keyid = Some q.0 }, q.1))) else (
    if bytes_eq name (codes "alg") then (string_after (is_some p.alg) rest >>= (λ q. Ok (record p { alg = Some q.0 }, q.1))) else (
    if bytes_eq name (codes "tag") then (string_after (is_some p.tag) rest >>= (λ q. Ok (record p { tag = Some q.0 }, q.1))) else Err UnknownParameter
    )))))

abbrev pub next_parameter : Parameters → List ℕ → Result (Parameters × List ℕ) Refusal
next_parameter p rest = read_name rest >>= (λ w. with_parameter p w.0 w.1)

abbrev pub or_ended : Parameters → List ℕ → Option (List ℕ) → (List ℕ → Result Parameters Refusal) → Result Parameters Refusal
or_ended p text None more = end_of p text
or_ended p text (Some rest) more = more rest

-- parameters up to the end of the text, of which there can be six: a seventh is refused before
unfoldable pub parameters_in : ℕ → Parameters → List ℕ → Result Parameters Refusal
parameters_in zero p text = Err ParameterTwice
parameters_in (suc room) p text =
    or_ended p text (after 59 text) (λ rest. next_parameter p rest >>= (λ q. parameters_in room q.0 q.1))

abbrev pub no_parameters : Parameters
no_parameters = record { created = None; expires = None; nonce = None; keyid = None; alg = None; tag = None }

-- ---- the whole value

-- the components in order, the text from the parenthesis on, and the parameters
pub record Input : Type 0 where
  pub components : List (List ℕ)
  pub text : List ℕ
  pub created : ℕ
  pub expires : ℕ
  pub nonce : List ℕ
  pub keyid : List ℕ
  pub alg : List ℕ
  pub tag : List ℕ

abbrev pub given : {A : Type 0} → Option A → Result A Refusal
given None = Err MissingParameter
given (Some a) = Ok a

abbrev pub complete : List ℕ → List (List ℕ) → Parameters → Result Input Refusal
complete text names p = do
  created ← given p.created
  expires ← given p.expires
  nonce ← given p.nonce
  keyid ← given p.keyid
  alg ← given p.alg
  tag ← given p.tag
  Ok (record { components = names; text = text; created = created; expires = expires; nonce = nonce; keyid = keyid; alg = alg; tag = tag })

abbrev pub required : List ℕ → List (List ℕ) → Parameters → Result Input Refusal
required text names p = if has_required names then complete text names p else Err MissingComponent

abbrev pub input_after : List ℕ → Result Input Refusal
input_after rest = do
  inside ← expect 40 rest
  p ← components_in 32 [] inside
  q ← parameters_in 7 no_parameters p.1
  required rest p.0 q

-- of at most 8,192 octets
unfoldable pub signature_input : List ℕ → Result Input Refusal
signature_input text = if nat_lt 8192 (length text) then Err Malformed else (read_label text >>= input_after)

-- the octets in the value of `Signature`, of at most 8,192 octets
unfoldable pub signature_value : List ℕ → Result (List ℕ) Refusal
signature_value text =
    if nat_lt 8192 (length text) then Err Malformed else (read_label text >>= (λ rest. read_octets rest >>= (λ p. end_of p.0 p.1)))
