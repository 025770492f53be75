-- The values of components (RFC 9421, section 2).
use Rattle.std.specs.{Prelude.{ℕ, List, [], ◌∷◌, ◌++◌, ◌-◌, ◌==◌, Bool, Result, Ok, Err, length, take, codes, nat_eq, if◌then◌else◌}, Str.{bytes_eq}, List.{ends_with, before_first, after_first}}
use Rattle.http_signature.specs.declared.{refusal.Refusal.{Refusal, TheVariants.{UnknownComponent, AbsentField, BadValue}}, request.{Field.{Field}, Request.{Request}, Scheme.{Scheme, TheVariants.{Http, Https}}}}
use Rattle.http_signature.specs.{Texts.{lower}, Fields.{lines_of, joined}, Readings.{◌>>=◌}, Characters.{is_field_name, is_value}}

-- ---- derived components (section 2.2)

abbrev pub scheme_name : Scheme → List ℕ
scheme_name Http = codes "http"
scheme_name Https = codes "https"

abbrev pub default_port : Scheme → List ℕ
default_port Http = codes ":80"
default_port Https = codes ":443"

abbrev pub without_port : Scheme → List ℕ → List ℕ
without_port scheme name =
    if ends_with nat_eq name (default_port scheme) then take (length name - length (default_port scheme)) name else name

-- in lower case, without the default port (section 2.2.3)
abbrev pub authority_of : Scheme → List ℕ → List ℕ
authority_of scheme name = lower (without_port scheme name)

-- a question mark
abbrev pub is_mark : ℕ → Bool
is_mark octet = octet == 63

-- the path of a target, which begins with `/` (section 2.2.6)
abbrev pub path_of : List ℕ → List ℕ
path_of target = before_first is_mark target

-- the query of a target with its question mark, which is alone where there is no query (section 2.2.7)
abbrev pub query_of : List ℕ → List ℕ
query_of target = 63 ∷ after_first is_mark target

-- section 2.2.2
abbrev pub target_uri : Request → List ℕ
target_uri r = scheme_name r.scheme ++ codes "://" ++ authority_of r.scheme r.authority ++ r.target

-- ---- fields (section 2.1), and all components

abbrev pub value_of_lines : List (List ℕ) → Result (List ℕ) Refusal
value_of_lines [] = Err AbsentField
value_of_lines (line ∷ lines) = Ok (joined (line ∷ lines))

abbrev pub field_value : List Field → List ℕ → Result (List ℕ) Refusal
field_value fields name = if is_field_name name then value_of_lines (lines_of fields name) else Err UnknownComponent

abbrev pub named_value : Request → List ℕ → Result (List ℕ) Refusal
named_value r name =
    if bytes_eq name (codes "@method") then Ok r.method else (
    if bytes_eq name (codes "@authority") then Ok (authority_of r.scheme r.authority) else (
    if bytes_eq name (codes "@path") then Ok (path_of r.target) else (
    if bytes_eq name (codes "@query") then Ok (query_of r.target) else (
    if bytes_eq name (codes "@target-uri") then Ok (target_uri r) else field_value r.fields.now name
    ))))

-- no value has the end of a line
abbrev pub checked_value : List ℕ → Result (List ℕ) Refusal
checked_value value = if is_value value then Ok value else Err BadValue

abbrev pub component_value : Request → List ℕ → Result (List ℕ) Refusal
component_value r name = named_value r name >>= checked_value
