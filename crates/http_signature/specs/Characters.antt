-- Which octets may be where.
use Rattle.std.specs.{Prelude.{ℕ, List, [], ◌∷◌, Bool, false, not, ◌&&◌, ◌||◌, ◌==◌, nat_le, length}, List.{list_all}}

abbrev pub is_within : ℕ → ℕ → ℕ → Bool
is_within low high octet = nat_le low octet && nat_le octet high

-- an octet in the name of a field in lower case: a digit, a letter or one of !#$%&'*+-.^_`|~
abbrev pub is_field_octet : ℕ → Bool
is_field_octet octet =
    (octet == 33) || is_within 35 39 octet || (octet == 42) || (octet == 43) || (octet == 45) || (octet == 46) || is_within 48 57 octet || is_within 94 122 octet
    || (octet == 124) || (octet == 126)

-- an octet in a token (RFC 9110, section 5.6.2)
abbrev pub is_token_octet : ℕ → Bool
is_token_octet octet = is_within 65 90 octet || is_field_octet octet

abbrev pub is_token : List ℕ → Bool
is_token text = not (length text == 0) && list_all is_token_octet text

abbrev pub is_field_name : List ℕ → Bool
is_field_name text = not (length text == 0) && list_all is_field_octet text

-- visible ASCII without `#`
abbrev pub is_target_octet : ℕ → Bool
is_target_octet octet = (octet == 33) || (octet == 34) || is_within 36 126 octet

-- the origin form of a target (RFC 9112, section 3.2.1), of visible ASCII: a path, which begins with `/`, and perhaps a query
abbrev pub is_target : List ℕ → Bool
is_target [] = false
is_target (octet ∷ text) = (octet == 47) && list_all is_target_octet text

-- visible ASCII, space or tab
abbrev pub is_value_octet : ℕ → Bool
is_value_octet octet = (octet == 9) || is_within 32 126 octet

abbrev pub is_value : List ℕ → Bool
is_value text = list_all is_value_octet text
