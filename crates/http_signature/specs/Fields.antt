-- The lines of fields (RFC 9110, section 5; RFC 9421, section 2.1).
use Rattle.std.specs.{Prelude.{ℕ, List, [], ◌∷◌, ◌++◌, Bool, codes, if◌then◌else◌}, Str.{bytes_eq}}
use Rattle.http_signature.specs.{declared.request.Field.{Field}, Texts.{lower, trimmed}}

-- the line is of the field with this name
abbrev pub is_named : List ℕ → Field → Bool
is_named name field = bytes_eq (lower field.name) (lower name)

-- the values of the lines of a field, in order, without the spaces and tabs around each
abbrev pub lines_of : List Field → List ℕ → List (List ℕ)
lines_of [] name = []
lines_of (field ∷ fields) name = if is_named name field then trimmed field.value ∷ lines_of fields name else lines_of fields name

-- a text with further values behind it, a comma and a space before each
abbrev pub joined_onto : List ℕ → List (List ℕ) → List ℕ
joined_onto text [] = text
joined_onto text (value ∷ values) = joined_onto (text ++ codes ", " ++ value) values

abbrev pub joined : List (List ℕ) → List ℕ
joined [] = []
joined (value ∷ values) = joined_onto value values
