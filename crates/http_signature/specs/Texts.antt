-- Texts of fields (RFC 9110, section 5).
use Rattle.std.specs.{Prelude.{ℕ, List, [], ◌∷◌, Bool, ◌||◌, ◌==◌, map, reverse, if◌then◌else◌}, Char.{to_ascii_lowercase}}

-- letters in lower case
abbrev pub lower : List ℕ → List ℕ
lower text = map to_ascii_lowercase text

-- space or tab
abbrev pub is_blank : ℕ → Bool
is_blank octet = (octet == 32) || (octet == 9)

-- without the spaces and tabs in front
abbrev pub trim_start : List ℕ → List ℕ
trim_start [] = []
trim_start (octet ∷ text) = if is_blank octet then trim_start text else octet ∷ text

-- without those around it
abbrev pub trimmed : List ℕ → List ℕ
trimmed text = reverse (trim_start (reverse (trim_start text)))
