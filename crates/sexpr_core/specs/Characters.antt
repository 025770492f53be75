-- Characters as they are written. RFC 9804 gives the octets of its forms as characters of ASCII.
use Prim.Native.Char.{code}
use Prim.Native.Nat.{ℕ}
use Prim.Native.String.{String, [], ◌∷◌}

-- the octet of a text of one character
abbrev pub char : String → ℕ
char [] = 0
char (c ∷ rest) = code c
