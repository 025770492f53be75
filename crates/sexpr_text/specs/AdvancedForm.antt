-- The advanced form of a value (RFC 9804, sections 4.1 to 4.5 and 6.4): which texts spell it, and which one is
-- printed for it.
use Rattle.std.specs.Prelude.{◌≡◌, ◌≢◌, ℕ, ◌+◌, ◌*◌, ◌<◌, ◌==◌, ◌&&◌, ◌||◌, nat_le, Bool, true, false, ◌⊎◌, List, [], ◌∷◌, ◌++◌, length, Option, Some, None, Ok, if◌then◌else◌, ◌≤◌, suc, not}
use Rattle.std.specs.List.{AllByRecursion}
use Rattle.hex.specs.Hex.{hex_digit_value, decode_of}
use Rattle.sexpr_core.specs.Value.{decimal, verbatim, octet_limit, Value, Values, string, list, none, more, IsShallow, canon, canons}
use Rattle.sexpr_core.specs.{Characters.{char}, Reading.{visible, IsBase64, AreSpaces, Braced, IsBracedWithin}}
use Rattle.base64.specs.{Engines.{standard}, GeneralPurpose.{encode_of}}
use Rattle.sexpr_text.specs.declared.converter.Form.{Form, TheVariants.{Canonical, Advanced}}

-- ---- tokens (RFC 9804, section 4.3)

-- a decimal digit
abbrev pub is_digit : ℕ → Bool
is_digit c = nat_le (char "0") c && nat_le c (char "9")

-- a letter, a digit, or one of - . / _ : * + =
abbrev pub is_token_octet : ℕ → Bool
is_token_octet c = (nat_le (char "a") c && nat_le c (char "z")) || (nat_le (char "A") c && nat_le c (char "Z")) || (nat_le (char "-") c && nat_le c (char ":")) || c == char "*" || c == char "+" || c == char "=" || c == char "_"

-- one or more of these, and the first is no digit
abbrev pub IsToken : List ℕ → Type 0
IsToken [] = ⊥
IsToken (c ∷ cs) = (is_digit c ≡ false) × AllByRecursion (λ k. is_token_octet k ≡ true) (c ∷ cs)

-- if a spelling ends in a token, no octet of a token follows
abbrev pub IsApart : Bool → List ℕ → Type 0
IsApart false rest = Unit {0}
IsApart true [] = Unit {0}
IsApart true (c ∷ cs) = is_token_octet c ≡ false

-- ---- quoted strings (RFC 9804, section 4.2)

-- the octet that the octet after a backslash means
abbrev pub escape_value : ℕ → Option ℕ
escape_value e =
    if e == char "a" then Some 7
    else if e == char "b" then Some 8
    else if e == char "t" then Some 9
    else if e == char "v" then Some 11
    else if e == char "n" then Some 10
    else if e == char "f" then Some 12
    else if e == char "r" then Some 13
    else if e == char "\"" then Some (char "\"")
    else if e == char "'" then Some (char "'")
    else if e == char "?" then Some (char "?")
    else if e == char "\\" then Some (char "\\")
    else None

-- The pieces between the quotes. A piece is an octet that means itself, or a backslash and an octet that means another. Or
-- it is a backslash and three octal digits, or a backslash, x and two hexadecimal digits, with the values of the digits. Or
-- it is a backslash and CR or LF, or a backslash and CR LF or LF CR.
pub data Piece : Type 0 where
  raw : ℕ → Piece
  escaped : ℕ → ℕ → Piece
  octal : ℕ → ℕ → ℕ → Piece
  hexadecimal : ℕ → ℕ → ℕ → ℕ → Piece
  line : ℕ → Piece
  line_pair : ℕ → ℕ → Piece

-- the octets with which a piece is written
abbrev pub piece_text : Piece → List ℕ
piece_text (raw c) = c ∷ []
piece_text (escaped e c) = char "\\" ∷ e ∷ []
piece_text (octal a b c) = char "\\" ∷ (char "0" + a) ∷ (char "0" + b) ∷ (char "0" + c) ∷ []
piece_text (hexadecimal h l m n) = char "\\" ∷ char "x" ∷ h ∷ l ∷ []
piece_text (line c) = char "\\" ∷ c ∷ []
piece_text (line_pair c d) = char "\\" ∷ c ∷ d ∷ []

-- the octets that a piece means; a backslash with a line end means none
abbrev pub piece_octets : Piece → List ℕ
piece_octets (raw c) = c ∷ []
piece_octets (escaped e c) = c ∷ []
piece_octets (octal a b c) = (a * 64 + b * 8 + c) ∷ []
piece_octets (hexadecimal h l m n) = (m * 16 + n) ∷ []
piece_octets (line c) = []
piece_octets (line_pair c d) = []

-- the octets do not begin with this one
abbrev pub StartsOther : ℕ → List ℕ → Type 0
StartsOther d [] = Unit {0}
StartsOther d (c ∷ cs) = c ≢ d

-- A piece is well formed if these octets follow it. The longer line end is taken, so no LF follows a lone CR, and no CR
-- follows a lone LF.
abbrev pub IsPiece : Piece → List ℕ → Type 0
IsPiece (raw c) rest = (c ≢ char "\"") × (c ≢ char "\\")
IsPiece (escaped e c) rest = escape_value e ≡ Some c
IsPiece (octal a b c) rest = (a < 4) × (b < 8) × (c < 8)
IsPiece (hexadecimal h l m n) rest = (hex_digit_value h ≡ Some m) × (hex_digit_value l ≡ Some n)
IsPiece (line c) rest = ((c ≡ 13) × StartsOther 10 rest) ⊎ ((c ≡ 10) × StartsOther 13 rest)
IsPiece (line_pair c d) rest = ((c ≡ 13) × (d ≡ 10)) ⊎ ((c ≡ 10) × (d ≡ 13))

-- the octets with which pieces are written, one after another
abbrev pub pieces_text : List Piece → List ℕ
pieces_text [] = []
pieces_text (p ∷ ps) = piece_text p ++ pieces_text ps

-- the octets that pieces mean, one after another
abbrev pub pieces_octets : List Piece → List ℕ
pieces_octets [] = []
pieces_octets (p ∷ ps) = piece_octets p ++ pieces_octets ps

-- pieces one after another, with these octets after them all
abbrev pub ArePieces : List Piece → List ℕ → Type 0
ArePieces [] rest = Unit {0}
ArePieces (p ∷ ps) rest = IsPiece p (pieces_text ps ++ rest) × ArePieces ps rest

-- ---- strings without a display hint (RFC 9804, sections 4.1 to 4.5)

-- what may precede a string between marks: nothing, or its length in decimal
abbrev pub IsCount : List ℕ → ℕ → Type 0
IsCount count n = (count ≡ []) ⊎ (count ≡ decimal n)

-- "..", with its pieces
pub record IsQuoted (text octets : List ℕ) : Type 0 where
  pub pieces : List Piece
  pub spelled : text ≡ char "\"" ∷ (pieces_text pieces ++ char "\"" ∷ [])
  pub meant : octets ≡ pieces_octets pieces
  pub right : ArePieces pieces (char "\"" ∷ [])

-- #..#, an even number of hexadecimal digits, with whitespace anywhere
pub record IsHexadecimal (text octets : List ℕ) : Type 0 where
  pub body : List ℕ
  pub spelled : text ≡ char "#" ∷ (body ++ char "#" ∷ [])
  pub packed : decode_of (visible body) ≡ Ok octets

-- |..|, base64 with whitespace anywhere
pub record IsPacked (text octets : List ℕ) : Type 0 where
  pub body : List ℕ
  pub spelled : text ≡ char "|" ∷ (body ++ char "|" ∷ [])
  pub packed : IsBase64 (visible body) octets

-- a string between marks
abbrev pub IsMarked : List ℕ → List ℕ → Type 0
IsMarked text octets = IsQuoted text octets ⊎ (IsHexadecimal text octets ⊎ IsPacked text octets)

-- the same, with or without its length in front
pub record IsCounted (text octets : List ℕ) : Type 0 where
  pub count : List ℕ
  pub marked : List ℕ
  pub spelled : text ≡ count ++ marked
  pub counts : IsCount count (length octets)
  pub meant : IsMarked marked octets

-- A text spells a string without a hint: as a token (the flag is then true), in verbatim form, or between marks.
abbrev pub Simple : Bool → List ℕ → List ℕ → Type 0
Simple true text octets = (text ≡ octets) × IsToken octets
Simple false text octets = (text ≡ verbatim octets) ⊎ IsCounted text octets

-- ---- which texts spell a value in advanced form (RFC 9804, section 6.4)

-- a string with a display hint: the hint is in brackets, with whitespace allowed between all parts
pub record IsHinted (ends_token : Bool) (text hint octets : List ℕ) : Type 0 where
  pub as_token : Bool
  pub inside : List ℕ
  pub hint_text : List ℕ
  pub behind_hint : List ℕ
  pub behind : List ℕ
  pub octets_text : List ℕ
  pub spelled : text ≡ char "[" ∷ (inside ++ (hint_text ++ (behind_hint ++ char "]" ∷ (behind ++ octets_text))))
  pub spaces_inside : AreSpaces inside
  pub hint_meant : Simple as_token hint_text hint
  pub spaces_behind_hint : AreSpaces behind_hint
  pub spaces_behind : AreSpaces behind
  pub octets_meant : Simple ends_token octets_text octets

abbrev mutual
  -- the whole text spells a value, without whitespace around it; the flag is true exactly if it ends in a token
  pub SpellsAs : Bool → List ℕ → Value → Type 0
  SpellsAs ends_token text (string None octets) = Simple ends_token text octets
  SpellsAs ends_token text (string (Some hint) octets) = IsHinted ends_token text hint octets
  SpellsAs ends_token text (list vs) =
      (inside : List ℕ) × (ends_token ≡ false) × (text ≡ char "(" ∷ (inside ++ char ")" ∷ [])) × SpellsMembers inside vs

  -- a text spells members one after another, with whitespace around each
  pub SpellsMembers : List ℕ → Values → Type 0
  SpellsMembers text none = AreSpaces text
  SpellsMembers text (more v vs) =
      (before : List ℕ) × (ends_token : Bool) × (first : List ℕ) × (rest : List ℕ) × (text ≡ before ++ (first ++ rest))
      × AreSpaces before × SpellsAs ends_token first v × IsApart ends_token rest × SpellsMembers rest vs

-- a text spells a value, with whitespace around it
pub record Spells (text : List ℕ) (v : Value) : Type 0 where
  pub before : List ℕ
  pub ends_token : Bool
  pub middle : List ℕ
  pub after : List ℕ
  pub parts : text ≡ before ++ (middle ++ after)
  pub spaces_before : AreSpaces before
  pub spelled : SpellsAs ends_token middle v
  pub spaces_after : AreSpaces after

-- the same, within the limits on octets and depth
pub record IsSpelledWithin (text : List ℕ) (v : Value) : Type 0 where
  pub spelling : Spells text v
  pub short : length text ≤ octet_limit
  pub shallow : IsShallow v

-- a text spells a value or braces it: any of the three forms
abbrev pub IsText : List ℕ → Value → Type 0
IsText text v = Spells text v ⊎ Braced text v

-- the same, within the limits on octets and depth
abbrev pub IsTextWithin : List ℕ → Value → Type 0
IsTextWithin text v = IsSpelledWithin text v ⊎ IsBracedWithin text v

-- ---- the one printed text of a value in advanced form

-- all octets pass a test
abbrev pub every : (ℕ → Bool) → List ℕ → Bool
every test [] = true
every test (c ∷ cs) = test c && every test cs

-- one or more token octets, and the first is no digit
abbrev pub is_token : List ℕ → Bool
is_token [] = false
is_token (c ∷ cs) = not (is_digit c) && every is_token_octet (c ∷ cs)

-- the octets 20 to 7E
abbrev pub is_printable : ℕ → Bool
is_printable c = nat_le (char " ") c && nat_le c (char "~")

-- octets between quotes, with a backslash before each quote and each backslash
abbrev pub quoted_body : List ℕ → List ℕ
quoted_body [] = []
quoted_body (c ∷ cs) = if c == char "\"" || c == char "\\" then char "\\" ∷ c ∷ quoted_body cs else c ∷ quoted_body cs

-- a string without a hint: a token if it is one; otherwise quoted, if all its octets are printable; otherwise base64
unfoldable pub printed_string : List ℕ → List ℕ
printed_string octets =
    if is_token octets then octets
    else if every is_printable octets then char "\"" ∷ (quoted_body octets ++ char "\"" ∷ [])
    else char "|" ∷ (encode_of standard octets ++ char "|" ∷ [])

-- what is written before the member with this number, from 0
abbrev pub gap : ℕ → List ℕ
gap n = if n == 0 then [] else char " " ∷ []

abbrev mutual
  -- hints are in brackets directly before the string, there is one space between members, and no other whitespace
  pub adv : Value → List ℕ
  adv (string None octets) = printed_string octets
  adv (string (Some hint) octets) = char "[" ∷ (printed_string hint ++ char "]" ∷ printed_string octets)
  adv (list vs) = char "(" ∷ (adv_all 0 vs ++ char ")" ∷ [])

  -- members; the first of them has this number
  pub adv_all : ℕ → Values → List ℕ
  adv_all n none = []
  adv_all n (more v vs) = gap n ++ (adv v ++ adv_all (suc n) vs)

-- ---- the text of a value in canonical or advanced form

-- the text of a value in this form
abbrev pub written : Form → Value → List ℕ
written Canonical v = canon v
written Advanced v = adv v

-- a string without a hint
abbrev pub written_string : Form → List ℕ → List ℕ
written_string Canonical octets = verbatim octets
written_string Advanced octets = printed_string octets

-- what is written before the member with this number, from 0
abbrev pub gap_of : Form → ℕ → List ℕ
gap_of Canonical n = []
gap_of Advanced n = gap n

-- members; the first of them has this number
abbrev pub written_all : Form → ℕ → Values → List ℕ
written_all Canonical n vs = canons vs
written_all Advanced n vs = adv_all n vs
