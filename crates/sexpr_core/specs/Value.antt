-- S-expressions as values, and their canonical text (RFC 9804): the limits on what is read, values of octets, what a
-- value is not, the equality of values, and the value of an owned tree.
use Rattle.std.specs.Prelude.{ℕ, suc, ◌+◌, ◌≤◌, max, List, [], ◌∷◌, ◌++◌, length, map, Option, Some, None, ◌==◌, slice_get, if◌then◌else◌, ◌≢◌, Bool, option_map}
use Rattle.std.specs.{Int.Digits.{digits_of}, Str.{bytes_eq}}
use Rattle.sexpr_core.specs.Characters.{char}
use Rattle.sexpr_core.specs.declared.tree.{Atom.{Atom}, Sexp.{Sexp, TheOpen.{Sexp-F, Atom as Leaf, List as Branch}, TheFolds.{fold-Sexp}}}
use Rattle.base64.specs.GeneralPurpose.{IsBytes}

-- ---- the limits of what is read

-- the most octets of a text, 1 MiB
abbrev pub octet_limit : ℕ
octet_limit = 1048576

-- the most lists that may be open at once
abbrev pub depth_limit : ℕ
depth_limit = 64

-- ---- s-expressions as values, and their canonical text (RFC 9804)

mutual
  -- An octet string, with or without a display hint (sections 4 and 4.6), or a list (section 5). Octets are plain numbers:
  -- that each is below 256 is stated of texts.
  pub data Value : Type 0 where
    string : Option (List ℕ) → List ℕ → Value
    list : Values → Value

  -- the members of a list, in order
  pub data Values : Type 0 where
    none : Values
    more : Value → Values → Values

-- ---- members as a list, and back

-- members as a list
abbrev pub members : Values → List Value
members none = []
members (more v vs) = v ∷ members vs

-- a list as members
abbrev pub values : List Value → Values
values [] = none
values (v ∷ vs) = more v (values vs)

-- a string without a display hint
abbrev pub plain : List ℕ → Value
plain octets = string None octets

-- the list with these members
abbrev pub group : List Value → Value
group vs = list (values vs)

-- ---- the canonical text (section 6.2)

-- a number in decimal, with no leading zero; 0 is "0"
unfoldable pub decimal : ℕ → List ℕ
decimal n = if n == 0 then char "0" ∷ [] else map (λ digit. char "0" + digit) (digits_of 10 n)

-- the verbatim form of a string: its length, a colon, its octets
unfoldable pub verbatim : List ℕ → List ℕ
verbatim octets = decimal (length octets) ++ char ":" ∷ octets

abbrev mutual
  -- the one canonical text of a value: [ hint ] string, or ( members )
  pub canon : Value → List ℕ
  canon (string None octets) = verbatim octets
  canon (string (Some hint) octets) = char "[" ∷ (verbatim hint ++ char "]" ∷ verbatim octets)
  canon (list vs) = char "(" ∷ (canons vs ++ char ")" ∷ [])

  -- the canonical texts of members, one after another
  pub canons : Values → List ℕ
  canons none = []
  canons (more v vs) = canon v ++ canons vs

-- ---- measures

abbrev mutual
  -- how many lists are open at once, at the deepest place
  pub depth : Value → ℕ
  depth (string hint octets) = 0
  depth (list vs) = suc (depths vs)

  -- the depth of the deepest member
  pub depths : Values → ℕ
  depths none = 0
  depths (more v vs) = max (depth v) (depths vs)

abbrev mutual
  -- the nodes: the value and its parts, in the order in which they begin in the canonical text. A list comes before its
  -- members, and a display hint is no node.
  pub nodes : Value → List Value
  nodes (string hint octets) = string hint octets ∷ []
  nodes (list vs) = list vs ∷ nodes_all vs

  -- the nodes of members, in order
  pub nodes_all : Values → List Value
  nodes_all none = []
  nodes_all (more v vs) = nodes v ++ nodes_all vs

-- node n, from 0
abbrev pub node : Value → ℕ → Option Value
node v n = slice_get (nodes v) n

-- the number of nodes
abbrev pub size : Value → ℕ
size v = length (nodes v)

-- the number of nodes of several values together
abbrev pub size_all : List Value → ℕ
size_all [] = 0
size_all (v ∷ vs) = size v + size_all vs

-- ---- values within these limits

-- at most 64 lists are open at once in the value
abbrev pub IsShallow : Value → Type 0
IsShallow v = depth v ≤ depth_limit

-- a text of at most 1,048,576 octets, of a value of depth at most 64
pub record IsWithinLimits (v : Value) : Type 0 where
  pub short : length (canon v) ≤ octet_limit
  pub shallow : IsShallow v

-- ---- what a value is not

-- not a string without a display hint
abbrev pub IsNoString : Value → Type 0
IsNoString v = (octets : List ℕ) → v ≢ plain octets

-- not a list
abbrev pub IsNoList : Value → Type 0
IsNoList v = (vs : List Value) → v ≢ group vs

-- not a list whose head is this word
abbrev pub IsNotHeaded : Value → List ℕ → Type 0
IsNotHeaded v word = (vs : List Value) → v ≢ group (plain word ∷ vs)

-- ---- values of octets (RFC 9804, section 4)

-- In a value octets are plain numbers.

abbrev mutual
  -- each octet of each string and display hint is below 256
  pub HasOctets : Value → Type 0
  HasOctets (string None octets) = IsBytes octets
  HasOctets (string (Some hint) octets) = IsBytes hint × IsBytes octets
  HasOctets (list vs) = HaveOctets vs

  -- the same for members
  pub HaveOctets : Values → Type 0
  HaveOctets none = Unit {0}
  HaveOctets (more v vs) = HasOctets v × HaveOctets vs

-- ---- equality of values (RFC 9804, sections 4.7 and 6.2)

-- whether two values have the same canonical text, and so are equal
abbrev pub is_same : Value → Value → Bool
is_same v w = bytes_eq (canon v) (canon w)

-- ---- the value of an owned tree

-- the value of a string of a tree, with its display hint if it has one
abbrev pub atom_value : Atom → Value
atom_value a = string (option_map (λ h. h.items) a.hint) a.body.items

-- one level of a tree, with the value of each member in its place
abbrev pub level_value : Sexp-F Value → Value
level_value (Leaf a) = atom_value a
level_value (Branch members) = group members.items

-- the value of a tree
abbrev pub sexp_value : Sexp → Value
sexp_value = fold-Sexp Value level_value
