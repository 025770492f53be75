-- The fault for which a value is refused as a tag or as a request: the first that a reader finds, depth first from
-- the left (RFC 2693, section 6.3.1).
use Rattle.std.specs.Prelude.{Bool, true, false, List, [], ◌∷◌, Option, Some, None, ◌≡◌, ◌⊎◌, ℕ, ◌+◌, not, ◌&&◌, ◌||◌, if◌then◌else◌, nat_lt, ◌++◌, map, codes}
use Rattle.std.specs.{List.{list_any}, Str.{bytes_eq}}
use Rattle.sexpr_core.specs.Value.{Value, Values, string, list, none, more, members, nodes}
use Rattle.spki_tag.specs.declared.fault.TagFault.TheVariants.{EmptyList, ListHead, Hint, UnknownStar, RangeOrdering, RangeLimit, TooManyNodes, StarInRequest, Memory}
use Rattle.spki_tag.specs.declared.fault.TagFault.{TagFault}

-- ---- the first fault that a reader finds, in a list of tests in their order, each with its fault or None

-- the first fault of the tests, or None
abbrev pub first_fault : {A : Type 0} → List (Option A) → Option A
first_fault [] = None
first_fault (None ∷ looks) = first_fault looks
first_fault (Some fault ∷ looks) = Some fault

-- no fault if this holds, and otherwise this fault
abbrev pub unless : {A : Type 0} → Bool → A → Option A
unless true fault = None
unless false fault = Some fault

-- ---- the tags in a written tag

-- a word without a display hint
abbrev pub is_word : List ℕ → Value → Bool
is_word word (string None octets) = bytes_eq octets word
is_word word (string (Some hint) octets) = false
is_word word (list vs) = false

abbrev mutual
  -- The tags in a written tag, itself first, depth first from the left. The tags in a list are its members, with the head,
  -- and the tags in a set are the members after `set`. Any other list that begins with the star contains none.
  pub tags_in : Value → List Value
  tags_in (string hint octets) = string hint octets ∷ []
  tags_in (list vs) = list vs ∷ tags_in_list vs

  -- the tags in a list of these members
  pub tags_in_list : Values → List Value
  tags_in_list none = []
  tags_in_list (more v vs) = if is_word (codes "*") v then tags_in_set vs else tags_in v ++ tags_in_all vs

  -- the tags in a list of these members after the star: those after `set`, and otherwise none
  pub tags_in_set : Values → List Value
  tags_in_set none = []
  tags_in_set (more v vs) = if is_word (codes "set") v then tags_in_all vs else []

  -- the tags in each of these values, in order
  pub tags_in_all : Values → List Value
  tags_in_all none = []
  tags_in_all (more v vs) = tags_in v ++ tags_in_all vs

-- ---- the fault of one tag, apart from the tags in it

-- a string with a display hint
abbrev pub is_hinted : Value → Bool
is_hinted (string None octets) = false
is_hinted (string (Some hint) octets) = true
is_hinted (list vs) = false

-- a string without a display hint
abbrev pub is_plain : Value → Bool
is_plain (string None octets) = true
is_plain (string (Some hint) octets) = false
is_plain (list vs) = false

-- one of two words, and a string
abbrev pub is_limit : List ℕ → List ℕ → Value → Value → Bool
is_limit above from word limit = is_plain limit && (is_word above word || is_word from word)

-- at most one lower limit, and then at most one upper limit
abbrev pub are_limits : List Value → Bool
are_limits [] = true
are_limits (v ∷ []) = false
are_limits (v ∷ w ∷ []) = is_limit (codes "g") (codes "ge") v w || is_limit (codes "l") (codes "le") v w
are_limits (v ∷ w ∷ x ∷ []) = false
are_limits (v ∷ w ∷ x ∷ y ∷ []) = is_limit (codes "g") (codes "ge") v w && is_limit (codes "l") (codes "le") x y
are_limits (v ∷ w ∷ x ∷ y ∷ z ∷ vs) = false

-- the name of an ordering of a range
abbrev pub is_ordering : List ℕ → Bool
is_ordering name = bytes_eq name (codes "alpha") || bytes_eq name (codes "time") || bytes_eq name (codes "date")

-- the fault of the members after the ordering of a range; a hint is looked for first
abbrev pub limits_fault : List Value → Option TagFault
limits_fault vs = first_fault (unless (not (list_any is_hinted vs)) Hint ∷ unless (are_limits vs) RangeLimit ∷ [])

-- the fault of the members after `*` and `range`
abbrev pub range_fault : List Value → Option TagFault
range_fault [] = Some RangeOrdering
range_fault (list us ∷ vs) = Some RangeOrdering
range_fault (string (Some hint) octets ∷ vs) = Some Hint
range_fault (string None name ∷ vs) = if is_ordering name then limits_fault vs else Some RangeOrdering

-- the fault of the members after `*` and `prefix`
abbrev pub prefix_fault : List Value → Option TagFault
prefix_fault [] = Some UnknownStar
prefix_fault (list us ∷ []) = Some UnknownStar
prefix_fault (string (Some hint) octets ∷ []) = Some Hint
prefix_fault (string None octets ∷ []) = None
prefix_fault (v ∷ w ∷ vs) = Some UnknownStar

-- the fault of the members after `*` and this word
abbrev pub form_fault : List ℕ → List Value → Option TagFault
form_fault word vs =
    if bytes_eq word (codes "set") then None
    else if bytes_eq word (codes "prefix") then prefix_fault vs
    else if bytes_eq word (codes "range") then range_fault vs
    else Some UnknownStar

-- the fault of the members after `*`
abbrev pub star_fault : List Value → Option TagFault
star_fault [] = None
star_fault (list us ∷ vs) = Some UnknownStar
star_fault (string (Some hint) octets ∷ vs) = Some Hint
star_fault (string None word ∷ vs) = form_fault word vs

-- the fault of a list of these members
abbrev pub list_fault : List Value → Option TagFault
list_fault [] = Some EmptyList
list_fault (list us ∷ vs) = Some ListHead
list_fault (string (Some hint) octets ∷ vs) = Some Hint
list_fault (string None head ∷ vs) = if bytes_eq head (codes "*") then star_fault vs else None

-- the fault of a tag
abbrev pub own_fault : Value → Option TagFault
own_fault (string None octets) = None
own_fault (string (Some hint) octets) = Some Hint
own_fault (list vs) = list_fault (members vs)

-- ---- the fault of a tag

-- What is tested in some tags, if so many nodes were counted before them. Each tag is counted, and the 1,025th is one too
-- many; then the tag itself is tested.
abbrev pub looks : ℕ → List Value → List (Option TagFault)
looks n [] = []
looks n (v ∷ vs) = unless (nat_lt n 1024) TooManyNodes ∷ own_fault v ∷ looks (n + 1) vs

-- the first fault of the value as a tag, or None
unfoldable pub tag_fault : Value → Option TagFault
tag_fault v = first_fault (looks 0 (tags_in v))

-- ---- the fault of a request

-- the fault of a list of these members, apart from the faults of the members
abbrev pub group_fault : List Value → Option TagFault
group_fault [] = Some EmptyList
group_fault (list us ∷ vs) = Some ListHead
group_fault (string (Some hint) octets ∷ vs) = Some Hint
group_fault (string None head ∷ vs) = unless (not (bytes_eq head (codes "*"))) StarInRequest

-- the same for a string or a list
abbrev pub part_fault : Value → Option TagFault
part_fault (string None octets) = None
part_fault (string (Some hint) octets) = Some Hint
part_fault (list vs) = group_fault (members vs)

-- The first fault of the value as a request, or None. Each of its parts is tested, and none is counted.
unfoldable pub request_fault : Value → Option TagFault
request_fault v = first_fault (map part_fault (nodes v))

-- ---- the fault that a reader returns

-- The fault is the one that was found, or memory ran out.
unfoldable pub IsNamed : TagFault → Option TagFault → Type 0
IsNamed fault found = (fault ≡ Memory) ⊎ (found ≡ Some fault)
