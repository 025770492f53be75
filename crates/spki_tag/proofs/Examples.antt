-- The definitions at worked examples.
use Rattle.std.{proofs.Common.{◌≡◌, ℕ, true, false, List, [], ◌∷◌, Option, Some, None, refl}, specs.Prelude.{codes}}
use Rattle.sexpr_core.specs.Value.{Value, plain, group, canon, verbatim, decimal}
use Rattle.spki_tag.specs.declared.fault.TagFault.TheVariants.{EmptyList, ListHead, Hint, UnknownStar, RangeOrdering, RangeLimit, TooManyNodes, StarInRequest}
use Rattle.spki_tag.specs.Tag.{is_time, is_date, Tag, Limit, alpha, time, date, star, string, prefix, range, list, set, tags, contains, is_normal, nodes, ldepth, tag_value}
use Rattle.spki_tag.specs.{Faults.{first_fault, looks, tag_fault, request_fault}, Request.{Request}, Meet.{nothing}, Reading.{normal}}
use Rattle.sexpr_core.specs.Value as value
use Rattle.spki_tag.specs.Request as request

abbrev text_request : List ℕ → Request
text_request octets = request.string octets

abbrev at_least : List ℕ → Option Limit
at_least octets = Some (record { strict = false; octets = octets })

abbrev below : List ℕ → Option Limit
below octets = Some (record { strict = true; octets = octets })

-- ---- the tag (* range time ge "09:00:00" l "17:00:00")

abbrev hours : Tag
hours = range time (at_least (codes "09:00:00")) (below (codes "17:00:00"))

-- a leap second, the limits themselves, a short form, and hour 24
time-tried : (contains hours (text_request (codes "12:30:60")) ≡ true)
    × (contains hours (text_request (codes "09:00:00")) ≡ true)
    × (contains hours (text_request (codes "17:00:00")) ≡ false)
    × (contains hours (text_request (codes "9:00")) ≡ false)
    × (contains hours (text_request (codes "24:00:00")) ≡ false)
unfolding is_time
time-tried = (refl, refl, refl, refl, refl)

-- ---- the tag (* range date ge "2024")

abbrev since_2024 : Tag
since_2024 = range date (at_least (codes "2024")) None

-- the first moment, a day that no calendar has, the moment before, and the year alone
date-tried : (contains since_2024 (text_request (codes "2024-01-01_00:00:00")) ≡ true)
    × (contains since_2024 (text_request (codes "2024-02-31_00:00:00")) ≡ true)
    × (contains since_2024 (text_request (codes "2023-12-31_23:59:59")) ≡ false)
    × (contains since_2024 (text_request (codes "2024")) ≡ false)
unfolding is_date is_time
date-tried = (refl, refl, refl, refl)

-- ---- the tag (* range alpha ge a)

abbrev from_a : Tag
from_a = range alpha (at_least (codes "a")) None

alpha-tried : (contains from_a (text_request (codes "a")) ≡ true)
    × (contains from_a (text_request (codes "ab")) ≡ true)
    × (contains from_a (text_request []) ≡ false)
    × (contains from_a (request.list (codes "a") request.none) ≡ false)
alpha-tried = (refl, refl, refl, refl)

-- ---- the tag (* prefix "")

prefix-tried : (contains (prefix []) (text_request (codes "any")) ≡ true)
    × (contains (prefix []) (request.list (codes "a") request.none) ≡ false)
prefix-tried = (refl, refl)

-- ---- the tag (f (* set a b))

abbrev either : Tag
either = list (codes "f") (tags (set (tags (string (codes "a") ∷ string (codes "b") ∷ [])) ∷ []))

abbrev f_of : List Request → Request
f_of gs = request.list (codes "f") (request.requests gs)

-- a member, a longer list, a shorter one, a string, and no member
set-tried : (contains either (f_of (text_request (codes "a") ∷ [])) ≡ true)
    × (contains either (f_of (text_request (codes "b") ∷ text_request (codes "c") ∷ [])) ≡ true)
    × (contains either (f_of []) ≡ false)
    × (contains either (text_request (codes "f")) ≡ false)
    × (contains either (f_of (text_request (codes "c") ∷ [])) ≡ false)
set-tried = (refl, refl, refl, refl, refl)

-- ---- the tag and the requests of examples/first-run.csexp and examples/shorter-request.csexp

abbrev ftp_host : Tag
ftp_host = list (codes "ftp") (tags (string (codes "host") ∷ []))

first-run : contains ftp_host (request.list (codes "ftp") (request.requests (text_request (codes "host") ∷ text_request (codes "dir") ∷ []))) ≡ true
first-run = refl

shorter-request : contains ftp_host (request.list (codes "ftp") request.none) ≡ false
shorter-request = refl

-- ---- measures, normal form and writing

measures-tried : (nodes either ≡ 5) × (ldepth either ≡ 1)
measures-tried = (refl, refl)

-- a set in a set, a star in a set, a set of one member, a list with (* set), and a tag in normal form
normal-form-tried : (is_normal (set (tags (string (codes "a") ∷ set (tags (string (codes "b") ∷ string (codes "c") ∷ [])) ∷ []))) ≡ false)
    × (is_normal (set (tags (string (codes "a") ∷ star ∷ []))) ≡ false)
    × (is_normal (set (tags (string (codes "a") ∷ []))) ≡ false)
    × (is_normal (list (codes "x") (tags (set (tags []) ∷ []))) ≡ false)
    × (is_normal either ≡ true)
normal-form-tried = (refl, refl, refl, refl, refl)

-- ---- what tags become in normal form

abbrev a : Tag
a = string (codes "a")

abbrev b : Tag
b = string (codes "b")

abbrev c : Tag
c = string (codes "c")

abbrev d : Tag
d = string (codes "d")

abbrev no_string : Tag
no_string = range alpha (at_least (codes "b")) (below (codes "a"))

abbrev inner : Tag
inner = set (tags (b ∷ c ∷ []))

becomes-tried : (normal (set (tags (a ∷ inner ∷ d ∷ []))) ≡ set (tags (a ∷ b ∷ c ∷ d ∷ [])))
    × (normal (set (tags (a ∷ star ∷ b ∷ []))) ≡ star)
    -- the star of a set in a set
    × (normal (set (tags (a ∷ set (tags (b ∷ star ∷ [])) ∷ []))) ≡ star)
    × (normal (set (tags (a ∷ []))) ≡ a)
    -- from the inside out: the inner sets are one member, and then the outer one is
    × (normal (set (tags (set (tags (set (tags (a ∷ [])) ∷ [])) ∷ nothing ∷ []))) ≡ a)
    × (normal (list (codes "x") (tags (a ∷ nothing ∷ b ∷ []))) ≡ nothing)
    -- a list that is (* set) is dropped from a set
    × (normal (set (tags (a ∷ list (codes "x") (tags (nothing ∷ [])) ∷ b ∷ []))) ≡ set (tags (a ∷ b ∷ [])))
    -- repeated members stay, in their order
    × (normal (set (tags (b ∷ a ∷ inner ∷ a ∷ []))) ≡ set (tags (b ∷ a ∷ b ∷ c ∷ a ∷ [])))
    -- so does a range without members
    × (normal (list (codes "x") (tags (no_string ∷ []))) ≡ list (codes "x") (tags (no_string ∷ [])))
becomes-tried = (refl, refl, refl, refl, refl, refl, refl, refl, refl)

written-range : canon (tag_value (range alpha (at_least (codes "b")) (below (codes "m")))) ≡ codes "(1:*5:range5:alpha2:ge1:b1:l1:m)"
unfolding verbatim decimal
written-range = refl

-- ---- the fault of a value: the first, depth first from the left

abbrev word : List ℕ → Value
word octets = plain octets

-- [h]x
abbrev hinted : Value
hinted = value.string (Some (codes "h")) (codes "x")

abbrev starred_list : List Value → Value
starred_list vs = group (word (codes "*") ∷ vs)

fault-tried :
    -- (* set () [h]x)
    (tag_fault (starred_list (word (codes "set") ∷ group [] ∷ hinted ∷ [])) ≡ Some EmptyList)
    -- (a (* online) ())
    × (tag_fault (group (word (codes "a") ∷ starred_list (word (codes "online") ∷ []) ∷ group [] ∷ [])) ≡ Some UnknownStar)
    -- (() [h]x)
    × (tag_fault (group (group [] ∷ hinted ∷ [])) ≡ Some ListHead)
    -- ([h]x ())
    × (tag_fault (group (hinted ∷ group [] ∷ [])) ≡ Some Hint)
    -- (* prefix [h]x a): not one string
    × (tag_fault (starred_list (word (codes "prefix") ∷ hinted ∷ word (codes "a") ∷ [])) ≡ Some UnknownStar)
    -- (* range beta [h]x): the ordering before the limits
    × (tag_fault (starred_list (word (codes "range") ∷ word (codes "beta") ∷ hinted ∷ [])) ≡ Some RangeOrdering)
    -- (* range alpha (a) [h]x): a hint among the limits before a list
    × (tag_fault (starred_list (word (codes "range") ∷ word (codes "alpha") ∷ group (word (codes "a") ∷ []) ∷ hinted ∷ [])) ≡ Some Hint)
    -- (* range alpha g ([h]x)): a list among the limits, whatever it contains
    × (tag_fault (starred_list (word (codes "range") ∷ word (codes "alpha") ∷ word (codes "g") ∷ group (hinted ∷ []) ∷ []))
    ≡ Some RangeLimit)
    -- (* online [h]x (tag)): nothing after an unknown word is tested
    × (tag_fault (starred_list (word (codes "online") ∷ hinted ∷ group [] ∷ [])) ≡ Some UnknownStar)
    -- the 1,025th tag is one too many, whatever it is, and the 1,024th is tested
    × (first_fault (looks 1024 (hinted ∷ [])) ≡ Some TooManyNodes)
    × (first_fault (looks 1023 (hinted ∷ [])) ≡ Some Hint)
    -- (a (* set) [h]x) and (a [h]x (*)) as requests
    × (request_fault (group (word (codes "a") ∷ starred_list (word (codes "set") ∷ []) ∷ hinted ∷ [])) ≡ Some StarInRequest)
    × (request_fault (group (word (codes "a") ∷ hinted ∷ starred_list [] ∷ [])) ≡ Some Hint)
unfolding tag_fault request_fault
fault-tried = (refl, refl, refl, refl, refl, refl, refl, refl, refl, refl, refl, refl, refl)
