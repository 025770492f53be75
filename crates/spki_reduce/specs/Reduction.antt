-- The reduction of tuples (RFC 2693, section 6): the tuples, the rules by which two become one, derivations by these
-- rules, what a derivation grants, and what an authorization lacks to grant a request. Entries, certificates and the
-- tuples of the code are viewed as such tuples.
use Rattle.std.specs.{Prelude.{ℕ, List, [], Bool, ◌≡◌, ◌∷◌, ◌++◌, IsTrue, ◌*◌, true, false, fold, max, Option, Some, None}, List.{list_all}}
use Rattle.spki_cert.specs.declared.{principal.{Principal.{Principal}, Policy.{Policy}}, window.Window.{Window}}
use Rattle.spki_cert.specs.declared.{entry.{Subject.{Subject}, Entry.{Entry}}, certificate.{AuthCert.{AuthCert}, NameCert.{NameCert}}}
use Rattle.spki_cert.specs.{Naming.{names}, Time.{within}}
use Rattle.spki_tag.specs.{Tag.{Tag, contains, nodes, ldepth, star, is_date}, Request.{Request, IsRequest}, Meet.{meet}}
use Rattle.spki_reduce.specs.declared.last_tests.MissingGrant.{MissingGrant, TheVariants.{NotTheKey, TagLacks, WindowLacks}}
use Rattle.spki_reduce.specs.declared.tuple.{Issuer.TheVariants.{Own, Key}, Five.{Five}, Four.{Four}, Step.{Step, TheVariants.{Auth, Name}}}
use Rattle.spki_reduce.specs.declared.tuple.Issuer as code

-- ---- the tuples of an authorization computation (RFC 2693, section 6)

-- The issuer: the owner of an access list, whom the standard calls Self, or a key, as its canonical octets (section 6.1).
pub data Issuer : Type 0 where
  own : Issuer
  key : List ℕ → Issuer

-- An authorization (section 6.1). The subject is a principal and the names after it; without names it is the principal
-- itself. Tags and windows are lists, and all of their members apply: an intersection is the list of what was
-- intersected.
pub record FiveTuple : Type 0 where
  pub issuer : Issuer
  pub principal : Principal
  pub names : List (List ℕ)
  pub delegation : Bool
  pub tags : List Tag
  pub windows : List Window

-- A definition of a name in the name space of a key (section 6.2).
pub record FourTuple : Type 0 where
  pub key : List ℕ
  pub name : List ℕ
  pub principal : Principal
  pub names : List (List ℕ)
  pub windows : List Window

pub data Tuple : Type 0 where
  five : FiveTuple → Tuple
  four : FourTuple → Tuple

-- what a tuple restricts; a definition has no tag
abbrev pub tags_of : Tuple → List Tag
tags_of (five t) = t.tags
tags_of (four t) = []

abbrev pub windows_of : Tuple → List Window
windows_of (five t) = t.windows
windows_of (four t) = t.windows

-- ---- the rules by which two tuples become one (RFC 2693, sections 6.3 and 6.4)

-- In all of them the policy says which hashes name keys.

-- An authorization is for a key: its subject is a principal without names, which names the key.
pub record IsFor (policy : Policy) (given : FiveTuple) (holder : List ℕ) : Type 0 where
  pub whole : given.names ≡ []
  pub named : IsTrue (names policy given.principal holder)

-- The left subject is the right issuer (section 6.3): the left authorization is for the key that issued the right one.
pub record Issues (policy : Policy) (left right : FiveTuple) : Type 0 where
  pub holder : List ℕ
  pub issued : right.issuer ≡ key holder
  pub is_for : IsFor policy left holder

-- A subject, which is a principal and the names after it, begins with the name that a definition defines (section 6.4).
pub record Begins (policy : Policy) (principal : Principal) (path : List (List ℕ)) (definition : FourTuple) : Type 0 where
  pub rest : List (List ℕ)
  pub named : IsTrue (names policy principal definition.key)
  pub name : path ≡ definition.name ∷ rest

-- the result of delegation: from the left issuer to the right subject
abbrev pub delegated : FiveTuple → FiveTuple → FiveTuple
delegated left right = record {
  issuer = left.issuer;
  principal = right.principal;
  names = right.names;
  delegation = right.delegation;
  tags = left.tags ++ right.tags;
  windows = left.windows ++ right.windows;
}

-- Two authorizations (section 6.3): the left subject is the right issuer, and the left one may be delegated.
pub record Delegate (policy : Policy) (left right result : FiveTuple) : Type 0 where
  pub issues : Issues policy left right
  pub allowed : IsTrue left.delegation
  pub result_is : result ≡ delegated left right

-- an authorization whose subject's first name was resolved; the other names are kept
abbrev pub resolved : FiveTuple → FourTuple → List (List ℕ) → FiveTuple
resolved left right rest = record left {
  principal = right.principal;
  names = right.names ++ rest;
  windows = left.windows ++ right.windows;
}

-- An authorization and a name's definition (section 6.4): the left subject begins with the name that the right one defines.
-- The other names of the left subject come after those of the definition's subject.
pub record Resolve (policy : Policy) (left : FiveTuple) (right : FourTuple) (result : FiveTuple) : Type 0 where
  pub begins : Begins policy left.principal left.names right
  pub result_is : result ≡ resolved left right begins.rest

-- a name's definition whose subject's first name was resolved
abbrev pub linked : FourTuple → FourTuple → List (List ℕ) → FourTuple
linked left right rest = record left {
  principal = right.principal;
  names = right.names ++ rest;
  windows = left.windows ++ right.windows;
}

-- Two definitions of names (section 6.4): like an authorization and a definition, and the name of the left one is kept.
pub record Link (policy : Policy) (left right result : FourTuple) : Type 0 where
  pub begins : Begins policy left.principal left.names right
  pub result_is : result ≡ linked left right begins.rest

-- Two tuples become a third by one of the rules. No rule joins a definition with an authorization after it.
abbrev pub Joins : Policy → Tuple → Tuple → Tuple → Type 0
Joins policy (five left) (five right) (five result) = Delegate policy left right result
Joins policy (five left) (four right) (five result) = Resolve policy left right result
Joins policy (four left) (four right) (four result) = Link policy left right result
Joins policy _ _ _ = ⊥

-- ---- derivations: trees whose inner nodes are the rules of reduction (RFC 2693, sections 6.3 and 6.4)

pub data Tree : Type 0 where
  leaf : Tuple → Tree
  join : Tree → Tree → Tree

-- the leaves of a tree, from left to right
abbrev pub leaves : Tree → List Tuple
leaves (leaf tuple) = tuple ∷ []
leaves (join left right) = leaves left ++ leaves right

-- The tree is a derivation of the tuple, its root.
abbrev pub Derives : Policy → Tree → Tuple → Type 0
Derives policy (leaf tuple) root = root ≡ tuple
Derives policy (join left right) root = (a b : Tuple) × Derives policy left a × Derives policy right b × Joins policy a b root

-- the tree, joined with each of the tuples, one after another
abbrev pub extended : Tree → List Tuple → Tree
extended tree [] = tree
extended tree (tuple ∷ tuples) = extended (join tree (leaf tuple)) tuples

-- the tree that joins the tuples from the left
abbrev pub from_left : Tuple → List Tuple → Tree
from_left first tuples = extended (leaf first) tuples

-- ---- the intersection of several tags, and of several windows (RFC 2693, sections 6.3.1 and 6.3.2)

-- whether a request is in every tag
abbrev pub in_each : Request → List Tag → Bool
in_each request tags = list_all (λ tag. contains tag request) tags

-- whether a moment is within every window
abbrev pub within_each : List ℕ → List Window → Bool
within_each moment windows = list_all (λ window. within moment window) windows

-- no request is in every tag
abbrev pub NoRequest : List Tag → Type 0
NoRequest tags = (request : Request) → IsRequest request → in_each request tags ≡ false

-- some moment is within every window
abbrev pub SomeMoment : List Window → Type 0
SomeMoment windows = (moment : List ℕ) × (is_date moment ≡ true) × (within_each moment windows ≡ true)

-- no moment is within every window
abbrev pub NoMoment : List Window → Type 0
NoMoment windows = (moment : List ℕ) → within_each moment windows ≡ false

-- the intersection of several tags, one after another from the left
abbrev pub met : List Tag → Tag
met tags = fold meet star tags

-- the product of the numbers of nodes of the tags
abbrev pub nodes_product : List Tag → ℕ
nodes_product [] = 1
nodes_product (tag ∷ tags) = nodes tag * nodes_product tags

-- the greatest depth of nested lists
abbrev pub deepest : List Tag → ℕ
deepest [] = 0
deepest (tag ∷ tags) = max (ldepth tag) (deepest tags)

-- ---- what a derivation grants (RFC 2693, section 6.3)

-- An authorization by the owner of the access list grants a key a request at a moment. Its subject is a principal that names
-- the key, each of its tags contains the request, and the moment is within each of its windows. So no intersection that led
-- to it is empty (sections 6.3.1 and 6.3.2).
pub record Grants (policy : Policy) (root : FiveTuple) (holder : List ℕ) (request : Request) (moment : List ℕ) : Type 0 where
  pub issuer : root.issuer ≡ own
  pub whole : root.names ≡ []
  pub named : IsTrue (names policy root.principal holder)
  pub asked : IsTrue (in_each request root.tags)
  pub timely : IsTrue (within_each moment root.windows)

-- The tree is a derivation of such an authorization.
pub record Supports (policy : Policy) (tree : Tree) (holder : List ℕ) (request : Request) (moment : List ℕ) : Type 0 where
  pub root : FiveTuple
  pub derived : Derives policy tree (five root)
  pub grants : Grants policy root holder request moment

-- ---- what an authorization lacks to grant a key a request at a moment (RFC 2693, section 6.3)

-- The first of three tests that fails. None if all three pass. NotTheKey: the subject has names left or does not name the
-- key. TagLacks: some tag does not contain the request. WindowLacks: the moment is not within some window.
abbrev pub IsMissingGrant : Policy → FiveTuple → List ℕ → Request → List ℕ → Option MissingGrant → Type 0
IsMissingGrant policy root holder request moment (Some NotTheKey) = ¬ IsFor policy root holder
IsMissingGrant policy root holder request moment (Some TagLacks) =
    IsFor policy root holder × (in_each request root.tags ≡ false)
IsMissingGrant policy root holder request moment (Some WindowLacks) =
    IsFor policy root holder × (in_each request root.tags ≡ true) × (within_each moment root.windows ≡ false)
IsMissingGrant policy root holder request moment None =
    IsFor policy root holder × (in_each request root.tags ≡ true) × (within_each moment root.windows ≡ true)

-- some derivation with these leaves, in any bracketing, supports the key, the request and the moment
pub record IsSupported
    (policy : Policy) (first : Tuple) (others : List Tuple) (holder : List ℕ) (request : Request) (moment : List ℕ)
    : Type 0 where
  pub tree : Tree
  pub leaves_are : leaves tree ≡ first ∷ others
  pub supports : Supports policy tree holder request moment

-- ---- entries, certificates and the tuples of the code as tuples of the model: one tag and one window each

-- an authorization, and a name's definition
abbrev pub authorization : Issuer → Subject → Bool → Tag → Window → FiveTuple
authorization issuer subject delegation tag window = record {
  issuer = issuer;
  principal = subject.principal;
  names = subject.names;
  delegation = delegation;
  tags = tag ∷ [];
  windows = window ∷ [];
}

abbrev pub definition : List ℕ → List ℕ → Subject → Window → FourTuple
definition holder name subject window = record {
  key = holder;
  name = name;
  principal = subject.principal;
  names = subject.names;
  windows = window ∷ [];
}

-- ---- tuples of what is written

-- an entry, whose issuer is the owner of the list (RFC 2693, section 6.1)
abbrev pub entry_tuple : Entry → FiveTuple
entry_tuple e = authorization own e.subject e.propagate e.tag e.window

-- an authorization certificate and a name certificate, whose issuers are this key (section 6.2)
abbrev pub auth_tuple : List ℕ → AuthCert → FiveTuple
auth_tuple holder cert = authorization (key holder) cert.subject cert.propagate cert.tag cert.window

abbrev pub name_tuple : List ℕ → NameCert → FourTuple
name_tuple holder cert = definition holder cert.name cert.subject cert.window

-- ---- tuples of the code

abbrev pub issuer_of : code.Issuer → Issuer
issuer_of Own = own
issuer_of (Key octets) = key octets

abbrev pub five_tuple : Five → FiveTuple
five_tuple f = authorization (issuer_of f.issuer) f.subject f.propagate f.tag f.window

abbrev pub four_tuple : Four → FourTuple
four_tuple f = definition f.key f.name f.subject f.window

abbrev pub step_tuple : Step → Tuple
step_tuple (Auth f) = five (five_tuple f)
step_tuple (Name f) = four (four_tuple f)
