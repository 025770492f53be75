-- How an authorization is written. The forms are those of the SPKI working group's structure draft. A list headed `five` has
-- the five parts of the tuple (RFC 2693, section 6.1).
use Rattle.std.specs.Prelude.{◌≡◌, ℕ, Bool, true, false, List, [], ◌∷◌, ◌++◌, Option, Some, None, codes}
use Rattle.sexpr_core.specs.Value.{Value, plain, group, canon}
use Rattle.spki_tag.specs.Tag.{Tag, tag_value}
use Rattle.spki_cert.specs.{declared.{principal.Principal.{Principal}, window.Window.{Window}}, Readings.{alg_name}, Fields.{plains}}
use Rattle.spki_reduce.specs.declared.tuple.{Issuer.{Issuer}, Five.{Five}}
use Rattle.spki_cert.specs.declared.principal.Principal.TheVariants as principal
use Rattle.spki_reduce.specs.declared.tuple.Issuer.TheVariants as issuer

-- (head member ..)
abbrev pub headed : List ℕ → List Value → Value
headed head members = group (plain head ∷ members)

-- a key, as its canonical form, or (hash alg digest), without the `uri` where the key can be found
abbrev pub IsWrittenPrincipal : Principal → Value → Type 0
IsWrittenPrincipal (principal.Key octets) v = octets ≡ canon v
IsWrittenPrincipal (principal.Hash alg digest) v = v ≡ headed (codes "hash") (plain (alg_name alg) ∷ plain digest ∷ [])

-- the principal, or (name principal n n ..) if there are names after it
abbrev pub named : Value → List (List ℕ) → Value
named owner [] = owner
named owner (n ∷ ns) = headed (codes "name") (owner ∷ plains (n ∷ ns))

abbrev pub IsWrittenSubject : Principal → List (List ℕ) → Value → Type 0
IsWrittenSubject p names v = (owner : Value) × IsWrittenPrincipal p owner × (v ≡ named owner names)

-- (issuer K); nothing is written for the owner of the access list
abbrev pub IsWrittenIssuer : Issuer → List Value → Type 0
IsWrittenIssuer issuer.Own vs = vs ≡ []
IsWrittenIssuer (issuer.Key octets) vs = (key : Value) × (octets ≡ canon key) × (vs ≡ headed (codes "issuer") (key ∷ []) ∷ [])

-- (propagate), if the subject may delegate
abbrev pub delegation_values : Bool → List Value
delegation_values true = headed (codes "propagate") [] ∷ []
delegation_values false = []

-- a list of the word and the limit, if there is a limit
abbrev pub limit_values : List ℕ → Option (List ℕ) → List Value
limit_values word None = []
limit_values word (Some date) = headed word (plain date ∷ []) ∷ []

-- (valid ..) with the limits of a window, if there are any
abbrev pub in_valid : List Value → List Value
in_valid [] = []
in_valid (limit ∷ limits) = headed (codes "valid") (limit ∷ limits) ∷ []

abbrev pub window_limits : Window → List Value
window_limits w = limit_values (codes "not-before") w.not_before ++ limit_values (codes "not-after") w.not_after

-- (five .. (tag T) ..), with these members before its tag and after it
abbrev pub five_value : List Value → Tag → List Value → Value
five_value before tag behind = headed (codes "five") (before ++ headed (codes "tag") (tag_value tag ∷ []) ∷ behind)

-- (five (issuer K)? (subject S) (propagate)? (tag T) (valid (not-before d)? (not-after d)?)?)
pub record IsWrittenFive (f : Five) (v : Value) : Type 0 where
  pub issuer : List Value
  pub issuer_is : IsWrittenIssuer f.issuer issuer
  pub subject : Value
  pub subject_is : IsWrittenSubject f.subject.principal f.subject.names subject
  pub written : v ≡ five_value ((issuer ++ headed (codes "subject") (subject ∷ []) ∷ []) ++ delegation_values f.propagate)
      f.tag (in_valid (window_limits f.window))
