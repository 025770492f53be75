-- How a case is built of its parts.
use Rattle.std.{proofs.Common.{◌≡◌, ◌≢◌, ℕ, List, [], ◌∷◌, Option, Some, None, MatchOption, refl, sym, ap, ◌∙◌, rules}, specs.Prelude.{codes}}
use Rattle.sexpr_core.specs.{Value.{Value, string, list, none, more, members, plain}, Nodes.{members-values}}
use Rattle.spki_cert.specs.declared.principal.Policy.{Policy, TheVariants.{Open, Strict}}
use Rattle.spki_case.specs.{Case.{headed, part_values, case_value, policy_values}, View.{IsPart, ArePartsOf}}
use Rattle.spki_case.specs.declared.parts.{Parts.{Parts}, TakenPart.{TakenPart}}
use Rattle.spki_case.specs.Case as spec

abbrev behind : Value → List Value
behind (string hint octets) = []
behind (list none) = []
behind (list (more head others)) = members others

-- two lists with one head have the same members behind it
pub behind_head : (word : List ℕ) (xs ys : List Value) → headed word xs ≡ headed word ys → xs ≡ ys
behind_head word xs ys e = sym (members-values xs) ∙ ap behind e ∙ members-values ys

abbrev first_or : Value → List Value → Value
first_or v [] = v
first_or v (x ∷ xs) = x

abbrev others : List Value → List Value
others [] = []
others (x ∷ xs) = xs

-- the members behind a part
pub after : (vs : List Value) (word : List ℕ) (p : TakenPart) (y : Value) (ys : List Value) → IsPart vs word p → vs ≡ y ∷ ys → p.rest ≡ ys
after vs word p y ys part e = ap others (sym part.parts ∙ e)

-- the members of a part behind its head
pub inside : (vs : List Value) (word : List ℕ) (p : TakenPart) (inner ys : List Value) → IsPart vs word p → vs ≡ headed word inner ∷ ys → p.members ≡ inner
inside vs word p inner ys part e = search (rules, behind_head)

-- the members are a part and the members behind it
pub joined : (vs : List Value) (word : List ℕ) (p : TakenPart) (inner ys : List Value) → IsPart vs word p → p.members ≡ inner → p.rest ≡ ys → vs ≡ headed word inner ∷ ys
joined vs word p inner ys part m r = part.parts ∙ rw (part.written, m, r) refl

-- the parts that are read from the members behind the head are those of the value
pub lifted : (v : Value) (ms : List Value) (r : Option Parts) → v ≡ headed (codes "case") ms
    → MatchOption r ((p : spec.Parts) → ms ≢ part_values p) (λ p. (parts : spec.Parts) × ArePartsOf ms p parts)
    → MatchOption r ((p : spec.Parts) → v ≢ case_value p) (λ p. (parts : spec.Parts) × (v ≡ case_value parts) × ArePartsOf (part_values parts) p parts)
lifted v ms None e h = λ p k. h p (behind_head (codes "case") ms (part_values p) (sym e ∙ k))
lifted v ms (Some p) e h = search rules

-- ---- the policy

-- one member that is no list with the head `policy` states no policy
pub no_policy : (ms : List Value) (v : Value) → ms ≡ v ∷ [] → ((rest : List Value) → v ≢ headed (codes "policy") rest)
    → (policy : Policy) → ms ≢ policy_values policy
no_policy ms v e unlike Open h = let k : v ∷ [] ≡ [] = sym e ∙ h in cc
no_policy ms v e unlike Strict h =
    let k : v ∷ [] ≡ headed (codes "policy") (plain (codes "strict") ∷ []) ∷ [] = sym e ∙ h in
    unlike (plain (codes "strict") ∷ []) (ap (first_or v) k)

-- one list with the head `policy` that has anything but the word `strict` behind it states no policy
pub other_policy : (ms : List Value) (v : Value) (inner : List Value) → ms ≡ v ∷ [] → v ≡ headed (codes "policy") inner
    → inner ≢ plain (codes "strict") ∷ [] → (policy : Policy) → ms ≢ policy_values policy
other_policy ms v inner e w unlike Open h = let k : v ∷ [] ≡ [] = sym e ∙ h in cc
other_policy ms v inner e w unlike Strict h =
    let k : v ∷ [] ≡ headed (codes "policy") (plain (codes "strict") ∷ []) ∷ [] = sym e ∙ h in
    unlike (behind_head (codes "policy") inner (plain (codes "strict") ∷ []) (sym w ∙ ap (first_or v) k))
