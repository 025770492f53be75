-- Lists with a head: when two are equal, and what is tested in a list of a known form.
use Rattle.std.proofs.Common.{◌≡◌, ℕ, List, [], ◌∷◌, ◌++◌, refl, sym, ap, ◌∙◌, append_assoc, Bool, true, false, None, rules, Option, Some, Result, Ok, Err, subst}
use Rattle.std.proofs.lemmas.{Bool.{false_from_ne_true}, Slice.Eq.{bytes_eq-Decides}}
use Rattle.std.specs.{Prelude.{IfErr, not, ◌↔◌}, Result.{IsErrAnd}}
use Rattle.sexpr_core.specs.{Value.{IsNotHeaded, Value, plain, group, members, IsNoString, IsNoList}, Nodes.{members-values, values-members}}
use Rattle.spki_cert.specs.{Fields.{is_headed, behind_head, Sole}, FieldFaults.{head_of, unless_none, sole_fault, is_plain}}
use Rattle.spki_tag.specs.Faults.{first_fault, unless}
use Rattle.sexpr_core.specs.Value as sexpr

-- ---- equal lists have equal members, and lists with different heads differ

abbrev members_in : Value → List Value
members_in (sexpr.string hint octets) = []
members_in (sexpr.list vs) = members vs

pub group-injective : (vs ws : List Value) → group vs ≡ group ws → vs ≡ ws
group-injective vs ws e = sym (members-values vs) ∙ ap members_in e ∙ members-values ws

-- what follows the head and the next member
pub same_rest : (v : Value) (word : List ℕ) (s t : Value) (vs ws : List Value) → v ≡ group (plain word ∷ s ∷ vs) → v ≡ group (plain word ∷ t ∷ ws) → vs ≡ ws
same_rest v word s t vs ws e f = search (rules, group-injective (plain word ∷ s ∷ vs) (plain word ∷ t ∷ ws) (sym e ∙ f))

-- the next member
pub same_second : (v : Value) (word : List ℕ) (s t : Value) (vs ws : List Value) → v ≡ group (plain word ∷ s ∷ vs) → v ≡ group (plain word ∷ t ∷ ws) → s ≡ t
same_second v word s t vs ws e f = search (rules, group-injective (plain word ∷ s ∷ vs) (plain word ∷ t ∷ ws) (sym e ∙ f))

-- what follows the head
pub same_others : (v : Value) (word : List ℕ) (vs ws : List Value) → v ≡ group (plain word ∷ vs) → v ≡ group (plain word ∷ ws) → vs ≡ ws
same_others v word vs ws e f = search (rules, group-injective (plain word ∷ vs) (plain word ∷ ws) (sym e ∙ f))

-- a value with this head does not equal a value with another head
pub other-head : (word : List ℕ) (v w : Value) → v ≡ w → is_headed word v ≡ true → is_headed word w ≡ false → ⊥
other-head word v w e here other = absurd (let f : true ≡ false = sym here ∙ ap (is_headed word) e ∙ other in cc)

-- no value has this head and another one
pub apart : (word : List ℕ) (v u w : Value) → v ≡ u → v ≡ w → is_headed word u ≡ true → is_headed word w ≡ false → ⊥
apart word v u w e f here other = absurd (let g : true ≡ false = sym here ∙ ap (is_headed word) (sym e ∙ f) ∙ other in cc)

-- what follows a list's head
pub behind-group : (v head : Value) (rest : List Value) → v ≡ group (head ∷ rest) → behind_head v ≡ rest
behind-group v head rest e = ap behind_head e ∙ members-values rest

-- a list has one head
pub head-same : (v : Value) (head word : List ℕ) (rest : List Value) → v ≡ group (plain head ∷ rest) → is_headed word v ≡ true → head ≡ word
head-same v head word rest e f = (bytes_eq-Decides head word).0 (ap (is_headed word) (sym e) ∙ f)

-- a list is headed by its head
pub headed-by : (v : Value) (head : List ℕ) (rest : List Value) → v ≡ group (plain head ∷ rest) → is_headed head v ≡ true
headed-by v head rest e = ap (is_headed head) e ∙ (bytes_eq-Decides head head).1 refl

-- a value with one head does not have another one
pub headed-else : (word other : List ℕ) (v : Value) (rest : List Value) → v ≡ group (plain word ∷ rest) → is_headed other (group (plain word ∷ rest)) ≡ false
    → is_headed other v ≡ false
headed-else word other v rest e f = ap (is_headed other) e ∙ f

-- ---- a walk over members

-- the index of a member among all
pub split : (all seen rest others : List Value) (v : Value) → all ≡ seen ++ rest → rest ≡ v ∷ others → all ≡ seen ++ v ∷ others
split all seen rest others v e f = e ∙ ap (λ (vs : List Value). seen ++ vs) f

-- one more member was passed
pub moved : (all seen others : List Value) (v : Value) → all ≡ seen ++ v ∷ others → all ≡ (seen ++ v ∷ []) ++ others
moved all seen others v e = e ∙ sym (append_assoc seen (v ∷ []) others)

-- ---- heads

-- a list is its head and what follows it
pub head-group : (v : Value) (head : List ℕ) → head_of v ≡ Some head → v ≡ group (plain head ∷ behind_head v)
head-group (sexpr.list (sexpr.more (sexpr.string None word) others)) head e = cc (values-members others)
head-group v head e = absurd (cc)

pub is-group : (word : List ℕ) (v : Value) → is_headed word v ≡ true → v ≡ group (plain word ∷ behind_head v)
is-group word (sexpr.list (sexpr.more (sexpr.string None head) others)) e =
    let same : head ≡ word = (bytes_eq-Decides head word).0 e in cc (values-members others)
is-group word v e = absurd (cc)

-- a value that is no list has no head
pub headless-list : (v : Value) → IsNoList v → head_of v ≡ None
headless-list (sexpr.string hint octets) other = refl
headless-list (sexpr.list vs) other = absurd (other (members vs) (ap sexpr.list (sym (values-members vs))))

-- the test for this head is false for a value without it
pub not-headed : (word : List ℕ) (v : Value) → IsNotHeaded v word → is_headed word v ≡ false
not-headed word v other = false_from_ne_true (is_headed word v) (λ e. other (behind_head v) (is-group word v e))

-- ---- what is tested in a value of a known form

-- a test of a list's head and of what follows it
pub of-form : {X : Type 0} (F : Bool → List Value → X) (word : List ℕ) (v : Value) (rest : List Value) → v ≡ group (plain word ∷ rest)
    → F (is_headed word v) (behind_head v) ≡ F true rest
of-form F word v rest e = λ i. F (headed-by v word rest e i) (behind-group v (plain word) rest e i)

-- the first fault of a value without this head is that of the head
pub of-no_form : {A : Type 0} (word : List ℕ) (v : Value) (fault : A) (looked : List (Option A)) → IsNotHeaded v word
    → first_fault (unless (is_headed word v) fault ∷ looked) ≡ Some fault
of-no_form word v fault looked other = ap (λ (b : Bool). first_fault (unless b fault ∷ looked)) (not-headed word v other)

-- a string that passes a test
pub plain-passes : (passes : List ℕ → Bool) (v : Value) → is_plain passes v ≡ true → (octets : List ℕ) × (v ≡ plain octets) × (passes octets ≡ true)
plain-passes passes (sexpr.string None octets) e = (octets, refl, e)
plain-passes passes v e = absurd (cc)

pub no-plain : (passes : List ℕ → Bool) (v : Value) → IsNoString v → is_plain passes v ≡ false
no-plain passes (sexpr.string None octets) other = absurd (other octets refl)
no-plain passes v other = refl

-- ---- lists of tests

pub one-look : {A : Type 0} (found : Option A) → first_fault (found ∷ []) ≡ found
one-look None = refl
one-look (Some fault) = refl

-- the first fault of some tests, and then that of the tests after them
pub first-of : {A : Type 0} (looks more : List (Option A)) → first_fault (looks ++ more) ≡ first_fault (first_fault looks ∷ more)
first-of (None ∷ looks) more = first-of looks more
first-of looks more = refl

-- if no test finds a fault, neither the first nor those after it do
pub none-found : {A : Type 0} (look : Option A) (looks : List (Option A)) → first_fault (look ∷ looks) ≡ None → (look ≡ None) × (first_fault looks ≡ None)
none-found None looks e = (refl, e)
none-found (Some fault) looks e = absurd (cc)

pub unless-none : {A : Type 0} (b : Bool) (fault : A) → unless b fault ≡ None → b ≡ true
unless-none true fault e = refl
unless-none false fault e = absurd (cc)

-- if no test finds a fault, the first of which tests the head, the value has this head
pub behind-none : {A : Type 0} (word : List ℕ) (v : Value) (fault : A) (looks : List (Option A)) → first_fault (unless (is_headed word v) fault ∷ looks) ≡ None
    → (v ≡ group (plain word ∷ behind_head v)) × (first_fault looks ≡ None)
behind-none word v fault looks e =
    let found = none-found (unless (is_headed word v) fault) looks e in (is-group word v (unless-none (is_headed word v) fault found.0), found.1)

pub unless_not-none : {A : Type 0} (b : Bool) (fault : A) → unless (not b) fault ≡ None → b ≡ false
unless_not-none true fault e = absurd (cc)
unless_not-none false fault e = refl

-- ---- one value and nothing after it

pub none-some : {A : Type 0} (vs : List Value) (fault : A) → (vs ≡ [] → ⊥) → unless_none vs fault ≡ Some fault
none-some [] fault some = absurd (some refl)
none-some (v ∷ vs) fault some = refl

pub sole-found : {A : Type 0} (other : A) (fault_of : Value → Option A) (vs more : List Value) (v : Value) (found : Option A) → vs ≡ v ∷ more → fault_of v ≡ found
    → sole_fault other fault_of vs ≡ first_fault (found ∷ unless_none more other ∷ [])
sole-found {A = A} other fault_of vs more v found e f = ap (sole_fault other fault_of) e ∙ ap (λ (x : Option A). first_fault (x ∷ unless_none more other ∷ [])) f

pub sole-one : {A : Type 0} (other : A) (fault_of : Value → Option A) (vs more : List Value) (v : Value) → vs ≡ v ∷ more → fault_of v ≡ None → more ≡ []
    → sole_fault other fault_of vs ≡ None
sole-one other fault_of vs more v e f g = sole-found other fault_of vs more v None e f ∙ ap (λ (ws : List Value). first_fault (unless_none ws other ∷ [])) g

pub sole-read : {A : Type 0} (other : A) (fault_of : Value → Option A) (vs : List Value) → sole_fault other fault_of vs ≡ None
    → (v : Value) × (vs ≡ v ∷ []) × (fault_of v ≡ None)
sole-read other fault_of (v ∷ []) e = (v, refl, (none-found (fault_of v) (None ∷ []) e).0)
sole-read other fault_of vs e = absurd (search (rules, none-found))

-- ---- values that are read as something

-- the value is read as something
abbrev pub Reads : {V A : Type 0} → (V → A → Type 0) → V → Type 0
Reads {A = A} R v = (a : A) × R v a

-- one value and nothing after it has no fault exactly if that value is read as something
pub sole-none : {A B : Type 0} (other : A) (fault_of : Value → Option A) (R : Value → B → Type 0) → ((v : Value) → (fault_of v ≡ None) ↔ Reads R v)
    → (vs : List Value) → (sole_fault other fault_of vs ≡ None) ↔ Reads (Sole R) vs
sole-none other fault_of R none vs = (
  λ e. let one = sole-read other fault_of vs e in let read = (none one.0).0 one.2 in (read.0, (one.0, one.1, read.1)),
  λ some. sole-one other fault_of vs [] some.1.0 some.1.1 ((none some.1.0).1 (some.0, some.1.2)) refl,
)

-- ---- errors that are passed on

-- what holds of the error that a call returned holds of the error that is passed on
pub carried : {T E : Type 0} (r : Result T E) (e : E) (P : E → Type 0) → IsErrAnd r (λ x. x ≡ e) → P e → IfErr r P
carried (Ok t) e P h p = tt
carried (Err x) e P h p = subst P (sym h) p
