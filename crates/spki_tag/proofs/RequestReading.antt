-- Which request is written as a value, and which fault a reader of requests returns.
use Rattle.std.proofs.Common.{◌≡◌, ℕ, List, [], ◌∷◌, ◌++◌, map, refl, ap, append_assoc, ◌≤◌, rules, not, Option, Some, None, Result, Ok, Err, ◌∙◌}
use Rattle.std.proofs.lemmas.List.{map_push, map-append}
use Rattle.std.specs.{Prelude.{codes, IfOk}, List.{AllByRecursion}}
use Rattle.sexpr_core.specs.{Value.{Value, plain, values, group, Values}, Nodes.{members-values}}
use Rattle.spki_tag.specs.Request.{Request, Requests, requests, string, list, none, more, IsRequest, AreRequests, request_value, request_values, IsHead}
use Rattle.spki_tag.specs.{Reading.{AreReadRequests, fault_of_requests}, declared.fault.TagFault.{TagFault}}
use Rattle.spki_tag.specs.Faults.{first_fault, unless, IsNamed, part_fault, group_fault, request_fault}
use Rattle.spki_tag.proofs.{TagReading.{weight, weights, weight_le-weights}, FaultWalk.{first-none, first-some, head-apart, both}}
use Rattle.spki_tag.proofs.Named.{named-by, named_first, out_of_memory, passed}
use Rattle.sexpr_core.specs.Value as value
use Rattle.spki_tag.specs.declared.fault.TagFault.TheVariants as faults

-- ---- a value is the written form of at most one request

mutual
  pub request_only : (g h : Request) → request_value h ≡ request_value g → h ≡ g
  request_only (string octets) (string s) e = ap string cc
  request_only (list head gs) (list other hs) e = search (rules, requests_only gs hs cc)
  request_only g h e = absurd cc

  pub requests_only : (gs hs : Requests) → request_values hs ≡ request_values gs → hs ≡ gs
  requests_only none none e = refl
  requests_only (more g gs) (more h hs) e = search (rules, request_only g h cc, requests_only gs hs cc)
  requests_only gs hs e = absurd cc

-- ---- the members of a list, one after the other

pub AreRequests-push : (gs : List Request) (g : Request) → AreRequests (requests gs) → IsRequest g
    → AreRequests (requests (gs ++ g ∷ []))
AreRequests-push [] g p q = (q, tt)
AreRequests-push (h ∷ gs) g p q = (p.0, AreRequests-push gs g p.1 q)

pub request_values-requests : (gs : List Request) → request_values (requests gs) ≡ values (map request_value gs)
request_values-requests [] = refl
request_values-requests (g ∷ gs) = ap (value.more (request_value g)) (request_values-requests gs)

-- ---- the loop over the members

-- the members so far were read as requests, and these are left
pub record AreReadSoFar (vs : List Value) (gs : List Request) (left : List Value) : Type 0 where
  pub written : AreRequests (requests gs)
  pub spelled : map request_value gs ++ left ≡ vs

pub so_far_push : (vs left further : List Value) (gs : List Request) (v : Value) (g : Request)
    → AreReadSoFar vs gs left → left ≡ v ∷ further → IsRequest g → request_value g ≡ v
    → AreReadSoFar vs (gs ++ g ∷ []) further
so_far_push vs left further gs v g so_far e k r = search (rules, AreRequests-push, map_push, append_assoc)

-- a member that is left is no larger than all members together
pub so_far_weight : (vs left further : List Value) (gs : List Request) (v : Value) → AreReadSoFar vs gs left
    → left ≡ v ∷ further → weight v ≤ weights (values vs)
so_far_weight vs left further gs v so_far e = search (rules, weight, weights, weight_le-weights)

-- the list of the members that were read
pub list_is_request : (head : List ℕ) (vs : List Value) (gs : List Request) → AreReadRequests vs gs
    → request_value (list head (requests gs)) ≡ group (plain head ∷ vs)
list_is_request head vs gs r = search (rules, request_values-requests)

-- ---- the fault of a value itself

-- a value is the first of its nodes
nodes-first : (v : Value) → (rest : List Value) × (value.nodes v ≡ v ∷ rest)
nodes-first (value.string hint octets) = ([], refl)
nodes-first (value.list vs) = (value.nodes_all vs, refl)

pub part-itself : (v : Value) (fault : TagFault) (f : Option TagFault) → part_fault v ≡ f → IsNamed fault f
    → IsNamed fault (request_fault v)
unfolding request_fault IsNamed
part-itself v fault f own = search (rules, named-by, nodes-first v)

pub group-itself : (us vs : List Value) (fault : TagFault) → us ≡ vs → IsNamed fault (group_fault vs)
    → IsNamed fault (request_fault (group us))
group-itself us vs fault e = part-itself (group us) fault (group_fault vs) (ap group_fault (members-values us ∙ e))

pub star-group : (vs : List Value) (v : Value) (us : List Value) → vs ≡ v ∷ us → v ≡ plain (codes "*")
    → group_fault vs ≡ Some faults.StarInRequest
star-group vs v us e h = ap group_fault (e ∙ ap (λ (x : Value). x ∷ us) h)

-- ---- lists

group-fine : (head : List ℕ) (vs : Values) → IsHead head → part_fault (value.list (value.more (plain head) vs)) ≡ None
group-fine head vs h = ap (λ b. unless (not b) faults.StarInRequest) (head-apart head h)

pub group-members : (head : List ℕ) (vs : List Value) (fault : TagFault) → IsHead head
    → IsNamed fault (fault_of_requests vs) → IsNamed fault (request_fault (group (plain head ∷ vs)))
unfolding request_fault fault_of_requests
group-members head vs fault h = search (rules, named-by, group-fine)

-- ---- a written request has no fault

abbrev pub IsFinePart : Value → Type 0
IsFinePart v = part_fault v ≡ None

mutual
  pub request-fine : (g : Request) → IsRequest g → AllByRecursion IsFinePart (value.nodes (request_value g))
  request-fine (string octets) h = (refl, tt)
  request-fine (list head further) h = (group-fine head (request_values further) h.1, (refl, requests-fine further h.2))

  pub requests-fine : (gs : Requests) → AreRequests gs → AllByRecursion IsFinePart (value.nodes_all (request_values gs))
  requests-fine none h = tt
  requests-fine (more g gs) h =
      both IsFinePart (value.nodes (request_value g)) (value.nodes_all (request_values gs)) (request-fine g h.0) (requests-fine gs h.1)

pub parts-fine : (vs : List Value) → AllByRecursion IsFinePart vs → first_fault (map part_fault vs) ≡ None
parts-fine [] h = refl
parts-fine (v ∷ vs) h = ap (λ (f : Option TagFault). first_fault (f ∷ map part_fault vs)) h.0 ∙ parts-fine vs h.1

-- ---- the members, one after the other

nodes_all-append : (us : List Value) (v : Value) (vs : List Value)
    → value.nodes_all (values (us ++ v ∷ vs)) ≡ value.nodes_all (values us) ++ (value.nodes v ++ value.nodes_all (values vs))
nodes_all-append [] v vs = refl
nodes_all-append (u ∷ us) v vs = search (rules, append_assoc, nodes_all-append us v vs)

part-found : (us : List Value) (v : Value) (vs : List Value) (fault : TagFault)
    → first_fault (map part_fault (value.nodes_all (values us))) ≡ None
    → first_fault (map part_fault (value.nodes v)) ≡ Some fault
    → first_fault (map part_fault (value.nodes_all (values (us ++ v ∷ vs)))) ≡ Some fault
part-found us v vs fault fine found = search (rules, nodes_all-append, map-append, first-none, first-some)

pub so_far-named : (fault : TagFault) (vs left further : List Value) (gs : List Request) (v : Value)
    → AreReadSoFar vs gs left → left ≡ v ∷ further → IsNamed fault (request_fault v) → IsNamed fault (fault_of_requests vs)
unfolding request_fault fault_of_requests IsNamed
so_far-named fault vs left further gs v so_far e = search (rules, named-by, part-found, parts-fine, requests-fine, request_values-requests)

-- ---- the whole value

pub request-faultless : (v : Value) (g : Request) → IsRequest g → request_value g ≡ v → request_fault v ≡ None
unfolding request_fault
request-faultless v g h e = search (rules, parts-fine, request-fine)

pub result_faultless : (r : Result Request TagFault) (v : Value) → IfOk r (λ g. IsRequest g)
    → IfOk r (λ g. request_value g ≡ v) → IfOk r (λ g. request_fault v ≡ None)
result_faultless (Ok g) v h e = request-faultless v g h e
result_faultless (Err fault) v h e = tt

-- ---- what the reader's proofs use

pub ruleset requests_read = (named_first, out_of_memory, passed, group-itself, star-group, group-members, part-itself)
