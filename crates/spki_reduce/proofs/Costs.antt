-- What a step costs, as it is counted.
use Rattle.std.proofs.Common.{◌≡◌, ℕ, ◌+◌, ◌*◌, ◌<◌, ◌≤◌, ◌^◌, List, length, arith, inl, mul-le-mul_right, Option, Some, None, ◌∙◌, ap, sym, inr, refl, subst, false, Result, Ok, Err, IfErr}
use Rattle.std.specs.{Option.{SomeIff}, Result.{is_ok}}
use Rattle.spki_cert.specs.declared.{principal.Policy.{Policy}, window.Window.{Window}}
use Rattle.spki_reduce.specs.declared.{fold.Cause.{Cause}, tuple.{Step.{Step}, Five.{Five}, Four.{Four}}}
use Rattle.spki_reduce.specs.Reduction.{Tuple, FiveTuple, five, four, five_tuple, four_tuple, step_tuple}
use Rattle.spki_reduce.specs.Chain.{meet_costs, step_cost, IsNumber, Reaches, IsCostOf}
use Rattle.spki_tag.{specs.{Tag.{Tag, nodes}, Cost.{node_cost, meet_cost}}, proofs.MeetSizes.{nodes-some}}

module _ (tag : Tag) (next : Five) (path : List (List ℕ)) where
  -- the cost of one node of the tag
  abbrev each : ℕ
  each = 32 + node_cost next.tag

  pub cost_is : step_cost tag path (five (five_tuple next)) ≡ nodes tag * each + length next.subject.names
  unfolding step_cost meet_costs
  cost_is = omega arith

  pub costs_over : (limit : ℕ) → limit ≤ each → limit ≤ step_cost tag path (five (five_tuple next))
  costs_over limit h =
      let some : 1 * each ≤ nodes tag * each = mul-le-mul_right each (nodes-some tag) in
      omega (arith, cost_is, some, h)

  pub product_is : (one count : ℕ) → one ≡ each → count ≡ nodes tag
      → one * count + length next.subject.names ≡ step_cost tag path (five (five_tuple next))
  product_is one count e k =
      let turned : each * nodes tag ≡ nodes tag * each = omega arith in
      ap (λ (n : ℕ). n + length next.subject.names) ((λ i. e i * k i) ∙ turned) ∙ sym cost_is

pub resolution_is : (tag : Tag) (path : List (List ℕ)) (definition : Four)
    → step_cost tag path (four (four_tuple definition)) ≡ 1 + length path + length definition.subject.names
unfolding step_cost
resolution_is tag path definition = omega arith

-- a sum in a `usize` is the number, or None if the number is 2^64 or more
pub number_is : (r : Option ℕ) (n m : ℕ) → SomeIff r (n < 2 ^ 64) n → n ≡ m → IsNumber r m
number_is None n m h e = omega (arith, h, e)
number_is (Some x) n m h e = h.1 ∙ e

-- a step that does not join costs nothing
pub costs_nothing : (policy : Policy) (f : Five) (step other : Step) → step ≡ other → (Reaches policy (five_tuple f) (step_tuple other) → ⊥)
    → IsCostOf policy (five_tuple f) f.tag (step_tuple step) 0
costs_nothing policy f step other e none =
    inr (subst (λ (s : Step). Reaches policy (five_tuple f) (step_tuple s) → ⊥) (sym e) none, refl)

-- if `joined_window` returns no window, the two do not join
pub unjoined : (r : Result Window Cause) (Q R : Cause → Type 0) (J : Type 0) → is_ok r ≡ false
    → IfErr r (λ cause. Q cause × R cause × (J → ⊥)) → J → ⊥
unjoined (Ok window) Q R J e h = absurd cc
unjoined (Err cause) Q R J e h = h.2

-- what a step costs that joins, and that does not
pub costs_step : (policy : Policy) (left : FiveTuple) (tag : Tag) (right : Tuple) (n : ℕ) → Reaches policy left right
    → IsCostOf policy left tag right n → n ≡ step_cost tag left.names right
costs_step policy left tag right n joins (inl h) = h.1
costs_step policy left tag right n joins (inr h) = absurd (h.0 joins)

-- a step that joins costs something
pub cost-some : (tag : Tag) (path : List (List ℕ)) (next : Five) → 0 < step_cost tag path (five (five_tuple next))
cost-some tag path next = omega (arith, costs_over tag next path 1 (omega arith))

-- what it costs to join an authorization with the next one
pub joined-cost : (policy : Policy) (f next : Five) (n : ℕ) → Reaches policy (five_tuple f) (five (five_tuple next))
    → IsCostOf policy (five_tuple f) f.tag (five (five_tuple next)) n
    → (meet_cost f.tag next.tag + length next.subject.names ≤ n) × (0 < n)
joined-cost policy f next n joins h =
    let is : n ≡ step_cost f.tag f.subject.names (five (five_tuple next)) =
    costs_step policy (five_tuple f) f.tag (five (five_tuple next)) n joins h in
    (omega (arith, is, cost_is f.tag next f.subject.names), omega (arith, is, cost-some f.tag f.subject.names next))

-- the ticks of joining it, before the names of the next subject are counted, and after
pub met_ticks : (cost names n old met : ℕ) → cost + names ≤ n → met ≤ old + 3 * cost → met ≤ old + 3 * n
met_ticks cost names n old met within few = omega arith

pub next_ticks : (cost names n old met count new : ℕ) → cost + names ≤ n → met ≤ old + 3 * cost → new ≡ met + count → count ≡ names
    → new ≤ old + 3 * n
next_ticks cost names n old met count new within few is counted = omega arith

pub next_grows : (old met count new names : ℕ) → old < met → new ≡ met + count → count ≡ names → old + names < new
next_grows old met count new names some is counted = omega arith

-- what it costs to resolve an authorization's first name by a definition
pub resolved-cost : (policy : Policy) (f : Five) (definition : Four) (n : ℕ) → Reaches policy (five_tuple f) (four (four_tuple definition))
    → IsCostOf policy (five_tuple f) f.tag (four (four_tuple definition)) n
    → n ≡ 1 + length f.subject.names + length definition.subject.names
resolved-cost policy f definition n joins h =
    costs_step policy (five_tuple f) f.tag (four (four_tuple definition)) n joins h ∙ resolution_is f.tag f.subject.names definition
