use Rattle.std.proofs.Common.{◌≡◌, ◌≤◌, take}
use Rattle.spki_reduce.specs.{Reduction.{nodes_product}, Chain.{tuples_of, all_tags}}
use Rattle.spki_decision.proofs.sizes.product_of.Given as goal

-- the product of the steps so far
abbrev pub invariant-loop-step : goal.invariant-loop-step
invariant-loop-step l = (l.product ≡ nodes_product (all_tags (tuples_of (take l.step-index l.steps)))) × (l.product ≤ 1000000)
