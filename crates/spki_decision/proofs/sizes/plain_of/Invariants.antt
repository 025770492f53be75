use Rattle.std.proofs.Common.{take}
use Rattle.spki_reduce.specs.Chain.{tuples_of}
use Rattle.spki_decision.specs.Requirements.{ArePlain}
use Rattle.spki_decision.proofs.sizes.plain_of.Given as goal

-- the nodes of the steps so far
abbrev pub invariant-loop-step : goal.invariant-loop-step
invariant-loop-step l = ArePlain (tuples_of (take l.step-index l.steps)) l.plain
