use Rattle.std.proofs.Common.{◌≡◌, ◌++◌, ◌+◌, ◌≤◌, take, drop}
use Rattle.spki_cert.specs.Cost.{names_weight}
use Rattle.spki_decision.proofs.required_subject.names_after.Given as goal

-- the names begin with those in front, up to the place
abbrev pub invariant-loop-place : goal.invariant-loop-place
invariant-loop-place g l = record {
  begun : l.fn.names ≡ take l.place l.front ++ l.rest;
  cost : l.ticks + names_weight (drop l.place l.front) ≡ l.fn.ticks + names_weight l.front;
  grows : l.fn.ticks ≤ l.ticks;
}
