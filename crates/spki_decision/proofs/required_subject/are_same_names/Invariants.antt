use Rattle.std.proofs.Common.{◌≡◌, ◌+◌, ◌≤◌, length, take, drop}
use Rattle.spki_cert.specs.Cost.{names_weight}
use Rattle.spki_decision.proofs.required_subject.are_same_names.Given as goal

-- the names before the place are the same
abbrev pub invariant-loop-place : goal.invariant-loop-place
invariant-loop-place g l = record {
  many : length l.one ≡ length l.other;
  same : take l.place l.one ≡ take l.place l.other;
  cost : l.ticks + names_weight (drop l.place l.one) ≡ l.fn.ticks + names_weight l.one;
  grows : l.fn.ticks ≤ l.ticks;
}
