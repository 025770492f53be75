use Rattle.std.proofs.Common.{◌≡◌, ℕ, ◌<◌, ◌+◌}
use Rattle.spki_service.specs.GuardQuestions.{IsMarked}
use Rattle.spki_service.proofs.marks.first_unmarked_counted.Given as goal

-- each so far has a mark
abbrev pub invariant-loop-place : goal.invariant-loop-place
invariant-loop-place g l = record {
  marked : (other : ℕ) → other < l.place → IsMarked l.marks other;
  cost : l.ticks ≡ l.fn.ticks + l.place;
}
