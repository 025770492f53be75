use Rattle.std.proofs.Common.{◌≡◌, ◌+◌, length}
use Rattle.sexpr_core.proofs.siblings.Members.is_longer_than.Given as goal

abbrev pub invariant-loop : goal.invariant-loop
invariant-loop l = l.counter + length l.rest ≡ length l.fn.self
