use Rattle.std.proofs.Common.{◌-◌, ◌≤◌, length}
use Rattle.spki_service.proofs.owned_signed.found_key.Given as goal

abbrev pub invariant-loop-low : goal.invariant-loop-low
invariant-loop-low l = (l.low ≤ l.high) × (l.high ≤ length l.fn.order)

abbrev pub decreases-loop-low : goal.decreases-loop-low
decreases-loop-low l = l.high - l.low
