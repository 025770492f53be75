use Rattle.std.proofs.Common.{◌≡◌}
use Rattle.spki_case.proofs.digests.digested_items.Given as goal

abbrev pub invariant-loop-index : goal.invariant-loop-index
invariant-loop-index l = l.items.items ≡ l.fn.items.items
