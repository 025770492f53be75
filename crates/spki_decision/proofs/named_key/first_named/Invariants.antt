use Rattle.std.proofs.Common.{◌≡◌, ℕ, ◌<◌, List, Some, slice_get, false}
use Rattle.spki_decision.specs.Judged.{Says}
use Rattle.spki_decision.proofs.named_key.first_named.Given as goal

-- `names` returned true for no key so far
abbrev pub invariant-loop-index : goal.invariant-loop-index
invariant-loop-index g l =
    (k : ℕ) (key : List ℕ) → k < l.index → slice_get l.keys k ≡ Some key → Says g.F.Fn l.names l.principal key false
