use Rattle.std.proofs.Common.{◌≡◌, take}
use Rattle.spki_case.specs.Case.{keys_of}
use Rattle.spki_decision.proofs.named_key.keys_of.Given as goal

abbrev pub invariant-loop-item : goal.invariant-loop-item
invariant-loop-item l = l.keys.items ≡ keys_of (take l.item-index l.sequence)
