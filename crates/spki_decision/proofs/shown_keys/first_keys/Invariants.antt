use Rattle.std.proofs.Common.{take}
use Rattle.spki_decision.specs.Judged.{HasFirstKeys}
use Rattle.spki_decision.proofs.shown_keys.first_keys.Given as goal

abbrev pub invariant-loop-key : goal.invariant-loop-key
invariant-loop-key l = HasFirstKeys l.alg (take l.key-index l.keys) l.first
