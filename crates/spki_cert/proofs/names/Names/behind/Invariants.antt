-- In reverse, `front` is the last `done` names of `others`, and then the names that it had. Nothing else changes.
use Rattle.std.proofs.Common.{◌≡◌, ◌++◌, ◌-◌, length, drop, reverse}
use Rattle.spki_cert.proofs.names.Names.behind.Given as goal

abbrev pub invariant-loop-done : goal.invariant-loop-done
invariant-loop-done l = (reverse l.front.items ≡ drop (length l.fn.others - l.done) l.fn.others ++ reverse l.initial.front.items) × (l.read ≡ l.initial.read)
