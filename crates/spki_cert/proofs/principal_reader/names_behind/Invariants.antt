use Rattle.std.proofs.Common.{◌≡◌, ◌++◌, ℕ, List, length}
use Rattle.spki_cert.specs.Fields.{plains}
use Rattle.spki_cert.proofs.principal_reader.names_behind.Given as goal

abbrev pub invariant-loop-name : goal.invariant-loop-name
invariant-loop-name l = (seen : List (List ℕ)) × (l.all.items ≡ l.fn.names.items ++ seen) × (l.fn.members ≡ plains seen ++ l.rest)

abbrev pub decreases-loop-name : goal.decreases-loop-name
decreases-loop-name l = length l.rest
