use Rattle.std.proofs.Common.{◌≡◌, take}
use Rattle.spki_service.specs.AccessLists.{rows_from}
use Rattle.spki_service.proofs.index.rows_of.Given as goal

abbrev pub invariant-loop-index : goal.invariant-loop-index
invariant-loop-index l = l.rows.items ≡ rows_from 1 l.alg (take l.index l.owners)
