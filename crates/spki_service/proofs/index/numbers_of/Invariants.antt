use Rattle.std.proofs.Common.{◌≡◌, map, take}
use Rattle.spki_service.specs.AccessLists.{row_number}
use Rattle.spki_service.proofs.index.numbers_of.Given as goal

abbrev pub invariant-loop-row : goal.invariant-loop-row
invariant-loop-row l = l.numbers.items ≡ map row_number (take l.row-index l.rows)
