-- The rows so far.
use Rattle.std.proofs.Common.{◌≡◌, map, take}
use Rattle.spki_case.specs.Lookups.{row_of, sorted_row}
use Rattle.spki_case.proofs.table.sorted_rows.Given as goal

abbrev pub invariant-loop-row : goal.invariant-loop-row
invariant-loop-row l = map row_of (take l.row-index l.rows) ≡ map sorted_row l.sorted.items
