use Rattle.std.{proofs.Common.{◌≡◌, ◌+◌, ◌++◌, List, map, length}, specs.List.{AllZip}}
use Rattle.spki_tag.specs.Faults.{first_fault}
use Rattle.spki_cert.specs.StructureFaults.{each_looked}
use Rattle.spki_case.specs.{Case.{Row, RowOf, row_fault, rows_fault}, View.{row_of}}
use Rattle.spki_case.proofs.rows.read_rows.Given as goal

-- the rows of the rest come behind the rows so far, and the first fault is that of the rest
abbrev pub invariant-loop-member : goal.invariant-loop-member
invariant-loop-member l = ((rows : List Row) → AllZip RowOf l.rest rows → AllZip RowOf l.fn.members (map row_of l.rows.items ++ rows))
    × (rows_fault l.fn.members ≡ first_fault (each_looked row_fault (length l.rows.items + 1) l.rest))

abbrev pub decreases-loop-member : goal.decreases-loop-member
decreases-loop-member l = length l.rest
