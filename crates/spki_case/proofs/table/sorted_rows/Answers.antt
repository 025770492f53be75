use Rattle.std.proofs.Common.{◌≡◌, ◌∙◌, ◌∷◌, [], ap, sym, refl, map, take, rules}
use Rattle.std.proofs.lemmas.List.{take_more, take_all, map-append, Sorted.{IsPermutation-map, list_any-IsPermutation}}
use Rattle.spki_case.specs.Lookups.{SortedRow, row_of, sorted_row}
use Rattle.spki_case.proofs.table.sorted_rows.Goals as goal

-- the rows so far, and one more
pub loop-row-preserved : goal.loop-row-preserved
loop-row-preserved c =
    let rows = c.args.rows.now in
    let old = c.loop-row.sorted.items in
    let i = c.loop-row.row-index in
    let x = c.row-item.result in
    let y : SortedRow = (c.as_slice.result, c.as_slice-in-loop-row.result, c.as_slice-in-loop-row-2.result) in
    let one : row_of x ≡ sorted_row y = rw (c.as_slice.ensures, c.as_slice-in-loop-row.ensures, c.as_slice-in-loop-row-2.ensures) refl in
    ap (map row_of) (rw (← c.row-item.is) at (take_more rows i x c.loop-row-test.true))
    ∙ map-append row_of (take i rows) (x ∷ [])
    ∙ rw (c.loop-row.invariant, one) (sym (map-append sorted_row old (y ∷ [])))
    ∙ ap (map sorted_row) (sym c.in_ok-push.ensures.items)

-- sorting moves the rows, and changes none
pub returns : goal.returns
returns c = search (rules, take_all, list_any-IsPermutation, IsPermutation-map)
