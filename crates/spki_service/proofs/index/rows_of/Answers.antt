use Rattle.std.proofs.{Common.{◌≡◌, ◌+◌, ◌<◌, ◌∷◌, ◌++◌, [], length, take, refl, arith, length-take-le, rules}, lemmas.List.{take_more}}
use Rattle.spki_service.specs.{declared.index.Row.{Row}, AccessLists.{tail_of, octets_of}}
use Rattle.spki_service.proofs.{SortedRows.{rows_more}, index.rows_of.Goals.{then-is_by+in_ok-push, else-is_by}}
use Rattle.spki_service.proofs.index.rows_of.Goals as goal

-- one entry more
pub loop-index-preserved : goal.loop-index-preserved
loop-index-preserved c =
    let ps = c.args.owners.now in
    let index = c.loop-index.index in
    let p = c.index-owners-index.result in
    let within : index < length ps = c.loop-index-test.true in
    let counted : index + 1 ≡ 1 + length (take index ps) = omega (arith, length-take-le index ps (omega arith)) in
    let more : take (index + 1) ps ≡ take index ps ++ p ∷ [] = rw (← c.index-owners-index.is) at (take_more ps index p within) in
    let row : Row = record { tail = tail_of (octets_of p); number = index + 1 } in
    let longer = rows_more c.args.alg p 1 (take index ps) row refl counted in
    rw more (elim c.if-is_by.branch [
      | then-is_by+in_ok-push w ↦ search (rules, longer)
      | else-is_by w ↦ search (rules, longer)
    ])
