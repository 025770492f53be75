use Rattle.std.proofs.{Common.{[], ◌∷◌, ◌∙◌, append_assoc, append-nil, length-append, rules}, lemmas.List.{map-append}}
use Rattle.spki_case.{specs.{Case.{rows_fault}, View.{row_of}}, proofs.RowFaults.{row-none}}
use Rattle.spki_case.proofs.rows.read_rows.Goals as goal

pub loop-member-init : goal.loop-member-init
unfolding rows_fault
loop-member-init c = search rules

pub loop-member-preserved : goal.loop-member-preserved
loop-member-preserved c =
    let fine = (row-none c.in-Some.member).1 (row_of c.in-Ok.row, c.in-Ok.ensures.row) in (
      λ rows zip.
          rw (c.in-Ok-push.ensures.items, map-append, append_assoc) (c.loop-member.invariant.0 (row_of c.in-Ok.row ∷ rows) (rw c.in-Some.ensures (c.in-Ok.ensures.row, zip))),
      c.loop-member.invariant.1 ∙ rw (c.in-Some.ensures, fine, c.in-Ok-push.ensures.items, length-append),
    )

pub returns-clause-rows : goal.returns-clause-rows
returns-clause-rows c = rw append-nil at (c.loop-member.invariant.0 [] (rw c.in_default.ensures tt))
