use Rattle.spki_guard.proofs.refusals.print_question_fault.Goals as goal

pub returns-in-Key : goal.returns-in-Key
returns-in-Key g c = rw c.in-Key.is (rw c.kind_name.ensures at c.print_refused-in-Key.ensures)

pub returns-in-Request : goal.returns-in-Request
returns-in-Request g c = rw c.in-Request.is (rw c.tag_kind.ensures at c.print_refused-in-Request.ensures)
