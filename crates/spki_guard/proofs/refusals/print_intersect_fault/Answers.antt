use Rattle.spki_guard.proofs.refusals.print_intersect_fault.Goals as goal

pub returns-in-First : goal.returns-in-First
returns-in-First g c = rw c.in-First.is (rw c.tag_kind.ensures at c.print_refused_item.ensures)

pub returns-in-Second : goal.returns-in-Second
returns-in-Second g c = rw c.in-Second.is (rw c.tag_kind-in-Second.ensures at c.print_refused_item-in-Second.ensures)
