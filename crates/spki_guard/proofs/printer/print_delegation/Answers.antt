use Rattle.spki_guard.proofs.PrintedFives.{delegation_whole}
use Rattle.spki_guard.proofs.printer.print_delegation.Goals as goal

pub returns-then-propagate : goal.returns-then-propagate
returns-then-propagate g c =
    rw (c.if-propagate.true, ← delegation_whole) c.put.ensures
