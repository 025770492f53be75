use Rattle.std.proofs.Common.{refl}
use Rattle.spki_guard.proofs.printer.print_principal.Goals as goal

pub returns-in-Hash : goal.returns-in-Hash
returns-in-Hash g c = rw c.in-Hash.is (_, refl, rw c.as_slice.ensures at c.print_hash.ensures)
