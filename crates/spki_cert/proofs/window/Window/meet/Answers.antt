use Rattle.std.proofs.Common.{rules}
use Rattle.spki_cert.proofs.Order.{within-inner, some-overlaps, none-apart}
use Rattle.spki_cert.proofs.window.Window.meet.Goals as goal

pub returns-then-is_in_order-clause-moments : goal.returns-then-is_in_order-clause-moments
returns-then-is_in_order-clause-moments c = search (rules, within-inner)

pub returns-then-is_in_order-clause-some : goal.returns-then-is_in_order-clause-some
returns-then-is_in_order-clause-some c = search (rules, some-overlaps)

pub returns-else-is_in_order-clause-none : goal.returns-else-is_in_order-clause-none
returns-else-is_in_order-clause-none c = search (rules, none-apart)
