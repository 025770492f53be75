use Rattle.spki_service.proofs.SecondOrder.{seconds_in_order}
use Rattle.spki_service.proofs.laws.order_of_seconds.Goals as goal

pub returns : goal.returns
returns c = seconds_in_order
