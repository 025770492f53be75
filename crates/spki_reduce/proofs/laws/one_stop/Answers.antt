use Rattle.spki_reduce.{specs.Chain.{tuples_of}, proofs.Through.{steps_tagged}}
use Rattle.spki_reduce.proofs.Through as through
use Rattle.spki_reduce.proofs.laws.one_stop.Goals as goal

pub returns-clause-stop : goal.returns-clause-stop
returns-clause-stop c policy first steps s t a b h k = through.one_stop policy first (tuples_of steps) (steps_tagged steps) s t a b h k

pub returns-clause-nothing : goal.returns-clause-nothing
returns-clause-nothing c policy first steps s cause h f folds has_met =
    through.becomes_nothing policy first (tuples_of steps) (steps_tagged steps) s cause h f folds has_met
