use Rattle.spki_service.proofs.OneAsking.{case-one, unrefused, fault-one}
use Rattle.spki_service.proofs.laws.one_asking.Goals as goal

pub returns-clause-case : goal.returns-clause-case
returns-clause-case c = case-one

pub returns-clause-unrefused : goal.returns-clause-unrefused
returns-clause-unrefused c = unrefused

pub returns-clause-fault : goal.returns-clause-fault
returns-clause-fault c = fault-one
