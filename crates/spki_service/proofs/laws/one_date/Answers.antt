use Rattle.spki_service.proofs.DateLaws.{no_date, one_date}
use Rattle.spki_service.proofs.laws.one_date.Goals as goal

pub returns-clause-one : goal.returns-clause-one
returns-clause-one c = one_date

pub returns-clause-none : goal.returns-clause-none
returns-clause-none c = no_date
