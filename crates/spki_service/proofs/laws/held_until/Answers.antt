use Rattle.spki_service.proofs.AnswerLaws.{held_marked, held_marked_seconds}
use Rattle.spki_service.proofs.laws.held_until.Goals as goal

pub returns-clause-dates : goal.returns-clause-dates
returns-clause-dates c = held_marked

pub returns-clause-seconds : goal.returns-clause-seconds
returns-clause-seconds c = held_marked_seconds
