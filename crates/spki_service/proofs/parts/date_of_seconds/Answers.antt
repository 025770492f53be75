use Rattle.std.proofs.Common.{w64, rules, to_z-of_z}
use Rattle.spki_service.proofs.parts.date_of_seconds.Goals as goal

pub returns-in-None : goal.returns-in-None
returns-in-None c = search (rules, w64, to_z-of_z)
