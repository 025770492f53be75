use Rattle.spki_cert.proofs.OneReading.{entry-one}
use Rattle.spki_cert.proofs.laws.one_entry.Goals as goal

pub returns : goal.returns
returns c = entry-one
