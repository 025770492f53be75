use Rattle.spki_cert.proofs.OneReading.{sequence-one}
use Rattle.spki_cert.proofs.laws.one_sequence.Goals as goal

pub returns : goal.returns
returns c = sequence-one
