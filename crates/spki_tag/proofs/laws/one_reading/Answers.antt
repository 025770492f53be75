use Rattle.spki_tag.proofs.TagReading.{reading-one}
use Rattle.spki_tag.proofs.laws.one_reading.Goals as goal

pub returns : goal.returns
returns c = reading-one
