use Rattle.spki_tag.proofs.TagReading.{normal-of}
use Rattle.spki_tag.proofs.laws.normal_form.Goals as goal

pub returns : goal.returns
returns c = normal-of
