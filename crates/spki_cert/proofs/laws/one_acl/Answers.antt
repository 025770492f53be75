use Rattle.spki_cert.proofs.OneReading.{acl-one}
use Rattle.spki_cert.proofs.laws.one_acl.Goals as goal

pub returns : goal.returns
returns c = acl-one
