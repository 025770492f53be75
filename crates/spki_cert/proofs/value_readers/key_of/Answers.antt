use Rattle.std.proofs.Common.{◌∷◌, []}
use Rattle.spki_cert.proofs.value_readers.key_of.Goals as goal

pub returns-in_default-clause-refused : goal.returns-in_default-clause-refused
returns-in_default-clause-refused c = λ k read. c.in_default.ensures (read.body ∷ []) read.written
