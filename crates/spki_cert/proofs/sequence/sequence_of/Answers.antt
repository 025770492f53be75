use Rattle.std.proofs.Common.{rules}
use Rattle.spki_cert.proofs.SequenceFaultLaws.{sequence-items}
use Rattle.spki_cert.proofs.sequence.sequence_of.Goals as goal

pub returns-in-Some-clause-named : goal.returns-in-Some-clause-named
returns-in-Some-clause-named c = search (rules, sequence-items)

pub returns-in-Some-clause-faultless : goal.returns-in-Some-clause-faultless
returns-in-Some-clause-faultless c = search (rules, sequence-items)
