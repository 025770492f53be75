use Rattle.std.proofs.Common.{rules}
use Rattle.spki_tag.proofs.Named.{tags_read}
use Rattle.spki_tag.proofs.ranges.read_range.Goals as goal

pub returns-in_err-new-in-Some-clause-named : goal.returns-in_err-new-in-Some-clause-named
returns-in_err-new-in-Some-clause-named c = search (rules, tags_read)
