use Rattle.std.proofs.Common.{rules}
use Rattle.spki_tag.proofs.Members.{nodes_le-of_read}
use Rattle.spki_tag.proofs.+write.Goals as goal

pub writer::push_each-write-requires : goal.writer::push_each-write-requires
writer::push_each-write-requires t c = search (rules, nodes_le-of_read)
