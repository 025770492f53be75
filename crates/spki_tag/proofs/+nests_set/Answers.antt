use Rattle.std.proofs.Common.{rules}
use Rattle.spki_tag.proofs.Members.{nodes_le-of_read}
use Rattle.spki_tag.proofs.+nests_set.Goals as goal

pub sets::some_nests_set-nests_set-requires : goal.sets::some_nests_set-nests_set-requires
sets::some_nests_set-nests_set-requires t c = search (rules, nodes_le-of_read)
