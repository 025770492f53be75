use Rattle.std.proofs.Common.{rules}
use Rattle.spki_tag.proofs.Members.{nodes_le-of_read, lengths_differ, member_differs}
use Rattle.spki_tag.proofs.+same.Goals as goal

pub equality::all_same-returns-then-ones-others : goal.equality::all_same-returns-then-ones-others
equality::all_same-returns-then-ones-others t c = lengths_differ c.args.ones.now c.args.others.now c.if-ones-others.true

pub equality::all_same-same-requires : goal.equality::all_same-same-requires
equality::all_same-same-requires t c = search (rules, nodes_le-of_read)

pub equality::all_same-returns-then-not-same : goal.equality::all_same-returns-then-not-same
equality::all_same-returns-then-not-same t c = search (rules, member_differs)
