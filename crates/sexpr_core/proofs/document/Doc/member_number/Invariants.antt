use Rattle.std.proofs.Common.{◌≡◌}
use Rattle.sexpr_core.specs.Nodes.{node_at, member_number}
use Rattle.sexpr_core.proofs.document.Doc.member_number.Given as goal

abbrev pub invariant-loop : goal.invariant-loop
invariant-loop l = l.number ≡ member_number l.n l.counter (node_at l.self l.n)
