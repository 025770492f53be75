use Rattle.std.proofs.Common.{[], length, get_or, ap, ◌∙◌, arith}
use Rattle.sexpr_core.specs.{Value.{plain}, Nodes.{nodes-first}}
use Rattle.sexpr_core.proofs.document.Doc.top.Goals as goal

pub at-requires : goal.at-requires
at-requires c = omega (arith, ap length (nodes-first c.args.self.now))

pub returns : goal.returns
returns c = c.at.ensures ∙ ap (λ row. get_or row 0 (plain [])) (nodes-first c.args.self.now)
