use Rattle.std.proofs.Common.{ap, ◌∙◌, length, arith}
use Rattle.sexpr_core.{specs.Nodes.{members_of, members-values}, proofs.NodeLaws.{members_none}}
use Rattle.sexpr_core.proofs.handle.Node.has_part.Goals as goal

pub returns-in-Some : goal.returns-in-Some
returns-in-Some c = rw (ap members_of c.in-Some.ensures ∙ members-values _) c.is_longer_than.ensures

pub returns-in-None : goal.returns-in-None
returns-in-None c =
    let none = members_none c.args.self.now c.in-None.ensures in
    (λ h. cc, λ lt. absurd (omega (arith, lt, ap length none)))
