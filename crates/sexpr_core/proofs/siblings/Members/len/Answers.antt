use Rattle.std.{proofs.Common.{inl, ◌-◌, arith}, specs.List.{slice_range}}
use Rattle.sexpr_core.{specs.Value.{nodes}, proofs.NodeLaws.{length-siblings-le}}
use Rattle.sexpr_core.proofs.siblings.Members.len.Goals as goal

pub count-requires-clause-fits : goal.count-requires-clause-fits
count-requires-clause-fits c =
    let from = c.self.inside.from in
    let to = c.self.inside.to in
    inl (omega (arith, length-siblings-le (to - from) (slice_range (nodes c.self.inside.document.now) from to)))
