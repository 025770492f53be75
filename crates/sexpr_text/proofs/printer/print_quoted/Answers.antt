use Rattle.std.proofs.{Common.{[], ◌∷◌, ◌++◌, ap}, lemmas.List.{take_all}}
use Rattle.sexpr_text.{specs.AdvancedForm.{quoted_body}, proofs.Printed.{quoted_one, in_two, in_three}}
use Rattle.sexpr_text.proofs.printer.print_quoted.Goals as goal

pub loop-octet-preserved : goal.loop-octet-preserved
loop-octet-preserved g c =
    in_two g.S.Sink.takes g.met.S.Sink.both _ c.loop-octet.invariant c.print_quoted_octet.ensures
    (quoted_one _ _ 0 c.loop-octet-test.true)

pub returns : goal.returns
returns g c =
    in_three g.S.Sink.takes g.met.S.Sink.both _ c.put_octet.ensures c.loop-octet.invariant c.put_octet-2.ensures
    (ap (λ s. 34 ∷ (quoted_body s ++ 34 ∷ [])) (take_all _ _ c.loop-octet-test.false))
