use Rattle.std.proofs.Common.{[], ◌∷◌, ◌++◌, ◌∙◌, ap, append_assoc}
use Rattle.sexpr_text.{specs.AdvancedForm.{printed_string}, proofs.{Converted.{behind_first}, Printed.{in_two}}}
use Rattle.sexpr_text.proofs.canonical_printer.print_hinted.Goals as goal

pub returns : goal.returns
returns g c hint octets behind e =
    let (head, tail) = c.split_verbatim.ensures hint _ e in
    let (printed, rest) = c.print_verbatim.ensures octets behind (behind_first _ 93 _ tail) in (
      in_two g.S.Sink.takes g.met.S.Sink.both _ c.print_hint.ensures.printed printed
          (ap (λ h. 91 ∷ ((printed_string h ++ 93 ∷ []) ++ printed_string octets)) head
          ∙ ap (λ s. 91 ∷ s) (append_assoc (printed_string hint) (93 ∷ []) (printed_string octets))),
      rest,
    )
