use Rattle.std.{proofs.Common.{refl}, specs.Prelude.{[], ◌∷◌, codes}}
use Rattle.spki_tag.specs.Tag.{tag_value}
use Rattle.spki_reduce.specs.Written.{headed, delegation_values, in_valid, window_limits}
use Rattle.sexpr_text.proofs.Printed.{in_three}
use Rattle.spki_guard.proofs.PrintedFives.{five_whole}
use Rattle.spki_guard.proofs.printer.print_five.Goals as goal

pub returns : goal.returns
returns g c =
    let takes = g.S.Sink.takes in
    let both = g.met.S.Sink.both in
    let five = c.args.five.now in
    let (issuer, issuer_is, issuer_printed) = c.print_issuer.ensures in
    let (subject, subject_is, subject_printed) = c.print_subject.ensures in
    let front = in_three takes both _ c.put.ensures issuer_printed subject_printed refl in
    let tag = in_three takes both _ front c.print_delegation.ensures c.print_tag_part.ensures refl in (
      _,
      record { issuer = issuer; issuer_is = issuer_is; subject = subject; subject_is = subject_is; written = refl },
      in_three takes both _ tag c.print_window.ensures c.put_octet.ensures
          (five_whole issuer (headed (codes "subject") (subject ∷ []) ∷ []) (delegation_values five.propagate) (in_valid (window_limits five.window))
          (headed (codes "tag") (tag_value five.tag ∷ []))),
    )
