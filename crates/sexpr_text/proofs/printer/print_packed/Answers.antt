use Rattle.std.proofs.Common.{[], ◌∷◌, ◌++◌, ap, refl}
use Rattle.sexpr_text.proofs.Printed.{packed_one, in_two, in_three}
use Rattle.sexpr_text.proofs.printer.print_packed.Goals as goal

pub loop-rest-init : goal.loop-rest-init
loop-rest-init g c = ([], g.met.S.Sink.nothing _, refl)

pub loop-rest-preserved : goal.loop-rest-preserved
loop-rest-preserved g c =
    let (packed, t, e) = c.loop-rest.invariant in (
      packed ++ _,
      g.met.S.Sink.both _ _ _ _ _ t c.print_piece.ensures,
      packed_one 384 c.loop-rest.rest.now _ _ packed _ refl c.split_at.ensures.front c.split_at.ensures.back c.split_at.ensures.front_len e,
    )

pub returns : goal.returns
returns g c =
    let (packed, t, e) = c.loop-rest.invariant in
    in_two g.S.Sink.takes g.met.S.Sink.both _
    (in_three g.S.Sink.takes g.met.S.Sink.both _ c.put_octet.ensures t c.print_piece-2.ensures refl) c.put_octet-2.ensures
    (ap (λ s. 124 ∷ (s ++ 124 ∷ [])) e)
