use Rattle.std.proofs.Common.{[], ◌∷◌, ◌++◌, length, ap, append_assoc, arith, rules}
use Rattle.sexpr_text.proofs.Converted.{opens_list, opens_hint, opens_plain, value_shortens, member_next, member_printed, printed_end}
use Rattle.sexpr_text.proofs.Printed.{in_two, in_three}
use Rattle.sexpr_text.proofs.canonical_printer.+printing.Goals as goal

pub print_first-returns-in_default : goal.print_first-returns-in_default
print_first-returns-in_default g t c v behind e = let short = value_shortens _ v behind e in absurd (omega (arith, short, c.in_default.ensures.cases))

pub print_first-print_members-requires : goal.print_first-print_members-requires
print_first-print_members-requires g t c κs within = search (rules, opens_list)

pub print_first-print_hinted-requires : goal.print_first-print_hinted-requires
print_first-print_hinted-requires g t c = search (rules, opens_hint)

pub print_first-print_verbatim-requires : goal.print_first-print_verbatim-requires
print_first-print_verbatim-requires g t c =
    let (v, behind, e) = c.requires in
    let (octets, is, whole) = opens_plain _ _ _ v behind c.in-Some.ensures.cases.0 (search rules) (search rules) e in
    (octets, behind, whole)

pub print_first-returns-in-40 : goal.print_first-returns-in-40
print_first-returns-in-40 g t c v behind e = search (rules, opens_list)

pub print_first-returns-in-91 : goal.print_first-returns-in-91
print_first-returns-in-91 g t c v behind e = search (rules, opens_hint)

pub print_first-returns-in_default-first : goal.print_first-returns-in_default-first
print_first-returns-in_default-first g t c v behind e =
    let (octets, is, whole) = opens_plain _ _ _ v behind c.in-Some.ensures.cases.0 (search rules) (search rules) e in
    rw is (c.print_verbatim.ensures octets behind whole)

pub print_members-returns-then-octet-eq41 : goal.print_members-returns-then-octet-eq41
print_members-returns-then-octet-eq41 g t c vs behind e =
    let h = c.loop-octet.invariant.1 vs behind e in
    let (tail, front) = printed_end _ vs behind _ _ _ _ c.in-Some.ensures.cases.0 h c.if-octet-eq41.true in
    (in_two g.S.Sink.takes g.met.S.Sink.both _ h.printed c.put_octet-then-octet-eq41.ensures (ap (λ f. 40 ∷ (f ++ 41 ∷ [])) front), tail)

pub print_members-print_first-rest-requires : goal.print_members-print_first-rest-requires
print_members-print_first-rest-requires g t c κs within =
    let (vs, behind, e) = c.requires in
    let h = c.loop-octet.invariant.1 vs behind e in
    let (v, us, is, rest) = member_next _ vs behind _ _ _ _ c.in-Some.ensures.cases.0 h c.if-octet-eq41.false in
    (search rules, (within, (v, _, rest)))

pub print_members-loop-octet-smaller : goal.print_members-loop-octet-smaller
print_members-loop-octet-smaller g t c =
    let (vs, behind, e) = c.requires in
    let h = c.loop-octet.invariant.1 vs behind e in
    let (v, us, is, rest) = member_next _ vs behind _ _ _ _ c.in-Some.ensures.cases.0 h c.if-octet-eq41.false in
    let short = value_shortens _ v _ rest in
    let left = (c.print_first-rest.ensures v _ rest).1 in
    omega (arith, short, ap length left)

pub print_members-loop-octet-preserved : goal.print_members-loop-octet-preserved
print_members-loop-octet-preserved g t c =
    let (ws, after, f) = c.requires in
    let (w, os, one, whole) = member_next _ ws after _ _ _ _ c.in-Some.ensures.cases.0 (c.loop-octet.invariant.1 ws after f) c.if-octet-eq41.false in
    let short = value_shortens _ w _ whole in
    let left = (c.print_first-rest.ensures w _ whole).1 in (
      omega (arith, short, ap length left, c.loop-octet.invariant.0),
      λ vs behind e.
          let h = c.loop-octet.invariant.1 vs behind e in
          let (v, us, is, rest) = member_next _ vs behind _ _ _ _ c.in-Some.ensures.cases.0 h c.if-octet-eq41.false in
          let (printed, tail) = c.print_first-rest.ensures v _ rest in
          member_printed _ _ vs us v behind _ _ _ h is tail
          (in_three g.S.Sink.takes g.met.S.Sink.both _ h.printed c.print_gap.ensures printed (ap (λ s. 40 ∷ s) (append_assoc h.front _ _))),
    )
