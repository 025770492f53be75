use Rattle.std.proofs.Common.{subst}
use Rattle.sexpr_core.specs.Reading.{Skips}
use Rattle.sexpr_core.proofs.Spans.{nothing_gathered, more_gathered, no_body_octet, gathered_mark, gathered_end, body_stops, body_short, body_bad}
use Rattle.sexpr_core.proofs.braces.gather_symbols.Goals as goal

pub loop-octet-init : goal.loop-octet-init
loop-octet-init c = rw c.new-symbols.ensures.items (nothing_gathered _ _ c.requires.begins)

pub loop-octet-preserved : goal.loop-octet-preserved
loop-octet-preserved c =
    more_gathered _ _ _ _ _ _ _ c.loop-octet.invariant c.skip_symbols-end.ensures c.skip_spaces-next.ensures c.in_ok-extend_from_slice.ensures.items

pub returns-then-next-i-clause-only : goal.returns-then-next-i-clause-only
returns-then-next-i-clause-only c = λ body rest all e.
    absurd (c.if-octet-mark.false
    (gathered_mark _ _ _ _ _ _ body rest c.loop-octet.invariant c.in-Some.ensures (no_body_octet _ _ _ _ c.skip_symbols-end.ensures
    (subst (Skips c.args.text.now c.skip_symbols-end.result) c.if-next-i.true c.skip_spaces-next.ensures) c.in-Some.ensures) c.requires.apart all e))

pub returns-then-next-i-clause-refused : goal.returns-then-next-i-clause-refused
returns-then-next-i-clause-refused c =
    body_stops _ _ _ _ _ _ c.loop-octet.invariant c.in-Some.ensures c.if-octet-mark.false c.requires.apart
    (no_body_octet _ _ _ _ c.skip_symbols-end.ensures
    (subst (Skips c.args.text.now c.skip_symbols-end.result) c.if-next-i.true c.skip_spaces-next.ensures) c.in-Some.ensures)

pub returns-clause-only : goal.returns-clause-only
returns-clause-only c = λ body rest all e. absurd (gathered_end _ _ _ _ _ body rest c.loop-octet.invariant c.in_default.ensures c.requires.apart e)

pub returns-then-next-i-clause-begun : goal.returns-then-next-i-clause-begun
returns-then-next-i-clause-begun c =
    body_bad _ _ _ _ _ c.loop-octet.invariant c.in-Some.ensures
    (no_body_octet _ _ _ _ c.skip_symbols-end.ensures
    (subst (Skips c.args.text.now c.skip_symbols-end.result) c.if-next-i.true c.skip_spaces-next.ensures) c.in-Some.ensures)

pub returns-clause-begun : goal.returns-clause-begun
returns-clause-begun c = body_short _ _ _ _ c.loop-octet.invariant c.in_default.ensures
