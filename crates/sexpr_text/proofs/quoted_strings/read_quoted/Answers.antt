use Rattle.std.proofs.Common.{rules}
use Rattle.sexpr_text.proofs.{StringLaws.{more_quoted, quoted_read, quoted_left, left_ended, left_next}, RefusedParts.{quoted_refused}}
use Rattle.sexpr_text.proofs.StringEnds.{quoted_end, quoted_short}
use Rattle.sexpr_core.proofs.Errors.{err_kept}
use Rattle.sexpr_text.proofs.quoted_strings.read_quoted.Goals as goal

pub returns-then-octet-eq34-clause-read : goal.returns-then-octet-eq34-clause-read
returns-then-octet-eq34-clause-read c = search (rules, quoted_read)

pub returns-in_err-i-clause-only : goal.returns-in_err-i-clause-only
returns-in_err-i-clause-only c = λ s a rest q e.
    err_kept _ _ _ c.from_residual.ensures.1
    (let l = quoted_left _ _ _ _ s a rest c.requires c.loop-octet.invariant q e in
    let k = left_next _ _ _ _ _ _ l c.in-Some.ensures c.if-octet-eq34.false in
    c.in_err-i.ensures.only k.0 k.1 k.2 k.3)

pub loop-octet-preserved : goal.loop-octet-preserved
loop-octet-preserved c = more_quoted _ _ _ _ _ _ c.loop-octet.invariant c.in_ok-i.ensures.read

pub returns-clause-only : goal.returns-clause-only
returns-clause-only c = λ s a rest q e.
    absurd (left_ended _ _ _ _ (quoted_left _ _ _ _ s a rest c.requires c.loop-octet.invariant q e) c.in_default.ensures)

pub returns-in_err-i-clause-refused : goal.returns-in_err-i-clause-refused
returns-in_err-i-clause-refused c =
    err_kept _ _ _ c.from_residual.ensures.1
    (quoted_refused _ _ _ _ _ _ c.requires c.loop-octet.invariant c.in-Some.ensures c.if-octet-eq34.false c.in_err-i.ensures.refused)

pub returns-in_err-i-clause-begun : goal.returns-in_err-i-clause-begun
returns-in_err-i-clause-begun c =
    err_kept _ _ _ c.from_residual.ensures.1 (quoted_end _ _ _ _ _ c.requires c.loop-octet.invariant c.in_err-i.ensures.begun)

pub returns-clause-begun : goal.returns-clause-begun
returns-clause-begun c = quoted_short _ _ _ _ c.requires c.loop-octet.invariant c.in_default.ensures
