use Rattle.std.proofs.Common.{sym, subst, arith}
use Rattle.sexpr_core.{specs.Reading.{AreSpaces}, proofs.Errors.{err_kept}}
use Rattle.sexpr_text.proofs.{WholeTexts.{trailing_refused, value_refused, whole_at}, Trees.{same_value}}
use Rattle.sexpr_text.proofs.converter.convert_advanced.Goals as goal

pub returns-in_err-end-clause-only : goal.returns-in_err-end-clause-only
returns-in_err-end-clause-only c = λ v w.
    err_kept _ _ _ c.from_residual.ensures.1 (c.in_err-end.ensures.only v w.spelling.after (whole_at _ _ v c.skip_spaces-begin.ensures w))

pub returns-in_err-end-clause-refused : goal.returns-in_err-end-clause-refused
returns-in_err-end-clause-refused c =
    err_kept _ _ _ c.from_residual.ensures.1
    (value_refused _ _ _ c.skip_spaces-begin.ensures c.in_err-end.ensures.refused c.in_err-end.ensures.begun c.in_err-end.ensures.only
    (λ v w. c.in_err-end.ensures.only v w.spelling.after (whole_at _ _ v c.skip_spaces-begin.ensures w)))

pub returns-in_err-ended-clause-only : goal.returns-in_err-ended-clause-only
returns-in_err-ended-clause-only c = λ v w.
    let same = same_value 64 64 _ _ _ _ v w.spelling.after c.in_ok-end.ensures.read.1 (whole_at _ _ v c.skip_spaces-begin.ensures w) in
    err_kept _ _ _ c.from_residual-in_err-ended.ensures.1 (c.in_err-ended.ensures.only (subst AreSpaces (sym same.1) w.spelling.spaces_after))

pub returns-in_err-ended-clause-refused : goal.returns-in_err-ended-clause-refused
returns-in_err-ended-clause-refused c =
    err_kept _ _ _ c.from_residual-in_err-ended.ensures.1
    (trailing_refused _ _ _ _ _ (omega arith) c.skip_spaces-begin.ensures c.in_ok-end.ensures.read.1 c.in_err-ended.ensures.refused)
