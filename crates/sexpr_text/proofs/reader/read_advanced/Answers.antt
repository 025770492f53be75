use Rattle.std.proofs.Common.{sym, subst, arith}
use Rattle.sexpr_core.{specs.Reading.{AreSpaces}, proofs.Errors.{err_kept}}
use Rattle.sexpr_text.proofs.{WholeTexts.{trailing_refused, value_refused, whole_at}, Trees.{same_value}}
use Rattle.sexpr_text.proofs.reader.read_advanced.Goals as goal

pub returns-in_err-tree-clause-only : goal.returns-in_err-tree-clause-only
returns-in_err-tree-clause-only c = λ v w.
    err_kept _ _ _ c.from_residual.ensures.1 (c.in_err-tree.ensures.only v w.spelling.after (whole_at _ _ v c.skip_spaces-begin.ensures w))

pub returns-in_err-tree-clause-refused : goal.returns-in_err-tree-clause-refused
returns-in_err-tree-clause-refused c =
    err_kept _ _ _ c.from_residual.ensures.1
    (value_refused _ _ _ c.skip_spaces-begin.ensures c.in_err-tree.ensures.refused c.in_err-tree.ensures.begun c.in_err-tree.ensures.only
    (λ v w. c.in_err-tree.ensures.only v w.spelling.after (whole_at _ _ v c.skip_spaces-begin.ensures w)))

pub returns-in_err-ended-clause-only : goal.returns-in_err-ended-clause-only
returns-in_err-ended-clause-only c = λ v w.
    let same = same_value 64 64 _ _ _ _ v w.spelling.after c.in_ok-tree.ensures.read (whole_at _ _ v c.skip_spaces-begin.ensures w) in
    err_kept _ _ _ c.from_residual-in_err-ended.ensures.1 (c.in_err-ended.ensures.only (subst AreSpaces (sym same.1) w.spelling.spaces_after))

pub returns-in_err-ended-clause-refused : goal.returns-in_err-ended-clause-refused
returns-in_err-ended-clause-refused c =
    err_kept _ _ _ c.from_residual-in_err-ended.ensures.1
    (trailing_refused _ _ _ _ _ (omega arith) c.skip_spaces-begin.ensures c.in_ok-tree.ensures.read c.in_err-ended.ensures.refused)
