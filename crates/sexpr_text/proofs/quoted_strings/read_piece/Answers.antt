use Rattle.std.proofs.Common.{[]}
use Rattle.sexpr_text.proofs.{RefusedParts.{piece_refused}, StringEnds.{octet_end}}
use Rattle.sexpr_core.proofs.Errors.{err_kept}
use Rattle.sexpr_text.proofs.quoted_strings.read_piece.Goals as goal

pub returns-in_err-escape-clause-refused : goal.returns-in_err-escape-clause-refused
returns-in_err-escape-clause-refused c =
    err_kept _ _ _ c.from_residual-in_err-escape.ensures.1
    (piece_refused [] _ _ _ 92 _ c.requires.begins c.if-octet-ne92.false c.in_err-escape.ensures.refused)

pub returns-in_err-escape-clause-begun : goal.returns-in_err-escape-clause-begun
returns-in_err-escape-clause-begun c =
    err_kept _ _ _ c.from_residual-in_err-escape.ensures.1 (octet_end [] _ _ _ 92 _ c.requires.begins c.if-octet-ne92.false c.in_err-escape.ensures.begun)
