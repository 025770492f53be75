use Rattle.std.proofs.Common.{sym, ◌∙◌}
use Rattle.sexpr_core.specs.Value.{sexp_value}
use Rattle.test_callers.proofs.SameValues.{is_text}
use Rattle.test_callers.proofs.texts.same_value.Goals as goal

pub returns-clause-same : goal.returns-clause-same
returns-clause-same c v w is_v is_w =
    let text = c.args.text.now in
    let other = c.args.other.now in
    let x = sexp_value c.in_ok-tree.tree in
    let y = sexp_value c.in_ok-second.second in
    let first = c.one_value.ensures text v x is_v (is_text text x c.in_ok-tree.ensures.read) in
    let second = c.one_value.ensures other w y is_w (is_text other y c.in_ok-second.ensures.read) in (
      λ same. first ∙ c.eq.ensures.meaning.0 same ∙ sym second,
      λ same. c.eq.ensures.meaning.1 (sym first ∙ same ∙ second),
    )
