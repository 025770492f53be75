use Rattle.std.proofs.Common.{sym, refl}
use Rattle.sexpr_text.proofs.StringLaws.{token_first, token_more}
use Rattle.sexpr_text.proofs.strings.token_end.Goals as goal

pub loop-octet-init : goal.loop-octet-init
loop-octet-init c = (_, token_first _ _ _ _ c.requires.begins c.requires.other c.requires.token refl)

pub loop-octet-preserved : goal.loop-octet-preserved
loop-octet-preserved c =
    let r = c.loop-octet.invariant in
    (_, token_more _ _ _ _ r.0 _ r.1 c.in-Some.ensures (sym c.if-not-is_token_octet.ensures) refl)
