use Rattle.sexpr_text.proofs.StringLaws.{nothing_plain, more_plain}
use Rattle.sexpr_text.proofs.quoted_strings.plain_end.Goals as goal

pub loop-octet-init : goal.loop-octet-init
loop-octet-init c = (_, nothing_plain _ _ c.requires)

pub loop-octet-preserved : goal.loop-octet-preserved
loop-octet-preserved c = (_, more_plain _ _ _ _ _ c.loop-octet.invariant.1 c.in-Some.ensures c.if-octet-eq34.false c.if-octet-eq92.false)
