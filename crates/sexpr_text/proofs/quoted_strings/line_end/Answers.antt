use Rattle.std.proofs.Common.{◌+◌}
use Rattle.sexpr_text.proofs.StringLaws.{line_end_pair, line_end_alone, starts_seen, starts_ended}
use Rattle.sexpr_text.proofs.quoted_strings.line_end.Goals.{in-Some+else-octet-second, in_default}
use Rattle.sexpr_text.proofs.quoted_strings.line_end.Goals as goal

pub returns-then-octet-second : goal.returns-then-octet-second
returns-then-octet-second c = line_end_pair _ _ _ _ c.requires c.in-Some.ensures c.if-octet-second.true

pub returns : goal.returns
returns c =
    elim c.match-octet_at.branch [
      | in-Some+else-octet-second w ↦ line_end_alone _ _ _ c.requires (starts_seen _ _ _ _ w.in-Some.ensures w.if-octet-second.false)
      | in_default w ↦ line_end_alone _ _ _ c.requires (starts_ended c.args.text.now (c.args.at + 1) c.args.second w.in_default.ensures)
    ]
