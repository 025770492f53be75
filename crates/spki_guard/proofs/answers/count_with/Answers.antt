use Rattle.std.proofs.Common.{◌≡◌, ◌+◌, length, IfSome, rules}
use Rattle.spki_guard.proofs.ReportLines.{counted_once}
use Rattle.spki_guard.proofs.answers.count_with.Goals as goal

pub returns : goal.returns
returns c =
    let (octets, printed, counted) = c.print_answer.ensures in
    let sum : IfSome c.checked_add.result (λ n. n ≡ length octets + c.args.more) = search rules in
    counted_once c.args.answer.now octets c.args.more c.checked_add.result printed sum
