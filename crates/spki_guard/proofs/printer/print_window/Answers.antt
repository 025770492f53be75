use Rattle.std.proofs.Common.{◌≢◌, [], sym, codes, rules}
use Rattle.sexpr_text.proofs.Printed.{in_two, in_three}
use Rattle.spki_reduce.specs.Written.{limit_values, window_limits}
use Rattle.spki_guard.proofs.{PrintedTags.{spaced_append}, PrintedFives.{window_whole, limits_from, limits_to}}
use Rattle.spki_guard.proofs.printer.print_window.Goals.{else-is_none-via-then-is_none+else-is_none-2, else-is_none-via-else-is_none}
use Rattle.spki_guard.proofs.printer.print_window.Goals as goal

pub returns : goal.returns
returns g c =
    let takes = g.S.Sink.takes in
    let both = g.met.S.Sink.both in
    let window = c.args.window.now in
    let some : window_limits window ≢ [] =
    elim c.else-is_none.branch [
      | else-is_none-via-then-is_none+else-is_none-2 w ↦ limits_to window (search rules)
      | else-is_none-via-else-is_none w ↦ limits_from window (search rules)
    ] in
    let from = limit_values (codes "not-before") window.not_before in
    let to = limit_values (codes "not-after") window.not_after in
    let limits = in_two takes both _ c.print_date.ensures c.print_date-2.ensures (sym (spaced_append from to)) in
    in_three takes both _ c.put.ensures limits c.put_octet.ensures (window_whole (window_limits window) some)
