use Rattle.std.proofs.Common.{ap, length, refl, arith, rules}
use Rattle.sexpr_core.specs.Value.{values}
use Rattle.spki_tag.proofs.TagReading.{weight}
use Rattle.spki_service.{specs.Questions.{strings_all}, proofs.PartTexts.{none_left, first_weight, rest_weight}}
use Rattle.spki_service.proofs.counts.+subtract_strings.Goals as goal

pub subtract_strings-subtract_member_strings-requires : goal.subtract_strings-subtract_member_strings-requires
subtract_strings-subtract_member_strings-requires t c = (omega (arith, c.decreases, ap weight c.in-List.ensures), tt)

pub subtract_member_strings-loop-first-init : goal.subtract_member_strings-loop-first-init
subtract_member_strings-loop-first-init t c = (refl, omega arith)

pub subtract_member_strings-subtract_strings-requires : goal.subtract_member_strings-subtract_strings-requires
subtract_member_strings-subtract_strings-requires t c =
    (omega (arith, c.decreases, first_weight c.args.members c.loop-first.rest c.in-Some.others c.in-Some.first c.loop-first.invariant.1 c.in-Some.ensures), tt)

pub subtract_member_strings-returns-in_err-left : goal.subtract_member_strings-returns-in_err-left
subtract_member_strings-returns-in_err-left t c = search (rules, none_left)

pub subtract_member_strings-loop-first-smaller : goal.subtract_member_strings-loop-first-smaller
subtract_member_strings-loop-first-smaller t c = omega (arith, ap length c.in-Some.ensures)

pub subtract_member_strings-loop-first-preserved : goal.subtract_member_strings-loop-first-preserved
subtract_member_strings-loop-first-preserved t c = search (rules, rest_weight)

pub subtract_member_strings-returns : goal.subtract_member_strings-returns
subtract_member_strings-returns t c = omega (arith, c.loop-first.invariant.0, ap (λ r. strings_all (values r)) c.in_default.ensures)
