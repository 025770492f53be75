use Rattle.std.proofs.Common.{◌+◌, ◌-◌, ◌*◌, arith, rules}
use Rattle.sexpr_core.proofs.{Faults.{length_short}, Steps.{first_spelled, more_capped, more_spelled, later_bad}}
use Rattle.sexpr_core.proofs.parser.read_length.Goals as goal

pub loop-octet-init : goal.loop-octet-init
loop-octet-init c = search (rules, first_spelled)

pub returns-then-number-eq0 : goal.returns-then-number-eq0
returns-then-number-eq0 c = search (rules, later_bad)

pub loop-octet-preserved : goal.loop-octet-preserved
loop-octet-preserved c = record {
  written = c.loop-octet.invariant.written * 10 + (c.in-Some.octet - 48);
  capped = more_capped _ _ _ _ c.loop-octet.invariant.capped c.min-number.ensures;
  spelled = more_spelled _ _ _ _ _ (omega arith) (omega arith) (omega arith) c.in-Some.ensures c.loop-octet.invariant.spelled;
  within = omega (arith, c.in-Some.ensures.within);
}

pub returns : goal.returns
returns c = length_short _ _ _ c.loop-octet.invariant.spelled c.in_default.ensures
