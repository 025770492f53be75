use Rattle.std.proofs.Common.{Err, ap, rules}
use Rattle.test_callers.proofs.Narrowed.{not_met}
use Rattle.test_callers.proofs.tags.narrowed.Goals as goal

pub returns-clause-refused : goal.returns-clause-refused
returns-clause-refused c =
    not_met c.args.own.now c.args.given.now c.in_ok-given.given c.in-Err.fault (search rules) (λ h. c.in-Err.ensures.too_large.0 (ap (λ e. Err e) h))
