use Rattle.std.proofs.Common.{rules}
use Rattle.spki_case.proofs.Building.{no_policy, other_policy}
use Rattle.spki_case.proofs.parts.policy_in.Goals as goal

pub returns-in_err-strict : goal.returns-in_err-strict
returns-in_err-strict c = search (rules, no_policy)

pub returns-else-is_word : goal.returns-else-is_word
returns-else-is_word c = other_policy _ _ _ c.in_ok-only.ensures c.in_ok-strict.ensures (search rules)
