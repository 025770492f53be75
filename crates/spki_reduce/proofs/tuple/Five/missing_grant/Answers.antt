use Rattle.std.proofs.{Common.{Some, None, rules}, lemmas.Bool.{both_ways}}
use Rattle.spki_reduce.specs.declared.last_tests.MissingGrant.TheVariants.{NotTheKey, TagLacks, WindowLacks}
use Rattle.spki_reduce.proofs.ReducedForms.{is_for, is_for_back, supported}
use Rattle.spki_reduce.proofs.tuple.Five.missing_grant.Goals as goal

pub returns-then-not-is_for-clause-supported : goal.returns-then-not-is_for-clause-supported
returns-then-not-is_for-clause-supported c first others folds own =
    supported _ _ _ _ _ first others folds (Some NotTheKey) own (search (rules, is_for, is_for_back, both_ways))

pub returns-then-not-holds-clause-supported : goal.returns-then-not-holds-clause-supported
returns-then-not-holds-clause-supported c first others folds own =
    supported _ _ _ _ _ first others folds (Some TagLacks) own (search (rules, is_for, is_for_back, both_ways))

pub returns-then-not-holds-2-clause-supported : goal.returns-then-not-holds-2-clause-supported
returns-then-not-holds-2-clause-supported c first others folds own =
    supported _ _ _ _ _ first others folds (Some WindowLacks) own (search (rules, is_for, is_for_back, both_ways))

pub returns-else-not-holds-2-clause-supported : goal.returns-else-not-holds-2-clause-supported
returns-else-not-holds-2-clause-supported c first others folds own =
    supported _ _ _ _ _ first others folds None own (search (rules, is_for, is_for_back, both_ways))
