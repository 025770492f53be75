use Rattle.spki_decision.proofs.chain_requirement.ChainRequirement.grants.Given as goal

abbrev pub ghosts-grants_with_new_count : goal.ghosts-grants_with_new_count
ghosts-grants_with_new_count a = record { name = a.blank.name; parts = a.blank.parts }
