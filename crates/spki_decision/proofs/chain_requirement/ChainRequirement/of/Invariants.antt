use Rattle.spki_decision.proofs.chain_requirement.ChainRequirement.of.Given as goal

abbrev pub ghosts-of_with_new_count : goal.ghosts-of_with_new_count
ghosts-of_with_new_count a = record { name = a.blank.name; parts = a.blank.parts }
