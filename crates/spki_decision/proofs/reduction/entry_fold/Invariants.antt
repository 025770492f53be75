use Rattle.spki_decision.proofs.reduction.entry_fold.Given as goal

abbrev pub ghosts-entry_fold_with_new_count : goal.ghosts-entry_fold_with_new_count
ghosts-entry_fold_with_new_count a = record { name = a.blank.name; parts = a.blank.parts }
