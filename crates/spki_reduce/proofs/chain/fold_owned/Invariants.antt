use Rattle.spki_reduce.proofs.chain.fold_owned.Given as goal

abbrev pub ghosts-fold_with_new_count : goal.ghosts-fold_with_new_count
ghosts-fold_with_new_count a = record { name = a.blank.name; parts = a.blank.parts }
