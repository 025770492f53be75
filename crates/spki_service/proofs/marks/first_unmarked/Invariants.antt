use Rattle.spki_service.proofs.marks.first_unmarked.Given as goal

abbrev pub ghosts-first_unmarked_with_new_count : goal.ghosts-first_unmarked_with_new_count
ghosts-first_unmarked_with_new_count a = record { name = a.blank.name; parts = a.blank.parts }
