use Rattle.spki_service.proofs.prepared_question.PreparedQuestion.reduce.Given as goal

abbrev pub ghosts-reduced_with_new_count : goal.ghosts-reduced_with_new_count
ghosts-reduced_with_new_count g a = record { name = a.blank.name; parts = a.blank.parts }
