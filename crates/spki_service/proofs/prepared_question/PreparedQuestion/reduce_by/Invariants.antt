use Rattle.spki_service.proofs.prepared_question.PreparedQuestion.reduce_by.Given as goal

abbrev pub ghosts-reduce_by_with_new_count : goal.ghosts-reduce_by_with_new_count
ghosts-reduce_by_with_new_count a = record { name = a.blank.name; parts = a.blank.parts }
