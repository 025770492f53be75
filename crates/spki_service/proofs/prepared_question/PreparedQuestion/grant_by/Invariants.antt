use Rattle.spki_service.proofs.prepared_question.PreparedQuestion.grant_by.Given as goal

abbrev pub ghosts-grant_by_with_new_count : goal.ghosts-grant_by_with_new_count
ghosts-grant_by_with_new_count a = record { name = a.blank.name; parts = a.blank.parts }
