use Rattle.spki_service.proofs.prepared_question.PreparedQuestion.granted.Given as goal

abbrev pub ghosts-granted_with_new_count : goal.ghosts-granted_with_new_count
ghosts-granted_with_new_count a = record { name = a.blank.name; parts = a.blank.parts }
