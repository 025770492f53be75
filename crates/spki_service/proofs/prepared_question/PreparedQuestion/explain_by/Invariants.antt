use Rattle.spki_service.proofs.prepared_question.PreparedQuestion.explain_by.Given as goal

abbrev pub ghosts-explain_by_with_new_count : goal.ghosts-explain_by_with_new_count
ghosts-explain_by_with_new_count a = record { name = a.blank.name; parts = a.blank.parts }
