use Rattle.spki_service.proofs.prepared_question.PreparedQuestion.explain.Given as goal

abbrev pub ghosts-explained_with_new_count : goal.ghosts-explained_with_new_count
ghosts-explained_with_new_count g a = record { name = a.blank.name; parts = a.blank.parts }
