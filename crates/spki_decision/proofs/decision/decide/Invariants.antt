use Rattle.spki_decision.proofs.decision.decide.Given as goal

abbrev pub ghosts-first_granting : goal.ghosts-first_granting
ghosts-first_granting g a = record { name = a.blank.name; parts = a.blank.parts }
