use Rattle.spki_reduce.proofs.tuple.Five.into_resolve.Given as goal

abbrev pub ghosts-into_resolve_with_new_count : goal.ghosts-into_resolve_with_new_count
ghosts-into_resolve_with_new_count a = record { name = a.blank.name; parts = a.blank.parts }
