use Rattle.spki_tag.proofs.tag.Tag.meet_within.Given as goal

abbrev pub ghosts-meet_with_new_count : goal.ghosts-meet_with_new_count
ghosts-meet_with_new_count a = record { name = a.blank.name; parts = a.blank.parts }
