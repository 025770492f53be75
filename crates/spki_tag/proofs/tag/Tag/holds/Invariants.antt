use Rattle.spki_tag.proofs.tag.Tag.holds.Given as goal

abbrev pub ghosts-holds_with_new_count : goal.ghosts-holds_with_new_count
ghosts-holds_with_new_count a = record { name = a.blank.name; parts = a.blank.parts }
