use Rattle.spki_c.proofs.opening.open_boxed.Goals as goal

pub returns-in-Ok-clause-opened : goal.returns-in-Ok-clause-opened
returns-in-Ok-clause-opened c =
    (c.in_ok-opened.opened, c.in-Ok.ensures, c.in_ok-opened.ensures.opened, c.in_ok-opened.ensures.unmarked)
