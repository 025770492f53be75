use Rattle.sexpr_core.proofs.writer.+append_decimal.Given as goal

abbrev pub decreases-append_decimal : goal.decreases-append_decimal
decreases-append_decimal l = l.number
