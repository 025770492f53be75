use Rattle.std.proofs.{Common.{[], ◌∷◌, rules}, lemmas.Result.{IfErr-weaker}}
use Rattle.sexpr_text.proofs.{RefusedParts.{piece_refused, letter_refused}, StringEnds.{nothing_left, letter_goes, octet_end}}
use Rattle.sexpr_text.proofs.quoted_strings.read_escape.Goals as goal

pub returns-in-120-clause-refused : goal.returns-in-120-clause-refused
returns-in-120-clause-refused c =
    IfErr-weaker c.read_hexadecimal_escape.result _ _ (λ fault h. piece_refused (92 ∷ []) _ _ _ 120 fault c.in-Some.ensures c.in-120.is h) c.read_hexadecimal_escape.ensures.refused

pub returns-in_default-octet-clause-refused : goal.returns-in_default-octet-clause-refused
returns-in_default-octet-clause-refused c = search (rules, IfErr-weaker, letter_refused)

pub returns-in_default-clause-begun : goal.returns-in_default-clause-begun
returns-in_default-clause-begun c = nothing_left _ _ _ letter_goes c.requires c.in_default.ensures

pub returns-in-120-clause-begun : goal.returns-in-120-clause-begun
returns-in-120-clause-begun c =
    IfErr-weaker c.read_hexadecimal_escape.result _ _ (λ fault h. octet_end (92 ∷ []) _ _ _ 120 fault c.in-Some.ensures c.in-120.is h) c.read_hexadecimal_escape.ensures.begun
