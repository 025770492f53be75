use Rattle.std.proofs.Common.{◌≡◌, ◌∷◌, [], ◌++◌, ℕ, List, ap, ◌∙◌, append_assoc, rules}
use Rattle.spki_cert.proofs.SubjectFaultLaws.{plains-push}
use Rattle.spki_cert.proofs.principal_reader.names_behind.Goals as goal

-- one more name after those that were read
more-names : (all before seen : List (List ℕ)) (name : List ℕ) → all ≡ before ++ seen → all ++ name ∷ [] ≡ before ++ (seen ++ name ∷ [])
more-names all before seen name e = ap (λ (xs : List (List ℕ)). xs ++ name ∷ []) e ∙ append_assoc before seen (name ∷ [])

pub loop-name-preserved : goal.loop-name-preserved
loop-name-preserved c = search (rules, more-names, append_assoc, plains-push)
