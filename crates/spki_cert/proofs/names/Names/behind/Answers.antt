use Rattle.std.proofs.Common.{◌≡◌, ℕ, List, [], ◌∷◌, ◌++◌, suc, drop, reverse, slice_get, Some, ap, sym, ◌∙◌, drop-cons, rules}
use Rattle.std.proofs.lemmas.{List.{reverse-append}, Option.{get_or_from_slice_get, slice_get_within}}
use Rattle.spki_cert.proofs.names.Names.behind.Goals as goal

-- one more name is put in front: in reverse, `front` is then the names of `others` from index k on, and those before
one-more : (others before front : List (List ℕ)) (name : List ℕ) (k n : ℕ) → n ≡ suc k → slice_get others k ≡ Some name
    → reverse front ≡ drop n others ++ before → reverse (front ++ name ∷ []) ≡ drop k others ++ before
one-more others before front name k n count here so =
    let behind = drop-cons others k name (slice_get_within others k name here) ∙ ap (λ (y : List ℕ). y ∷ drop (suc k) others) (get_or_from_slice_get others k name name here) in
    reverse-append front (name ∷ []) ∙ ap (λ (xs : List (List ℕ)). name ∷ xs) (so ∙ ap (λ (i : ℕ). drop i others ++ before) count)
    ∙ ap (λ (xs : List (List ℕ)). xs ++ before) (sym behind)

pub loop-done-preserved : goal.loop-done-preserved
loop-done-preserved c = search (rules, one-more)
