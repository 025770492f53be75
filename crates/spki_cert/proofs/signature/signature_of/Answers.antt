use Rattle.std.{proofs.Common.{◌≡◌, List, [], ◌∷◌, Some, None, refl, ap, ◌∙◌}, specs.Prelude.{codes}}
use Rattle.sexpr_core.specs.Value.{Value, plain, group}
use Rattle.spki_cert.specs.{declared.fault.CertFaultKind.TheVariants.{Shape}, FieldFaults.{hash_fault, principal_fault}}
use Rattle.spki_cert.specs.StructureFaults.{signature_fault}
use Rattle.spki_cert.proofs.signature.signature_of.Goals as goal

-- a member after the value of a signature
one_more : (v : Value) (members rest last more : List Value) (first second value : Value)
    → v ≡ group (plain (codes "signature") ∷ members) → members ≡ first ∷ rest → rest ≡ second ∷ last → last ≡ value ∷ more
    → (more ≡ [] → ⊥) → hash_fault first ≡ None → principal_fault second ≡ None → signature_fault v ≡ Some Shape
unfolding signature_fault
one_more v members rest last [] first second value e f g k some p q = absurd (some refl)
one_more v members rest last (m ∷ ms) first second value e f g k some p q =
    let whole : v ≡ group (plain (codes "signature") ∷ first ∷ second ∷ value ∷ m ∷ ms) =
    e ∙ ap (λ (xs : List Value). group (plain (codes "signature") ∷ xs))
    (f ∙ ap (λ (xs : List Value). first ∷ xs) (g ∙ ap (λ (xs : List Value). second ∷ xs) k)) in
    rw (whole, p, q) refl

pub returns-then-not-is_empty-clause-named : goal.returns-then-not-is_empty-clause-named
returns-then-not-is_empty-clause-named c =
    one_more _ _ _ _ _ _ _ _ c.in-Some.ensures c.in-Some-split_first.ensures c.in-Some-split_first-2.ensures c.in-Some-split_first-3.ensures
    (λ e. absurd (let f = c.if-not-is_empty.ensures.1 e in cc)) c.in_ok-alg.ensures.faultless c.in_ok-signer.ensures.faultless
