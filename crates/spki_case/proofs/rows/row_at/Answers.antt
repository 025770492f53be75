use Rattle.std.{proofs.Common.{◌≡◌, List, [], ◌∷◌, Some, None, refl, ap, ◌∙◌, rules}, specs.Prelude.{codes}}
use Rattle.sexpr_core.specs.Value.{Value, plain, group}
use Rattle.spki_cert.specs.{declared.fault.CertFaultKind.TheVariants.{Shape}, FieldFaults.{key_fault}}
use Rattle.spki_cert.proofs.{HeadedLists.{carried}, SequenceFaultLaws.{triple-unheaded, triple-form}}
use Rattle.spki_case.{specs.Case.{row_fault, sha256_fault}, proofs.RowFaults.{row-looks, sha256-none}}
use Rattle.spki_case.proofs.rows.row_at.Goals as goal

pub returns-in_default-clause-named : goal.returns-in_default-clause-named
returns-in_default-clause-named c = triple-unheaded row-looks c.args.node.now c.in_default.ensures

pub returns-in_default-split_first-clause-named : goal.returns-in_default-split_first-clause-named
unfolding row_fault
returns-in_default-split_first-clause-named c = search (rules, triple-form row-looks)

pub returns-in_err-key-clause-named : goal.returns-in_err-key-clause-named
unfolding row_fault
returns-in_err-key-clause-named c = search (rules, carried, triple-form, row-looks)

pub returns-in_default-split_first-2-clause-named : goal.returns-in_default-split_first-2-clause-named
unfolding row_fault
returns-in_default-split_first-2-clause-named c = search (rules, triple-form row-looks)

pub returns-in_err-digest-clause-named : goal.returns-in_err-digest-clause-named
unfolding row_fault
returns-in_err-digest-clause-named c = search (rules, carried, triple-form, row-looks)

pub returns-in_default-split_first-3-clause-named : goal.returns-in_default-split_first-3-clause-named
unfolding row_fault
returns-in_default-split_first-3-clause-named c =
    let fine = (sha256-none _).1 (_, c.in_ok-digest.ensures.digest) in search (rules, triple-form row-looks)

-- a member behind the value of a row
one_more : (v : Value) (members rest last more : List Value) (first second value : Value)
    → v ≡ group (plain (codes "by") ∷ members) → members ≡ first ∷ rest → rest ≡ second ∷ last → last ≡ value ∷ more
    → (more ≡ [] → ⊥) → key_fault first ≡ None → sha256_fault second ≡ None → row_fault v ≡ Some Shape
unfolding row_fault
one_more v members rest last [] first second value e f g k some p q = absurd (some refl)
one_more v members rest last (m ∷ ms) first second value e f g k some p q =
    let whole : v ≡ group (plain (codes "by") ∷ first ∷ second ∷ value ∷ m ∷ ms) =
    e ∙ ap (λ (xs : List Value). group (plain (codes "by") ∷ xs))
    (f ∙ ap (λ (xs : List Value). first ∷ xs) (g ∙ ap (λ (xs : List Value). second ∷ xs) k)) in
    rw (whole, p, q) refl

pub returns-then-not-is_empty-clause-named : goal.returns-then-not-is_empty-clause-named
returns-then-not-is_empty-clause-named c =
    let fine = (sha256-none _).1 (_, c.in_ok-digest.ensures.digest) in
    one_more _ _ _ _ _ _ _ _ c.in-Some.ensures c.in-Some-split_first.ensures c.in-Some-split_first-2.ensures c.in-Some-split_first-3.ensures
    (λ e. absurd (let f = c.if-not-is_empty.ensures.1 e in cc)) c.in_ok-key.ensures.faultless fine
