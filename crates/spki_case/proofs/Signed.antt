-- In a sequence each certificate is followed by its signature.
use Rattle.std.proofs.{Common.{◌≡◌, ℕ, suc, List, [], ◌∷◌, Bool, true, false, refl, sym, ◌∙◌, inl, inr, rules}, lemmas.Bool.{and_from}}
use Rattle.std.specs.{Prelude.{codes, IsSome, is_some}, List.{AllZip, list_all}}
use Rattle.sexpr_core.specs.Value.{Value}
use Rattle.spki_cert.specs.{declared.certificate.SeqItem.{SeqItem, TheVariants.{DoHash, Auth, Name, Signature}}, Fields.{is_headed}}
use Rattle.spki_cert.specs.Structures.{ItemOf, waits_behind, waits_after, IsInPlace, AreInPlace, SeqOf}
use Rattle.spki_case.specs.Case.{signature_in, certificates_from, are_signed}

-- behind a certificate, an item that is neither an operation nor a signature is not in its place
stray : (v : Value) → is_headed (codes "do") v ≡ false → is_headed (codes "signature") v ≡ false → IsInPlace true v → ⊥
stray v d s (inl h) = let clash : false ≡ true = sym d ∙ h in cc
stray v d s (inr h) = let clash : false ≡ true = sym s ∙ h in cc

late : (v : Value) → is_headed (codes "signature") v ≡ true → IsInPlace false v → ⊥
late v s h = let clash : true ≡ false = sym s ∙ h in cc

-- a certificate is followed by its signature
pub signature_comes : (vs : List Value) (is : List SeqItem) → AllZip ItemOf vs is → AreInPlace true vs → waits_after true vs ≡ false
    → IsSome (signature_in is)
signature_comes [] [] zip placed end = absurd cc
signature_comes (v ∷ vs) (DoHash alg ∷ is) zip placed end =
    let e = zip.0 in
    let waits : waits_behind true v ≡ true = rw e refl in
    signature_comes vs is zip.1 (rw waits at placed.1) (rw waits at end)
signature_comes (v ∷ vs) (Signature s ∷ is) zip placed end = refl
signature_comes (v ∷ vs) (i ∷ is) zip placed end = search (rules, stray)
signature_comes vs is zip placed end = absurd zip

comes : (w : Bool) (v : Value) (vs : List Value) (is : List SeqItem) → waits_behind w v ≡ true → AllZip ItemOf vs is → AreInPlace (waits_behind w v) vs
    → waits_after (waits_behind w v) vs ≡ false → IsSome (signature_in is)
comes w v vs is now zip placed end = signature_comes vs is zip (rw now at placed) (rw now at end)

pub each_signed : (n : ℕ) (waits : Bool) (vs : List Value) (is : List SeqItem) → AllZip ItemOf vs is → AreInPlace waits vs
    → waits_after waits vs ≡ false → list_all (λ s. is_some s.signature) (certificates_from n is) ≡ true
each_signed n waits [] [] zip placed end = refl
each_signed n waits (v ∷ vs) (Auth c ∷ is) zip placed end =
    and_from _ _ (comes waits v vs is (rw zip.0.written refl) zip.1 placed.1 end) (each_signed (suc n) (waits_behind waits v) vs is zip.1 placed.1 end)
each_signed n waits (v ∷ vs) (Name c ∷ is) zip placed end =
    and_from _ _ (comes waits v vs is (rw zip.0.written refl) zip.1 placed.1 end) (each_signed (suc n) (waits_behind waits v) vs is zip.1 placed.1 end)
each_signed n waits (v ∷ vs) (i ∷ is) zip placed end = each_signed (suc n) (waits_behind waits v) vs is zip.1 placed.1 end
each_signed n waits vs is zip placed end = absurd zip

pub signed : (v : Value) (is : List SeqItem) → SeqOf v is → are_signed is ≡ true
signed v is s = each_signed 1 false s.values is s.each s.in_place s.all_signed
