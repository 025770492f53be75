-- `is_null` compares the pointer with null. This is allowed by what the struct owns.
use seplogic.Ra.Ura.{Ura}
use types.Logic.{Logic, sem}
use base.Logic.{ent, sep}
use Rattle.std.proofs.{Common.{◌≡◌, ℕ, List, [], ◌∷◌, refl, sym, ap, ◌∙◌, Bool, true, false}, raw_atomic.Walks.{proved}}
use Rattle.std.specs.Prelude.{◌↔◌, IsTrue}
use Rattle.spki_c.specs.{Pointers.{IsCounted}, contracts.text.Text.{the_row as R}}
use Rattle.spki_c.proofs.{Counted.{pointer_typed}, text.Text.{TheLaws.{lowers}, is_null.Statement.{statement}}}
use lib.Dec.{T, lit<}
use mir.Syntax.{named, ty_ptr, ptr_eq}
use mir.Val.{Val, vbool, vnull, op2_val, has_ty, WT}
use base.Fraction.{full_share}
use base.Fml.{ftrue, flft, fex}
use types.Kit.{‵, raw, ◌⊛◌, ◌$◌, ◌∵◌, !, qed, done, move, keep, drop, split, join, fsplit, fsplit3, fpick, fpack, fjoin, feq_i, rewrite, suffices, use1}
use types.Run.{enter, of_opd, load, stop, fld, returns, bin, lit}
use types.ByLocal.{alloc_all, pass_all, free_all, look_at, get, is, through, sets}
use types.Part.{whole, sub, look_in}
use contract.Running.{tables}
use denote.Exit.{yes}
use denote.Laws.{shows}
use denote.Memory.{cell_at}
use denote.RattleType.{RattleType}
use denote.RawPtr.{Ptr, block_ptr, null_ptr, ptr_val, Testable, tests_null}
use denote.Ref.{MutRef, mut_vals, mut_Tells}
use denote.Signature.{plain}
use denote.Steps.{nothing, opens, closes, peeks}
use denote.Triple.Walked.{Stays, walk_of, says, stay_ref, Goes-ref, ends_at}
use Rattle.spki_c.specs.contracts.text.Text.is_null as f
use Rattle.spki_c.proofs.text.Text.is_null.Code as code

abbrev stayed : Stays f.ended.signature.params f.ended.kept
stayed = (stay_ref (0 ∷ []) tt (plain (λ _. R)), tt)

is_block : (b o : ℕ) → block_ptr b o ≡ null_ptr → ⊥
is_block b o e = let no : ⊥ = cc in no

answer : (p : Ptr) → (y : Bool) × (op2_val ptr_eq (ptr_val p) vnull ≡ vbool y) × (IsTrue y ↔ (p ≡ null_ptr))
answer (block_ptr b o) = (false, refl, ((λ t. absurd (let no : ⊥ = cc in no)), (λ e. absurd (is_block b o e))))
answer null_ptr = (true, refl, ((λ _. refl), (λ _. refl)))

pub is_null_spec : {M : Type 1} → statement M
is_null_spec 𝓤 𝓛 𝓜 𝓡 wired =
    let c = f.clauses 𝓛 𝓜.mem 𝓡.returns in let W = walk_of 𝓛 f.ended stayed c in let 𝓣 = tables 𝓤 𝓛.H 𝓜 𝓡 𝓡.env in
    proved 𝓛 f.ended stayed c 𝓜 𝓡 (Goes-ref 𝓛 1 0 tt (plain (λ _. R)), tt)
    f.Key.name code.function (code.unfolded 𝓤 𝓛.H 𝓜 𝓡 wired)
    (λ κs. (mut_vals, tt)) (λ κs. (mut_Tells (named 0) κs.0 R, tt)) (λ κs qs bounds a _ are.
    let κ = κs.0 in let q = qs.0 in let b = a.0.ref_ptr.0 in let o = a.0.ref_ptr.1 in let h = a.0.now in let vs = mut_vals a.0 in
    let y : W.Ghost = ((κs, qs, bounds, a, (vs, tt)), tt) in
    qed 𝓛 (((‵ (flft κ q) ⊛ ‵ ftrue) ⊛ ‵ ((MutRef (named 0) κ R).own_val a.0 vs) ⊛ ‵ ftrue) ∷ ‵ ftrue ∷ []) ∵
    let p = h.at in let Counted = IsCounted p h.count h.octets in let v = vbool (answer p).0 in
    split ! $ split ! $ move ! (2 ∷ []) $ split ! $ keep ! (0 ∷ 2 ∷ []) $
    enter ! _ _ _ _ _ $ alloc_all ! (λ l. pass_all ! refl ((tt, tt), tt) $
    fsplit3 ! $ move ! (1 ∷ 2 ∷ 3 ∷ []) $ opens ! tt R b o (λ us.
    move ! (1 ∷ []) $ peeks ! R _ (shows 𝓛 R) h us (λ shown. fsplit ! $ move ! (1 ∷ []) $
    fsplit ! $ fpick ! (λ counted. drop ! $
    let word = lowers.val_is h us shown in let Cell = λ (ws : List Val). ‵ (cell_at full_share R.mir ws b o) in
    -- [what is lent; what the fields own; the cell; the open borrow; the two parts of its name]
    rewrite ! 2 Cell word refl $
    sets ! (of_opd ! (load ! (through ! refl (fld ! refl (stop !))) (look_in ! 2 (sub ! 0 refl (whole !))))) refl (pointer_typed p) $
    rewrite ! 2 Cell (sym word) refl $
    sets ! (is ! (bin ! (get ! refl) (lit ! tt) (tests_null p counted.0)) (answer p).1) refl (tt, tt) $
    nothing ! $ fpack ! Counted (λ _. ftrue) counted $ fjoin ! $
    move ! (1 ∷ 0 ∷ []) $ fjoin ! $ move ! (1 ∷ 0 ∷ []) $ closes ! tt R h us b o $
    -- [the two parts of the reference; the token]
    returns ! (look_at ! 0 refl) $ free_all ! refl $ keep ! (0 ∷ 1 ∷ 2 ∷ []) $
    suffices ! _ (ends_at 𝓛 f.ended stayed c y v (answer p).0 (h, tt) (tt, tt)) $ says ! (refl, (answer p).2) $
    fjoin ! $ feq_i ! (List Val) vs vs refl $ fjoin ! $ nothing ! $ move ! (1 ∷ 0 ∷ []) $ join ! $
    feq_i ! (List Val) (v ∷ []) (v ∷ []) refl $ nothing ! $ move ! (3 ∷ 0 ∷ []) $ join ! $ move ! (0 ∷ 2 ∷ 1 ∷ []) $ done !)))))
