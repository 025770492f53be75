-- `hold` writes the pointer into the handle, which owns the box from then on.
use Rattle.std.proofs.{Common.{◌≡◌, List, [], ◌∷◌, ◌++◌, refl, sym, subst}, raw_atomic.Walks.{proved_at}}
use Rattle.std.specs.{Prelude.{None, Some}, contracts.impls.GlobalAllocator.TheImpl.{ghosts}}
use Rattle.spki_c.specs.contracts.{handle_value.HandleValue.{the_row as G}, handle.Handle.{the_row as R, the_type}}
use Rattle.spki_c.proofs.{BoxPointerValues.{both, pointer_good, pointer_out}, handle.Handle.{TheLaws.{lowers}, hold.Statement.{statement}}}
use mir.Syntax.{named}
use mir.Val.{Val, vptr, vunit}
use base.Fraction.{full_share}
use base.Logic.{SProp, ent, id⊢}
use base.Fml.{ftrue, flft}
use prog.Wp.{WpFn}
use types.Kit.{‵, raw, ◌⊛◌, ◌$◌, ◌∵◌, !, qed, move, drop, keep, split, join, fsplit, fsplit3, fjoin, fpack, feq_l, feq_i, rewrite, suffices, done}
use types.Run.{stop, fld, of_opd, unit_lit, returns, enter, assigns}
use types.ByLocal.{alloc_all, pass_all, free_all, look_at, get, get_in, through, sets}
use types.Part.{sub, whole, store_in}
use contract.Monad.{fact}
use contract.Running.{tables}
use denote.Exit.{no}
use denote.Laws.{shows}
use denote.Memory.{cell_at}
use denote.RattleType.{RattleType, owns, Valss}
use denote.RawPtr.{RawPtr, block_ptr}
use denote.Ref.{MutRef, mut_vals}
use denote.Signature.{plain}
use denote.Steps.{nothing, heard, peeks, opens, closes}
use denote.Struct.Owning.{shape}
use denote.Struct.Struct.{within}
use denote.Triple.Walked.{Stays, stay_dropped, stay_ref, walk_of, Goes-dropped, Goes-ref, says, ends_at}
use Rattle.std.specs.contracts.alloc.Global as heap
use Rattle.std.proofs.alloc.Global.TheLaws as heap_laws
use Rattle.spki_c.specs.contracts.box_pointer.BoxPointer as box_pointer
use Rattle.spki_c.specs.contracts.handle.Handle.hold as f
use Rattle.spki_c.proofs.handle.Handle.hold.Code as code

abbrev B : RattleType
B = box_pointer.the_row G heap.the_row ghosts

abbrev stayed : Stays f.ended.signature.params f.ended.kept
stayed = (stay_ref (0 ∷ []) tt (plain (λ _. R)), (stay_dropped _ no, tt))

pub hold_spec : {M : Type 1} → statement M
hold_spec 𝓤 𝓛 𝓜 𝓡 wired =
    let c = f.clauses 𝓛 𝓜.mem 𝓡.returns in let W = walk_of 𝓛 f.ended stayed c in let 𝓣 = tables 𝓤 𝓛.H 𝓜 𝓡 𝓡.env in
    let Z : RattleType = heap.the_row in let LZ = heap_laws.the_row_laws in
    proved_at 𝓛 f.ended stayed c 𝓜 𝓡 (Goes-ref 𝓛 1 0 tt (plain (λ _. R)), (Goes-dropped 𝓛 1 (plain (λ _. B)) no (λ κs x w. refl), tt))
    f.Key.name code.function (code.unfolded 𝓤 𝓛.H 𝓜 𝓡 wired) (λ z are.
    let κ = z.0.0.0 in let q = z.0.1.0 in let x = z.0.3.0 in let d = z.0.3.1.0 in let rs = z.0.4.0 in let ws = z.0.4.1.0 in let h = x.now in
    let b = x.ref_ptr.0 in let o = x.ref_ptr.1 in
    let Run : List Val → SProp 𝓤 = λ xs. WpFn 𝓤 𝓛.H 𝓣.C 𝓣.Λ code.function xs (W.post z) in
    qed 𝓛 (((‵ (flft κ q) ⊛ ‵ ftrue) ⊛ ‵ (owns (MutRef (named 0) κ R ∷ B ∷ []) (x, (d, tt)) (rs, (ws, tt)))) ∷ raw (fact 𝓤 (h.held ≡ None)) ∷ []) ∵
    split ! $ split ! $ move ! (1 ∷ []) $ drop ! $ move ! (2 ∷ []) $ heard ! (h.held ≡ None) (λ e. move ! (1 ∷ []) $ fsplit3 ! $ move ! (1 ∷ []) $
    pointer_out G Z LZ ghosts ! d ws (λ b' o' hv at wis fits. move ! (1 ∷ []) $ drop ! $ move ! (1 ∷ []) $ fsplit3 ! $ feq_l ! (λ ev.
    -- [the two parts of the reference; what is held; nothing; the token]
    move ! (0 ∷ 1 ∷ 4 ∷ []) $
    let w : Val = both (vptr b' o') hv in let good = pointer_good G Z LZ ghosts b' o' hv fits in let vs = mut_vals x in
    suffices ! (Run (vptr b o ∷ w ∷ [])) (subst (λ (xs : List Val). ent 𝓤 (Run (vptr b o ∷ w ∷ [])) (Run xs)) (sym (λ i. ev i ++ (wis i ++ []))) (id⊢ 𝓤 (Run (vptr b o ∷ w ∷ [])))) $
    enter ! 𝓣.C 𝓣.Λ code.function (vptr b o ∷ w ∷ []) (W.post z) $ alloc_all ! (λ l. pass_all ! refl ((tt, tt), (good, tt)) $
    opens ! tt R b o (λ us. move ! (1 ∷ []) $ peeks ! R _ (shows 𝓛 R) h us (λ is. fsplit ! $ drop ! $ drop ! $
    let Cell = λ (xs : List Val). ‵ (cell_at full_share R.mir xs b o) in
    rewrite ! 0 Cell (lowers.val_is h us is) refl $
    -- [the handle's cell; the open borrow; the two parts of its name; what is held]
    sets ! (of_opd ! (get_in ! (fld ! refl (stop !)) (sub ! 0 refl (whole !)))) refl (tt, tt) $
    sets ! (of_opd ! (get ! refl)) refl (tt, tt) $
    assigns ! (of_opd ! (get ! refl)) (through ! refl (fld ! refl (stop !))) (store_in ! 0 (sub ! 0 refl (whole !)) (tt, tt)) $
    sets ! (of_opd ! (unit_lit !)) refl (tt, tt) $
    let h' : R.Denot = record { at = block_ptr b' o'; held = Some d.value } in let v' : Val = lowers.lowered h' in
    nothing ! $ feq_i ! (List Val) (vptr b' o' ∷ []) (vptr b' o' ∷ []) refl $ fjoin ! $ feq_i ! (List Val) (v' ∷ []) (v' ∷ []) refl $ fjoin ! $
    fpack ! (Valss (RawPtr ∷ [])) (within (shape the_type) (block_ptr b' o', tt) (v' ∷ [])) (vptr b' o' ∷ [], tt) $
    move ! (0 ∷ 5 ∷ []) $ fjoin ! $ move ! (1 ∷ 0 ∷ []) $ closes ! tt R h' (v' ∷ []) b o $
    -- [the two parts of the reference; the token]
    returns ! (look_at ! 0 refl) $ free_all ! refl $ keep ! (0 ∷ 1 ∷ 2 ∷ []) $
    suffices ! _ (ends_at 𝓛 f.ended stayed c z vunit tt (h', (tt, tt)) (tt, (tt, tt))) $ says ! refl $
    fjoin ! $ feq_i ! (List Val) rs (vptr b o ∷ []) ev $ fjoin ! $
    nothing ! $ nothing ! $ join ! $ move ! (1 ∷ 0 ∷ []) $ join ! $ feq_i ! _ (vunit ∷ []) _ refl $ nothing ! $
    move ! (3 ∷ 0 ∷ []) $ join ! $ move ! (0 ∷ 2 ∷ 1 ∷ []) $ done !)))))))
