-- `content` reads through the pointer of a handle that is lent, for as long as the handle is borrowed.
use Rattle.std.proofs.{Common.{List, [], ◌∷◌, refl, sym, ap, ◌∙◌}, raw_atomic.Walks.{proved}, VecSteps.Shapes.{after}}
use Rattle.spki_c.proofs.{handle_value.HandleValue.TheLaws.{the_row_laws}, handle.BorrowedHandle.{TheLaws.{lowers}, content.Statement.{statement}}}
use Rattle.spki_c.proofs.Lending.{twice, lends}
use Rattle.spki_c.specs.contracts.{handle_value.HandleValue.{the_row as G}, handle.BorrowedHandle.{the_row as R, the_type}}
use mir.Syntax.{named}
use mir.Val.{Val, vptr}
use base.Fraction.{full_share}
use base.Logic.{id⊢}
use base.Fml.{ftrue, flft}
use types.Kit.{‵, raw, ◌⊛◌, later, at_ret, ◌$◌, ◌∵◌, !, qed, done, move, keep, drop, use1, split, join, fsplit, fsplit3, fpick, fjoin, feq_i, await, rewrite, suffices, group}
use types.Run.{enter, of_opd, addr, load, stop, fld, first, blocks, exec, returns}
use types.ByLocal.{alloc_all, pass_all, free_all, look_at, get, through, sets, sets_last, env}
use types.Part.{whole, sub, look_in}
use contract.Monad.{fact}
use contract.Running.{tables}
use denote.Exit.{no}
use denote.Laws.{shows}
use denote.Memory.{cell_at}
use denote.Opens.{hide}
use denote.RawPtr.{Ptr, InBlock, block_of, count_of, at_block}
use denote.Ref.{Bor, MutRef, mut_vals, mut_Tells}
use denote.Signature.{plain}
use denote.Steps.{nothing, opens, peeks, heard}
use denote.Struct.Lending.{lent_at, in_block_says}
use denote.Triple.Walked.{Stays, walk_of, says, stay_dropped, Goes-spent_ref, ends_at}
use Rattle.spki_c.specs.contracts.handle.BorrowedHandle.content as f
use Rattle.spki_c.proofs.handle.BorrowedHandle.content.Code as code

abbrev stayed : Stays f.ended.signature.params f.ended.kept
stayed = (stay_dropped _ no, tt)

pub content_spec : {M : Type 1} → statement M
content_spec 𝓤 𝓛 𝓜 𝓡 wired =
    let c = f.clauses 𝓛 𝓜.mem 𝓡.returns in let W = walk_of 𝓛 f.ended stayed c in let 𝓣 = tables 𝓤 𝓛.H 𝓜 𝓡 𝓡.env in
    proved 𝓛 f.ended stayed c 𝓜 𝓡 (Goes-spent_ref 𝓛 1 (0 ∷ []) tt (plain (λ _. R)), tt)
    f.Key.name code.function (code.unfolded 𝓤 𝓛.H 𝓜 𝓡 wired)
    (λ κs. (mut_vals, tt)) (λ κs. (mut_Tells (named 0) κs.0 R, tt)) (λ κs qs bounds a _ are.
    let κ = κs.0 in let q = qs.0 in let b = a.0.ref_ptr.0 in let o = a.0.ref_ptr.1 in let γ = a.0.ghost_name in let h = a.0.now in let vs = mut_vals a.0 in
    let y : W.Ghost = ((κs, qs, bounds, a, (vs, tt)), tt) in
    qed 𝓛 (((‵ (flft κ q) ⊛ ‵ ftrue) ⊛ ‵ ((MutRef (named 0) κ R).own_val a.0 vs) ⊛ ‵ ftrue) ∷ ‵ ftrue ∷ []) ∵
    split ! $ split ! $ move ! (2 ∷ []) $ split ! $ keep ! (0 ∷ 2 ∷ []) $
    enter ! _ _ _ _ _ $ alloc_all ! (λ l. pass_all ! refl ((tt, tt), tt) $
    fsplit3 ! $ move ! (1 ∷ 2 ∷ 3 ∷ []) $ opens ! tt R b o (λ us.
    move ! (1 ∷ []) $ peeks ! R _ (shows 𝓛 R) h us (λ is. fsplit ! $ move ! (1 ∷ []) $ fpick ! (λ s. fsplit ! $ move ! (1 ∷ []) $
    use1 𝓛 (‵ (lent_at G h.at h.content s.0) ⊛ ‵ (lent_at G h.at h.content s.0)) (twice 𝓛 G the_row_laws.shr_laws s.0 h.at h.content) $ split ! $
    use1 𝓛 (‵ (lent_at G h.at h.content s.0) ⊛ ‵ (lent_at G h.at h.content s.0)) (twice 𝓛 G the_row_laws.shr_laws s.0 h.at h.content) $ split ! $
    fsplit ! $ use1 𝓛 (raw (fact 𝓤 (InBlock h.at))) (in_block_says 𝓛 h.at) $ heard ! (InBlock h.at) (λ inb. drop ! $
    let word = lowers.val_is h us is ∙ ap (λ (p : Ptr). lowers.lowered (record h { at = p }) ∷ []) (at_block h.at inb) in
    let Cell = λ (ws : List Val). ‵ (cell_at full_share R.mir ws b o) in
    -- [what is lent, twice; the token; what the fields own; the cell; the open borrow; the two parts of its name]
    rewrite ! 4 Cell word refl $
    sets ! (of_opd ! (load ! (through ! refl (fld ! refl (stop !))) (look_in ! 4 (sub ! 0 refl (whole !))))) refl (tt, tt) $
    rewrite ! 4 Cell (sym word) refl $
    move ! (4 ∷ 3 ∷ 0 ∷ 7 ∷ []) $ group ! 4 $ move ! (3 ∷ 2 ∷ 0 ∷ 1 ∷ []) $ group ! 4 $
    use1 𝓛 (later (‵ (lent_at G h.at h.content κ) ⊛ ‵ (flft κ q))) (lends 𝓛 G the_row_laws.shr_laws the_type κ q γ h us b o s h.at h.content (id⊢ 𝓤 _)) $ await ! tt $ split ! $ move ! (2 ∷ []) $ drop ! $
    -- [what is lent for as long; the token]
    first ! $ blocks ! $ sets ! (of_opd ! (get ! refl)) refl (tt, tt) $ sets_last ! (addr ! (through ! refl (stop !))) refl (tt, tt) $
    exec ! 𝓣.C 𝓣.Λ (env code.Mir.locals l) (after 2 (code.function).body) (at_ret _ (W.post y)) $
    sets ! (of_opd ! (get ! refl)) refl (tt, tt) $
    returns ! (look_at ! 0 refl) $ free_all ! refl $ fsplit ! $ drop ! $ hide ! $ keep ! (0 ∷ 1 ∷ []) $
    let r : Bor G.Denot = record { ref_ptr = (block_of h.at, count_of h.at); now = h.content } in let v = vptr (block_of h.at) (count_of h.at) in
    suffices ! _ (ends_at 𝓛 f.ended stayed c y v r (tt, tt) (tt, tt)) $ says ! refl $
    feq_i ! (List Val) (v ∷ []) (v ∷ []) refl $ fjoin ! $ nothing ! $ nothing ! $ fjoin ! $ nothing ! $ move ! (3 ∷ 0 ∷ []) $ join ! $ done !))))))
