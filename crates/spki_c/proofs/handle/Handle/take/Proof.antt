-- `take` takes the handle apart.
use Rattle.std.proofs.{Common.{◌≡◌, List, [], ◌∷◌, ◌++◌, refl, sym, ap, ◌∙◌, subst}, alloc.Calls.{Al, handle_tells}, raw_atomic.Walks.{proved_at}}
use Rattle.std.specs.{Prelude.{Option, None, Some, IsSome}, contracts.impls.GlobalAllocator.TheImpl.{ghosts}}
use Rattle.std_alloc.specs.Box.Ownership.{box_owns}
use Rattle.spki_c.specs.{Pointers.{held_owns, heap as global}, contracts.{handle_value.HandleValue.{the_row as G}, handle.Handle.{the_row as R}}}
use Rattle.spki_c.proofs.{BoxPointerValues.{both, pointer_good, pointer_in}, handle.Handle.{TheLaws.{lowers}, take.Statement.{statement}}}
use mir.Raw.{raw as bare}
use mir.Val.{Val, vptr, vstruct, vcons, vnil}
use base.Logic.{SProp, ent, never, id⊢, fst∗}
use base.Fml.{ftrue}
use prog.Wp.{WpFn}
use types.Logic.{sem}
use types.Kit.{‵, raw, ◌⊛◌, ◌$◌, ◌∵◌, !, qed, move, drop, keep, split, join, fsplit, fsplit3, rewrite, suffices, done}
use types.Run.{stop, fld, of_opd, and_then, no_more, returns, enter}
use types.ByLocal.{alloc_all, pass_all, free_all, look_at, get, get_in, sets}
use types.Part.{agg, sub, whole}
use contract.Monad.{fact}
use contract.Running.{tables}
use denote.Exit.{yes}
use denote.Laws.{shows}
use denote.RattleType.{RattleType, owns}
use denote.RawPtr.{Ptr, block_ptr, null_ptr, in_a_block}
use denote.Memory.{lone}
use denote.Signature.{plain}
use denote.Steps.{nothing, heard, peeks}
use denote.Triple.Walked.{Stays, stay_dropped, walk_of, Goes-dropped, says, ends_at}
use mir.Syntax.{impl, tnil, dnil}
use Rattle.std.specs.contracts.alloc.Global as heap
use Rattle.std.proofs.alloc.Global.TheLaws as heap_laws
use Rattle.spki_c.specs.contracts.box_pointer.BoxPointer as box_pointer
use Rattle.spki_c.specs.contracts.handle.Handle.take as f
use Rattle.spki_c.proofs.handle.Handle.take.Code as code

abbrev stayed : Stays f.ended.signature.params f.ended.kept
stayed = (stay_dropped _ yes, (stay_dropped _ yes, tt))

abbrev al : Al
al = record { row = heap.the_row; laws = heap_laws.the_row_laws; g = ghosts; d = impl [] tnil dnil; drops = impl [] tnil dnil }

held_one : (k : Option G.Denot) → IsSome k → (g : G.Denot) × (k ≡ Some g)
held_one None some = let no : ⊥ = cc in absurd no
held_one (Some g) some = (g, refl)

pub take_spec : {M : Type 1} → statement M
take_spec 𝓤 𝓛 𝓜 𝓡 wired =
    let c = f.clauses 𝓛 𝓜.mem 𝓡.returns in let W = walk_of 𝓛 f.ended stayed c in let 𝓣 = tables 𝓤 𝓛.H 𝓜 𝓡 𝓡.env in
    let Z : RattleType = heap.the_row in let LZ = heap_laws.the_row_laws in
    proved_at 𝓛 f.ended stayed c 𝓜 𝓡 (Goes-dropped 𝓛 0 (plain (λ _. R)) yes (λ κs x w. refl), (Goes-dropped 𝓛 0 (plain (λ _. Z)) yes (λ κs x w. refl), tt))
    f.Key.name code.function (code.unfolded 𝓤 𝓛.H 𝓜 𝓡 wired) (λ z are.
    let v = z.0.3.0 in let a = z.0.3.1.0 in let us = z.0.4.0 in let ws = z.0.4.1.0 in
    let Run : List Val → SProp 𝓤 = λ xs. WpFn 𝓤 𝓛.H 𝓣.C 𝓣.Λ code.function xs (W.post z) in
    qed 𝓛 ((‵ ftrue ⊛ ‵ (owns (R ∷ Z ∷ []) (v, (a, tt)) (us, (ws, tt)))) ∷ raw (fact 𝓤 (IsSome v.held)) ∷ []) ∵ split ! $ drop ! $ move ! (1 ∷ []) $
    heard ! (IsSome v.held) (λ some. let g = (held_one v.held some).0 in let e = (held_one v.held some).1 in fsplit3 ! $ peeks ! R _ (shows 𝓛 R) v us (λ is. fsplit ! $ move ! (1 ∷ []) $
    rewrite ! 0 (λ (k : Option G.Denot). ‵ (held_owns G v.at k)) e refl $
    in_a_block ! v.at (λ p. box_owns (ghosts.dealloc_token global) G p g) (fst∗ 𝓤 (never 𝓤) (sem 𝓛 (ghosts.dealloc_token global (bare (lone G.mir)) null_ptr))) (λ b o at.
    move ! (2 ∷ []) $ handle_tells al ! a ws (λ h ea fits. move ! (1 ∷ 0 ∷ []) $
    -- [what is held; the allocator; what the fields own; nothing]
    let word = lowers.val_is v us is ∙ ap (λ (p : Ptr). lowers.lowered (record v { at = p }) ∷ []) at in
    let w₀ : Val = vstruct (vcons (vptr b o) vnil) in let w : Val = both (vptr b o) h in let good = pointer_good G Z LZ ghosts b o h fits in
    pointer_in G Z LZ ghosts ! b o h a g $
    suffices ! (Run (w₀ ∷ h ∷ [])) (subst (λ (xs : List Val). ent 𝓤 (Run (w₀ ∷ h ∷ [])) (Run xs)) (sym (λ i. word i ++ (ea i ++ []))) (id⊢ 𝓤 (Run (w₀ ∷ h ∷ [])))) $
    enter ! 𝓣.C 𝓣.Λ code.function (w₀ ∷ h ∷ []) (W.post z) $ alloc_all ! (λ l. pass_all ! refl ((tt, (tt, tt)), (fits, tt)) $
    sets ! (of_opd ! (get_in ! (fld ! refl (stop !)) (sub ! 0 refl (whole !)))) refl (tt, tt) $
    sets ! (of_opd ! (get ! refl)) refl (tt, tt) $
    sets ! (agg ! (and_then ! (get ! refl) (and_then ! (get ! refl) (no_more !)))) refl good $
    returns ! (look_at ! 0 refl) $ free_all ! refl $ keep ! (0 ∷ []) $
    let r : (box_pointer.the_row G Z ghosts).Denot = record { at = block_ptr b o; alloc = a; value = g } in
    suffices ! _ (ends_at 𝓛 f.ended stayed c z w r (tt, (tt, tt)) (tt, (tt, tt))) $ says ! e $
    nothing ! $ nothing ! $ join ! $ nothing ! $ join ! $ nothing ! $ done !))))))
