-- `slice` reads through the pointer, for as long as the struct is borrowed.
use Rattle.std.proofs.{Common.{◌≡◌, ◌≢◌, ℕ, ◌<◌, ◌^◌, ◌*◌, List, [], ◌∷◌, length, refl, sym, ap, ◌∙◌, subst, arith, w64}, raw_atomic.Walks.{proved}}
use Rattle.std.proofs.VecSteps.Shapes.{after}
use Rattle.spki_c.specs.{Pointers.{held_lent, IsCounted, lent_there, text_owns}, contracts.text.Text.{the_row as R, the_type}}
use Rattle.spki_c.proofs.{Counted.{in_block, are_low}, text.Text.{TheLaws.{lowers}, slice.Statement.{statement}}, Lending.{twice, lends}}
use mir.Syntax.{named}
use mir.Val.{Val, vptr, vint}
use base.Fraction.{full_share}
use base.Logic.{ent}
use base.Fml.{ftrue, flft, fex}
use seplogic.Ra.Ura.{Ura}
use types.Logic.{Logic, sem}
use types.Kit.{‵, raw, ◌⊛◌, later, at_ret, ◌$◌, ◌∵◌, !, qed, done, move, keep, drop, use1, split, join, fsplit, fsplit3, fpick, fpack, fjoin, feq_i, flt_i, await, rewrite, suffices, group}
use types.Run.{enter, of_opd, load, stop, fld, first, blocks, exec, returns, and_then, no_more}
use types.ByLocal.{alloc_all, pass_all, free_all, look_at, get, through, sets, sets_last, env}
use types.Part.{whole, sub, look_in, agg}
use contract.Monad.{fact}
use contract.Running.{tables}
use denote.Array.{Array, Array-row_laws}
use denote.Builtin.{u8, usize}
use denote.Exit.{no, yes}
use denote.Laws.{shows}
use denote.Memory.{cell_at}
use denote.Opens.{hide}
use denote.Plain.{uint_row_laws, uint_vals, uint_Tells}
use denote.RattleType.{RattleType, RowLaws}
use denote.RawPtr.{Ptr, InBlock, block_ptr, null_ptr, block_of, count_of, at_block, Testable}
use denote.Ref.{Bor, MutRef, mut_vals, mut_Tells}
use denote.Signature.{plain}
use denote.Slice.{slice_val}
use denote.Steps.{nothing, opens, peeks, heard}
use denote.Struct.Lending.{lent_at}
use denote.Triple.Walked.{Stays, walk_of, says, stay_dropped, Goes-spent_ref, Goes-dropped, ends_at}
use Rattle.spki_c.specs.contracts.text.Text.slice as f
use Rattle.spki_c.proofs.text.Text.slice.Code as code

abbrev stayed : Stays f.ended.signature.params f.ended.kept
stayed = (stay_dropped _ no, (stay_dropped _ yes, tt))

-- what is lent is what the struct owns
keeps : {M : Type 1} {𝓤 : Ura M} (𝓛 : Logic 𝓤) (p at : Ptr) (n : ℕ) (xs : List ℕ) → IsCounted at n xs → at ≡ p → InBlock p
    → ent 𝓤 (sem 𝓛 (held_lent (Array u8 (length xs)) p xs)) (sem 𝓛 (text_owns at n xs))
keeps {𝓤 = 𝓤} 𝓛 (block_ptr b o) at n xs is e there =
    let p = block_ptr b o in
    subst (λ (r : Ptr). IsCounted r n xs → ent 𝓤 (sem 𝓛 (held_lent (Array u8 (length xs)) p xs)) (sem 𝓛 (text_owns r n xs))) (sym e)
    (λ counted. qed 𝓛 (‵ (held_lent (Array u8 (length xs)) p xs) ∷ []) {P = sem 𝓛 (text_owns p n xs)}
    (nothing ! $ fpack ! (IsCounted p n xs) (λ _. ftrue) counted $ fjoin ! $ done !)) is
keeps 𝓛 null_ptr at n xs is e there = absurd there

pub slice_spec : {M : Type 1} → statement M
slice_spec 𝓤 𝓛 𝓜 𝓡 wired =
    let c = f.clauses 𝓛 𝓜.mem 𝓡.returns in let W = walk_of 𝓛 f.ended stayed c in let 𝓣 = tables 𝓤 𝓛.H 𝓜 𝓡 𝓡.env in
    proved 𝓛 f.ended stayed c 𝓜 𝓡 (Goes-spent_ref 𝓛 1 (0 ∷ []) tt (plain (λ _. R)), (Goes-dropped 𝓛 1 (plain (λ _. usize)) yes (λ κs x w. refl), tt))
    f.Key.name code.function (code.unfolded 𝓤 𝓛.H 𝓜 𝓡 wired)
    (λ κs. (mut_vals, (uint_vals w64, tt))) (λ κs. (mut_Tells (named 0) κs.0 R, (uint_Tells w64, tt))) (λ κs qs bounds a _ are.
    let κ = κs.0 in let q = qs.0 in let b = a.0.ref_ptr.0 in let o = a.0.ref_ptr.1 in let γ = a.0.ghost_name in let h = a.0.now in let vs = mut_vals a.0 in
    let n = a.1.0 in let ns = uint_vals w64 n in let xs = h.octets in let at = h.at in
    let X : RattleType = Array u8 (length xs) in let L : RowLaws X = Array-row_laws u8 (uint_row_laws _) (length xs) in
    let y : W.Ghost = ((κs, qs, bounds, a, (vs, (ns, tt))), tt) in
    qed 𝓛 (((‵ (flft κ q) ⊛ ‵ ftrue) ⊛ ‵ ((MutRef (named 0) κ R).own_val a.0 vs) ⊛ ‵ (usize.own_val n ns) ⊛ ‵ ftrue)
    ∷ raw (fact 𝓤 ((n ≡ length xs) × (0 < n))) ∷ []) ∵
    move ! (1 ∷ []) $ heard ! ((n ≡ length xs) × (0 < n)) (λ asks.
    let counted = asks.0 in let fits = are.1.0.1 in let pb = block_of at in let po = count_of at in let p = block_ptr pb po in
    split ! $ split ! $ move ! (2 ∷ []) $ split ! $ keep ! (0 ∷ 2 ∷ []) $
    enter ! _ _ _ _ _ $ alloc_all ! (λ l. pass_all ! refl ((tt, tt), ((tt, record { fits = fits }), tt)) $
    fsplit3 ! $ move ! (1 ∷ 2 ∷ 3 ∷ []) $ opens ! tt R b o (λ us.
    move ! (1 ∷ []) $ peeks ! R _ (shows 𝓛 R) h us (λ is. fsplit ! $ move ! (1 ∷ []) $
    fsplit ! $ fpick ! (λ told. drop ! $
    let low = are_low at h.count n xs told counted in let e = at_block at (in_block at h.count n xs told counted asks.1) in
    rewrite ! 0 (λ (r : Ptr). ‵ (lent_there r xs)) e refl $ fpick ! (λ s. fsplit ! $ move ! (1 ∷ []) $
    use1 𝓛 (‵ (lent_at X p xs s.0) ⊛ ‵ (lent_at X p xs s.0)) (twice 𝓛 X L s.0 p xs) $ split ! $
    let word = lowers.val_is h us is ∙ ap (λ (r : Ptr). lowers.lowered (record h { at = r }) ∷ []) e in
    let Cell = λ (ws : List Val). ‵ (cell_at full_share R.mir ws b o) in
    -- [what is lent, twice; the token; what the fields own; the cell; the open borrow; the two parts of its name]
    rewrite ! 4 Cell word refl $
    sets ! (of_opd ! (load ! (through ! refl (fld ! refl (stop !))) (look_in ! 4 (sub ! 0 refl (whole !))))) refl (tt, tt) $
    rewrite ! 4 Cell (sym word) refl $
    move ! (4 ∷ 3 ∷ 0 ∷ 7 ∷ []) $ group ! 4 $ move ! (3 ∷ 2 ∷ 0 ∷ 1 ∷ []) $ group ! 4 $
    use1 𝓛 (later (‵ (lent_at X p xs κ) ⊛ ‵ (flft κ q))) (lends 𝓛 X L the_type κ q γ h us b o s p xs (keeps 𝓛 p at h.count xs told e tt)) $ await ! tt $ split ! $ move ! (2 ∷ []) $ drop ! $
    -- [what is lent for as long; the token]
    first ! $ blocks ! $ sets_last ! (agg ! (and_then ! (get ! refl) (and_then ! (get ! refl) (no_more !)))) refl (tt, (tt, (record { fits = fits }, tt))) $
    exec ! 𝓣.C 𝓣.Λ (env code.Mir.locals l) (after 2 (code.function).body) (at_ret _ (W.post y)) $
    sets ! (of_opd ! (get ! refl)) refl (tt, (tt, (record { fits = fits }, tt))) $
    returns ! (look_at ! 0 refl) $ free_all ! refl $ fsplit ! $ drop ! $ fsplit ! $ drop ! $ hide ! $ keep ! (0 ∷ 1 ∷ []) $
    let r : Bor (List ℕ) = record { ref_ptr = (pb, po); now = xs } in let v = slice_val (pb, po) n in
    suffices ! _ (ends_at 𝓛 f.ended stayed c y v r (tt, (tt, tt)) (tt, (tt, tt))) $ says ! refl $
    flt_i ! (length xs * 1) (2 ^ 63) (subst (λ (k : ℕ). k * 1 < 2 ^ 63) counted (omega (arith, low))) $
    flt_i ! (length xs) (2 ^ 64) (subst (λ (k : ℕ). k < 2 ^ 64) counted fits) $ fjoin ! $
    feq_i ! (List Val) (v ∷ []) (slice_val (pb, po) (length xs) ∷ []) (ap (λ (k : ℕ). slice_val (pb, po) k ∷ []) counted) $ fjoin ! $ fjoin ! $
    nothing ! $ nothing ! $ fjoin ! $ nothing ! $ fjoin ! $ nothing ! $ move ! (3 ∷ 0 ∷ []) $ join ! $ done !)))))))
