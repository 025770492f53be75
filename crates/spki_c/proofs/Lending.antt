-- A value that is lent for a lifetime, with a share of that lifetime's token under a borrow, is lent for the borrow's lifetime.
use Rattle.std.proofs.Common.{ℕ, List, [], ◌∷◌, ◌++◌}
use Rattle.spki_c.specs.Pointers.{held_lent, lent_for}
use seplogic.Ra.Ura.{Ura}
use mir.Val.{Val}
use base.Fraction.{full_share}
use base.Logic.{SProp, ent, sep, emp, id⊢}
use base.Fml.{Lft, Share, GName, Fml, ftrue, fsep, flft, fbor, fobor, fauth}
use base.Before.{before}
use types.Logic.{Logic, sem}
use types.Kit.{‵, raw, ◌⊛◌, later, ◌$◌, ◌∵◌, !, qed, move, drop, split, join, fjoin, fpack, use0, use1, use2, use3, await, updating, now, done}
use types.Tokens.{bor_fracture}
use types.Na.{before-Incl, before_lent}
use types.SemTy.{Body}
use contract.BorrowLft.{meet_⊑_left}
use denote.RattleType.{RattleType, RowLaws}
use denote.Memory.{mem, cell_at, part_of}
use denote.RawPtr.{Ptr}
use denote.Shares.{closes_cut}
use denote.Struct.Lending.{lent_at, lent_at_shr_laws}
use denote.Struct.Owning.{Owning, row, shape, to}
use denote.Struct.Struct.{Struct}

module _ {M : Type 1} {𝓤 : Ura M} (𝓛 : Logic 𝓤) (X : RattleType) (L : RowLaws X) where
  open 𝓛 use {H, A}

  pub twice : (ν : Lft) (p : Ptr) (x : X.Denot) → ent 𝓤 (sem 𝓛 (lent_at X p x ν)) (sep 𝓤 (sem 𝓛 (lent_at X p x ν)) (sem 𝓛 (lent_at X p x ν)))
  twice ν p x = (lent_at_shr_laws X L p x).contraction M 𝓤 𝓛 ν

  reaches : (κ ν : Lft) (s : Share) (p : Ptr) (x : X.Denot)
      → ent 𝓤 (sep 𝓤 (A.bor κ (flft ν s)) (sem 𝓛 (lent_at X p x ν))) (H.⇛ (sem 𝓛 (lent_at X p x κ)))
  reaches κ ν s p x =
      qed 𝓛 (‵ (fbor κ (flft ν s)) ∷ ‵ (lent_at X p x ν) ∷ []) ∵ updating ! $ bor_fracture ! tt (λ q. flft ν q) s $
      use0 𝓛 (‵ (before (ν ++ κ) ν)) (before-Incl 𝓛 (ν ++ κ) ν (meet_⊑_left ν κ)) $ move ! (1 ∷ 0 ∷ []) $
      use2 𝓛 (‵ (before κ ν)) (before_lent 𝓛 κ ν ν) $
      use2 𝓛 (‵ (lent_at X p x κ)) ((lent_at_shr_laws X L p x).mono M 𝓤 𝓛 κ ν) $ now ! $ done !

  -- the struct `T`, whose value `h` owns what is lent
  module _ (T : Owning) (κ : Lft) (q : Share) (γ : GName) (h : T.D) (us : List Val) (b o : ℕ) (s : Lft × Share) (p : Ptr) (x : X.Denot)
      (keeps : ent 𝓤 (sem 𝓛 (held_lent X p x)) (sem 𝓛 (T.heap h))) where
    abbrev R : RattleType
    R = row T

    abbrev Data : RattleType
    Data = Struct (shape T)

    abbrev Rest : SProp 𝓤
    Rest = sep 𝓤 (sem 𝓛 (cell_at full_share R.mir us b o)) (sep 𝓤 (sem 𝓛 (Data.own_val (to T h) us)) (sep 𝓤 (sem 𝓛 (lent_at X p x s.0)) (sem 𝓛 (fauth γ (R.coded.code h)))))

    back : ent 𝓤 (sep 𝓤 (sem 𝓛 (flft s.0 s.1)) (sep 𝓤 (sem 𝓛 ftrue) Rest)) (sem 𝓛 (Body (mem R) b o γ))
    unfolding part_of
    back =
        qed 𝓛 (‵ (flft s.0 s.1) ∷ ‵ ftrue ∷ (‵ (cell_at full_share R.mir us b o) ⊛ ‵ (Data.own_val (to T h) us) ⊛ ‵ (lent_at X p x s.0) ⊛ ‵ (fauth γ (R.coded.code h))) ∷ []) {P = sem 𝓛 (Body (mem R) b o γ)} (
        move ! (1 ∷ []) $ drop ! $ move ! (1 ∷ []) $ split ! $ move ! (1 ∷ []) $ split ! $ move ! (1 ∷ []) $ split ! $
        -- [what is lent; the name; what the fields own; the cell; the token]
        move ! (4 ∷ 0 ∷ []) $ fjoin ! $ fpack ! (Lft × Share) (lent_for X p x) s $ use1 𝓛 (‵ (T.heap h)) keeps $ move ! (2 ∷ 0 ∷ []) $ fjoin ! $
        move ! (2 ∷ 0 ∷ []) $ fjoin ! $ fpack ! (List Val) (λ vs. fsep (cell_at full_share R.mir vs b o) (R.own_val h vs)) us $
        fjoin ! $ fpack ! R.Denot (λ z. fsep ((mem R).own_at z b o) (fauth γ (R.coded.code z))) h $ done !)

    pub lends : ent 𝓤 (sep 𝓤 (sem 𝓛 (fobor κ q (Body (mem R) b o γ))) (sep 𝓤 (sem 𝓛 (flft s.0 s.1)) (sep 𝓤 Rest (sem 𝓛 (lent_at X p x s.0)))))
        (H.⇛ (sep 𝓤 (sem 𝓛 (lent_at X p x κ)) (A.lft κ q)))
    lends =
        qed 𝓛 (‵ (fobor κ q (Body (mem R) b o γ)) ∷ ‵ (flft s.0 s.1) ∷ raw Rest ∷ ‵ (lent_at X p x s.0) ∷ []) ∵ updating ! $
        move ! (2 ∷ []) $ use0 𝓛 (‵ ftrue) (id⊢ 𝓤 (emp 𝓤)) $ join ! $ move ! (1 ∷ 2 ∷ 0 ∷ []) $
        use3 𝓛 (later (‵ (fbor κ (flft s.0 s.1)) ⊛ ‵ (fbor κ ftrue) ⊛ ‵ (flft κ q))) (closes_cut 𝓛 κ q (Body (mem R) b o γ) (flft s.0 s.1) ftrue Rest back) $
        await ! tt $ split ! $ move ! (1 ∷ []) $ split ! $ drop ! $ move ! (1 ∷ 2 ∷ []) $
        use2 𝓛 (later (‵ (lent_at X p x κ))) (reaches κ s.0 s.1 p x) $ await ! tt $ now ! $ done !
