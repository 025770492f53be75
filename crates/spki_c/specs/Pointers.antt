-- What is owned at a pointer: a value that a call borrows, the value of a handle, or a text that a call may read.
use base.Fml.{Fml, Lft, Share, fsep, fex, flft, ftrue}
use denote.RattleType.{RattleType}
use denote.RawPtr.{Ptr, block_ptr, null_ptr, Testable}
use denote.Struct.Lending.{lent_at}
use Rattle.std.specs.{Prelude.{Option, Some, None, ◌≡◌, ℕ, ◌^◌, List, length, Bool, true, false}, contracts.impls.GlobalAllocator.TheImpl.{ghosts}}
use Rattle.std.specs.declared.alloc.Global.{Global}
use Rattle.std_alloc.specs.Box.Ownership.{box_owns}
use lib.Dec.{ltb}
use denote.Array.{Array}
use denote.Builtin.{u8}

-- ---- what is owned of a value that a call borrows

-- The value, of the type `R`, is borrowed for a lifetime, and a share of the token of that lifetime is owned. So the lifetime lasts as
-- long as the call.
abbrev pub lent_for : (R : RattleType) → Ptr → R.Denot → Lft × Share → Fml
lent_for R p x s = fsep (flft s.0 s.1) (lent_at R p x s.0)

abbrev pub held_lent : (R : RattleType) → Ptr → R.Denot → Fml
held_lent R p x = fex (Lft × Share) (lent_for R p x)

-- ---- what a handle owns

-- the allocator by which it is freed
abbrev pub heap : Global
heap = record { memory = record { seal = tt } }

-- A value of the type `R` on the heap, with the right to free it; nothing if the handle has no value.
abbrev pub held_owns : (R : RattleType) → Ptr → Option R.Denot → Fml
held_owns R p None = ftrue
held_owns R p (Some x) = box_owns (ghosts.dealloc_token heap) R p x

-- ---- what a call may read of a text that it is passed

abbrev pub if_low : Bool → ℕ → ℕ
if_low true n = n
if_low false n = 0

-- how many octets are lent at a pointer with this count: none at null, and none if memory cannot have as many
abbrev pub lent_count : Ptr → ℕ → ℕ
lent_count null_ptr n = 0
lent_count (block_ptr b o) n = if_low (ltb n (2 ^ 63)) n

-- the pointer may be compared with null, and these are as many octets as are lent
abbrev pub IsCounted : Ptr → ℕ → List ℕ → Type 0
IsCounted p n octets = Testable p × (length octets ≡ lent_count p n)

-- nothing at null, and else the octets, which are borrowed
abbrev pub lent_there : Ptr → List ℕ → Fml
lent_there null_ptr octets = ftrue
lent_there (block_ptr b o) octets = held_lent (Array u8 (length octets)) (block_ptr b o) octets

-- the text may be read for a lifetime that lasts as long as the call
abbrev pub text_owns : Ptr → ℕ → List ℕ → Fml
text_owns p n octets = fsep (fex (IsCounted p n octets) (λ _. ftrue)) (lent_there p octets)
