-- By what a text owns, its octets lie in one block, and are fewer than 2^63.
use Rattle.std.proofs.Common.{◌≡◌, ℕ, ◌<◌, ◌≤◌, ◌^◌, List, length, Bool, true, false, refl, sym, subst, arith, ◌∙◌}
use Rattle.spki_c.specs.Pointers.{if_low, lent_count, IsCounted, lent_there, text_owns}
use lib.Dec.{T, ltb, ltb→lt, lit<}
use mir.Syntax.{ty_ptr}
use mir.Val.{Val, has_ty, WT}
use denote.RawPtr.{Ptr, InBlock, block_ptr, null_ptr, ptr_val}

pub pointer_typed : (p : Ptr) → T (has_ty ty_ptr (ptr_val p)) × WT (ptr_val p)
pointer_typed (block_ptr b o) = (tt, tt)
pointer_typed null_ptr = (tt, record { fits = lit< tt })

-- octets that are lent lie in one block of memory
pub in_block : (p : Ptr) (n k : ℕ) (xs : List ℕ) → IsCounted p n xs → k ≡ length xs → 0 < k → InBlock p
in_block (block_ptr b o) n k xs is e some = tt
in_block null_ptr n k xs is e some = absurd (let no = is.1 in omega (arith, e, some, no))

if_low-low : (b : Bool) (n : ℕ) → b ≡ ltb n (2 ^ 63) → if_low b n < 2 ^ 63
if_low-low true n e = ltb→lt n (2 ^ 63) (subst T e tt)
if_low-low false n e = lit< tt

-- and they are fewer than memory can have
pub are_low : (p : Ptr) (n k : ℕ) (xs : List ℕ) → IsCounted p n xs → k ≡ length xs → k < 2 ^ 63
are_low (block_ptr b o) n k xs is e = let low = if_low-low (ltb n (2 ^ 63)) n refl in subst (λ (m : ℕ). m < 2 ^ 63) (sym (e ∙ is.1)) low
are_low null_ptr n k xs is e = subst (λ (m : ℕ). m < 2 ^ 63) (sym (e ∙ is.1)) (lit< tt)
