-- The definitions tried on small texts.
use Rattle.std.{proofs.Common.{◌≡◌, [], ◌∷◌, Some, refl, arith}, specs.Prelude.{codes}}
use Rattle.sexpr_core.specs.declared.fault.FormFault.TheVariants.{Short, Bad, Trailing}
use Rattle.sexpr_core.specs.{Value.{Value, string, plain, group, decimal, verbatim, canon, depth, size}, Nodes.{records}, Reading.{Refused}}
use Rattle.sexpr_core.proofs.{Faults.{length_zero, verbatim_fault, plain_fault}, Refusals.{refused}}

-- the examples of RFC 9804, section 6.2
issuer : canon (group (plain (codes "issuer") ∷ plain (codes "bob") ∷ [])) ≡ codes "(6:issuer3:bob)"
unfolding verbatim decimal
issuer = refl

icon : canon (group (plain (codes "icon") ∷ string (Some (codes "image/bitmap")) (codes "xxxxxxxxx") ∷ [])) ≡ codes "(4:icon[12:image/bitmap]9:xxxxxxxxx)"
unfolding verbatim decimal
icon = refl

subject : Value
subject = group (plain (codes "subject") ∷ group (plain (codes "ref") ∷ plain (codes "alice") ∷ plain (codes "mother") ∷ []) ∷ [])

subject_text : canon subject ≡ codes "(7:subject(3:ref5:alice6:mother))"
unfolding subject verbatim decimal
subject_text = refl

subject_depth : depth subject ≡ 2
unfolding subject
subject_depth = refl

subject_size : size subject ≡ 6
unfolding subject
subject_size = refl

empty_string : canon (plain []) ≡ codes "0:"
unfolding verbatim decimal
empty_string = refl

empty_list : canon (group []) ≡ codes "()"
empty_list = refl

empty_list_depth : depth (group []) ≡ 1
empty_list_depth = refl

-- where the nodes of (1:a[1:h]2:bc) are
small_records :
    records 0 (group (plain (codes "a") ∷ string (Some (codes "h")) (codes "bc") ∷ [])) ≡
    record { start = 0; end = 14; detail = 17 } ∷
    record { start = 1; end = 4; detail = 3 } ∷
    record { start = 4; end = 13; detail = 11 } ∷ []
unfolding verbatim decimal
small_records = refl

-- ---- what faults say

cut_short : Refused (codes "3:ab") Short
unfolding verbatim decimal
cut_short = record { rest = 99 ∷ []; some = omega arith; whole = record { value = plain (codes "abc"); fits = omega arith; is = refl } }

trailing_octet : Refused (codes "1:ab") (Trailing 3)
unfolding verbatim decimal
trailing_octet = (omega arith, record { value = plain (codes "a"); fits = omega arith; is = refl })

leading_zero : Refused (codes "03:abc") (Bad 1)
unfolding decimal
leading_zero =
    refused (codes "03:abc") (Bad 1)
    (plain_fault 64 0 48 (codes "03:abc") (codes "3:abc") (Bad 1) refl (omega arith, omega arith)
    (verbatim_fault 0 (codes "03:abc") (Bad 1) (length_zero 0 51 (codes "03:abc") (codes ":abc") refl (λ e. omega arith))))
