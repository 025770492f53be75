-- Termination: each call has less text than its caller.
use Rattle.std.proofs.Common.{◌≡◌, ◌≤◌, ℕ, ◌+◌, ◌*◌, List, ◌∷◌, ◌++◌, length}
use Rattle.sexpr_core.specs.Value.{Values, canons}
use Rattle.sexpr_text.proofs.Converted.{IsInMembers}
use Rattle.sexpr_text.proofs.canonical_printer.+printing.Given as goal

abbrev pub decreases-print_first : goal.decreases-print_first
decreases-print_first g l = 2 * length l.text.now

abbrev pub decreases-print_members : goal.decreases-print_members
decreases-print_members g l = 2 * length l.text.now + 1

abbrev pub invariant-print_members-loop-octet : goal.invariant-print_members-loop-octet
invariant-print_members-loop-octet g l =
    (length l.rest ≤ length l.fn.text)
    × ((vs : Values) (behind : List ℕ) → l.fn.text ≡ canons vs ++ 41 ∷ behind
    → IsInMembers (λ front. g.S.Sink.takes l.fn.sink (40 ∷ front) l.sink) vs behind l.rest l.member)

abbrev pub decreases-print_members-loop-octet : goal.decreases-print_members-loop-octet
decreases-print_members-loop-octet g l = length l.rest
