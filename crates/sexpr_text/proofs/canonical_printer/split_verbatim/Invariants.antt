use Rattle.std.proofs.Common.{◌≡◌, ℕ, List, ◌++◌, length}
use Rattle.sexpr_core.specs.Value.{verbatim}
use Rattle.sexpr_text.proofs.Converted.{IsInLength}
use Rattle.sexpr_text.proofs.canonical_printer.split_verbatim.Given as goal

abbrev pub invariant-loop-octet : goal.invariant-loop-octet
invariant-loop-octet l = (octets behind : List ℕ) → l.fn.text ≡ verbatim octets ++ behind → IsInLength l.rest l.number octets behind

abbrev pub decreases-loop-octet : goal.decreases-loop-octet
decreases-loop-octet l = length l.rest
