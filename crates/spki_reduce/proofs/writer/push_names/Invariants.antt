-- The names so far, as strings.
use Rattle.std.proofs.Common.{◌≡◌, ◌++◌, map, take}
use Rattle.sexpr_core.specs.Value.{sexp_value}
use Rattle.spki_cert.specs.Fields.{plains}
use Rattle.spki_reduce.proofs.writer.push_names.Given as goal

abbrev pub invariant-loop-index : goal.invariant-loop-index
invariant-loop-index l =
    map sexp_value l.members.items ≡ map sexp_value l.initial.members.items ++ plains (take l.index l.names)
