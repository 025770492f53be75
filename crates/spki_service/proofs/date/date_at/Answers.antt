use Rattle.std.{proofs.Common.{FitsSigned, w64, arith, ◌*ℤ◌, ◌≤ℤ◌, pos, to_z-of_z}, specs.Int.{w128}}
use Rattle.jiff_core.proofs.SignedLemmas.{signed_arith}
use Rattle.spki_service.proofs.DateLaws.{late_year, date_of, dated}
use Rattle.spki_service.proofs.date.date_at.Goals as goal

pub octets_of-requires : goal.octets_of-requires
octets_of-requires c =
    let f : FitsSigned w64 c.args.seconds = c.ranges.seconds in
    let g : FitsSigned w128 (c.args.seconds *ℤ pos 1_000_000_000) = omega (arith, signed_arith) in
    let since : pos 0 ≤ℤ c.args.seconds = omega (arith, signed_arith, simp to_z-of_z at c.if-seconds-lt0.false) in
    late_year c.args.seconds c.in-Ok.civil (simp to_z-of_z at (rw c.nanoseconds_of.ensures at c.in-Ok.ensures.value)) since

pub returns-in-Ok : goal.returns-in-Ok
returns-in-Ok c =
    let f : FitsSigned w64 c.args.seconds = c.ranges.seconds in
    let g : FitsSigned w128 (c.args.seconds *ℤ pos 1_000_000_000) = omega (arith, signed_arith) in
    let e = simp to_z-of_z at (rw c.nanoseconds_of.ensures at c.in-Ok.ensures.value) in
    let since : pos 0 ≤ℤ c.args.seconds = omega (arith, signed_arith, simp to_z-of_z at c.if-seconds-lt0.false) in
    let d = date_of c.args.seconds c.in-Ok.civil e since (late_year c.args.seconds c.in-Ok.civil e since) in
    dated c.args.seconds _ c.of.result d (rw c.octets_of.ensures at c.of.ensures)
