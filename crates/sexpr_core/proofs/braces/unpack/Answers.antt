use Rattle.std.proofs.Common.{◌≡◌, length, ◌-◌, ◌%◌, refl, ◌∙◌, ap, arith}
use Rattle.sexpr_core.proofs.BraceLaws.{missing_is, whole_is, no_failure}
use Rattle.sexpr_core.proofs.braces.unpack.Goals as goal

pub returns-then-missing-gt2-clause-only : goal.returns-then-missing-gt2-clause-only
returns-then-missing-gt2-clause-only c = λ octets b. absurd (omega (arith, missing_is _ octets b, b.few, c.len.ensures, c.if-missing-gt2.true))

pub returns-clause-only : goal.returns-clause-only
returns-clause-only c = λ octets b.
    let m : (4 - c.len.result % 4) % 4 ≡ (4 - length c.args.symbols.items % 4) % 4 = ap (λ n. (4 - n % 4) % 4) (c.len.ensures ∙ c.args.symbols.ok.0) in
    let whole = c.deref.ensures.value ∙ whole_is _ octets c.pad.new.symbols.items _ b m c.in_ok-pad.ensures in
    absurd (no_failure c.deref.result.now octets _ _ ((c.in-Err-DecodeError.ensures.strict (refl, refl) octets b.are_octets).1 whole) c.in-Err-DecodeError.ensures.err c.in-Err-DecodeError.field-0-is)
