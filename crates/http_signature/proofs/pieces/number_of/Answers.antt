use Rattle.std.proofs.Common.{◌<◌, get_or, arith}
use Rattle.http_signature.proofs.Numbers.{digit_to, tenfold}
use Rattle.http_signature.proofs.pieces.number_of.Goals as goal

pub overflow_mul-value : goal.overflow_mul-value
overflow_mul-value c =
    let lt : c.loop-digit.digit-index < 15 = omega arith in
    omega (arith, tenfold c.loop-digit.digit-index c.loop-digit.value lt c.loop-digit.invariant.1)

pub overflow_add-value : goal.overflow_add-value
overflow_add-value c =
    let lt : c.loop-digit.digit-index < 15 = omega arith in
    omega (
      arith,
      tenfold c.loop-digit.digit-index c.loop-digit.value lt c.loop-digit.invariant.1,
      c.from.ensures,
      digit_to (get_or c.args.digits.now c.loop-digit.digit-index 0) (c.requires.digits c.loop-digit.digit-index c.loop-digit-test.true),
    )
