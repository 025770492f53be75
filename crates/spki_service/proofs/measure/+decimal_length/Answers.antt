use Rattle.spki_service.proofs.PartTexts.{digit_length, digits_length}
use Rattle.spki_service.proofs.measure.+decimal_length.Goals as goal

pub returns-then-number-lt10-clause-digits : goal.returns-then-number-lt10-clause-digits
returns-then-number-lt10-clause-digits t c = digit_length c.args.number c.if-number-lt10.true

pub returns-clause-digits : goal.returns-clause-digits
returns-clause-digits t c = digits_length c.args.number _ c.if-number-lt10.false c.decimal_length.ensures.digits
