use Rattle.std.proofs.Common.{ap, ◌∙◌}
use Rattle.std.proofs.lemmas.List.Sums.{prefix_len-le-length}
use Rattle.http_signature.specs.Pieces.{is_digit}
use Rattle.http_signature.proofs.Numbers.{each_digit}
use Rattle.http_signature.proofs.pieces.read_number.Goals as goal

pub split-front-requires : goal.split-front-requires
split-front-requires c = rw c.digits_len.ensures (prefix_len-le-length is_digit c.as_slice-octets.result.now)

pub number_of-requires-clause-digits : goal.number_of-requires-clause-digits
number_of-requires-clause-digits c =
    each_digit c.as_slice-octets.result.now c.as_slice-digits.result.now c.digits_len.result c.digits_len.ensures
    (c.as_slice-digits.ensures ∙ ap (λ p. p.0) c.split-front.ensures)
