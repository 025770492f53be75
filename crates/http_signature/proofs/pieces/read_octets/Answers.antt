use Rattle.std.proofs.lemmas.List.Sums.{prefix_len-le-length}
use Rattle.http_signature.specs.Pieces.{is_inside}
use Rattle.http_signature.proofs.pieces.read_octets.Goals as goal

pub split-inside-requires : goal.split-inside-requires
split-inside-requires c = rw c.inside_len.ensures (prefix_len-le-length is_inside c.as_slice-octets.result.now)
