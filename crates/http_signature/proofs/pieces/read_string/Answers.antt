use Rattle.std.proofs.lemmas.List.Sums.{prefix_len-le-length}
use Rattle.http_signature.specs.Pieces.{is_string_octet}
use Rattle.http_signature.proofs.pieces.read_string.Goals as goal

pub split-inside-requires : goal.split-inside-requires
split-inside-requires c = rw c.string_len.ensures (prefix_len-le-length is_string_octet c.as_slice-octets.result.now)
