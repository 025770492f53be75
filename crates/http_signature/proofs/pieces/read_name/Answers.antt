use Rattle.std.proofs.lemmas.List.Sums.{prefix_len-le-length}
use Rattle.http_signature.specs.Pieces.{is_name_octet}
use Rattle.http_signature.proofs.pieces.read_name.Goals as goal

pub split-requires : goal.split-requires
split-requires c = rw c.name_len.ensures (prefix_len-le-length is_name_octet c.as_slice-octets.result.now)
