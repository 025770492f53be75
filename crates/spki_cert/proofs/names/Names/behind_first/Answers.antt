use Rattle.std.proofs.Common.{rules, [], unwrap_or, option_map}
use Rattle.std.proofs.lemmas.List.{drop-drop}
use Rattle.std.specs.Arc.{arc_slice_items}
use Rattle.spki_cert.proofs.names.Names.behind_first.Goals as goal

pub returns : goal.returns
returns c = let one_more = drop-drop 1 c.self.inside.gone (unwrap_or (option_map arc_slice_items c.self.inside.read) []) in search rules
