-- The value that a reader of a node returns.
use Rattle.std.specs.Option.{option_copied}
use Rattle.sexpr_core.specs.{declared.handle.NodeKind.{NodeKind, TheVariants.{String, List as Group}}, Value.{Value, string, group}}

-- the value of a string with its hint, or of a list with its members
abbrev pub kind_value : NodeKind → Value
kind_value (String hint body) = string (option_copied hint) body.now
kind_value (Group ms) = group ms
