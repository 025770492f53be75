use Rattle.std.proofs.Common.{rules}
use Rattle.sexpr_text.proofs.CanonicalLaws.{canonical_text}
use Rattle.sexpr_text.proofs.canonical_text.CanonicalText.read.Goals as goal

pub returns-in-Ok-clause-read : goal.returns-in-Ok-clause-read
returns-in-Ok-clause-read c = search (rules, canonical_text)
