use Rattle.spki_guard.proofs.OneLine.{large_only, product_only}
use Rattle.spki_guard.proofs.line_laws.one_too_large.Goals as goal

pub returns-clause-chain : goal.returns-clause-chain
returns-clause-chain c = large_only

pub returns-clause-product : goal.returns-clause-product
returns-clause-product c = product_only
