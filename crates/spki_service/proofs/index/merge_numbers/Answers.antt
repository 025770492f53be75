use Rattle.std.proofs.{Common.{rules}, lemmas.{List.{length-map}, Result.{IfOk-weaker}}}
use Rattle.spki_service.proofs.IndexLaws.{merge-empty, empty-merge}
use Rattle.spki_service.proofs.index.merge_numbers.Goals as goal

-- nothing is added
pub returns-then-is_empty : goal.returns-then-is_empty
returns-then-is_empty c = search (rules, length-map, merge-empty)

-- nothing was there
pub returns-then-is_empty-2 : goal.returns-then-is_empty-2
returns-then-is_empty-2 c = search (rules, IfOk-weaker, empty-merge)
