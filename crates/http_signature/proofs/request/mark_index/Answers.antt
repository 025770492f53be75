use Rattle.http_signature.proofs.Texts.{some_position, none_position}
use Rattle.http_signature.specs.Components.{is_mark}
use Rattle.http_signature.proofs.request.mark_index.Goals as goal

pub returns-in-Some : goal.returns-in-Some
returns-in-Some c = some_position is_mark c.args.target.now c.in-Some.index c.in-Some.ensures

pub returns-in-None : goal.returns-in-None
returns-in-None c = none_position is_mark c.args.target.now c.in-None.ensures
