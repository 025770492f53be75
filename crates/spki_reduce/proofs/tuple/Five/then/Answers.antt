use Rattle.spki_reduce.proofs.ReducedForms.{along, narrowed_joins, stops_by_tags}
use Rattle.spki_reduce.proofs.tuple.Five.then.Goals as goal

pub returns-in_ok-narrowed-in-Ok-clause-joined : goal.returns-in_ok-narrowed-in-Ok-clause-joined
returns-in_ok-narrowed-in-Ok-clause-joined c =
    let left = c.args.self.now in
    let right = c.args.next.now in
    let policy = c.args.policy in
    let window = c.in-Ok.window in
    let tag = c.in_ok-tag-in-Ok.tag in
    let exact = c.in_ok-tag-in-Ok.ensures.exact in
    let (issues, allowed, meets, overlap) = c.in-Ok.ensures.joins in
    along c.in_ok-narrowed-in-Ok.field-0 _ _ _ _ (rw c.share.ensures at c.in_ok-narrowed-in-Ok.ensures)
    (narrowed_joins policy left right window issues allowed overlap meets tag exact c.in_ok-tag-in-Ok.ensures.bounds)
    (stops_by_tags policy left right window issues allowed overlap tag exact)
