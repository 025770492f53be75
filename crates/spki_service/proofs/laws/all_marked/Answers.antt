use Rattle.std.proofs.Common.{inl, inr}
use Rattle.spki_service.proofs.laws.all_marked.Goals as goal

pub returns-clause-yes : goal.returns-clause-yes
returns-clause-yes c a n (inl (all, h)) = all
returns-clause-yes c a n (inr (one, u, none)) = absurd cc

pub returns-clause-no : goal.returns-clause-no
returns-clause-no c a d one u (inl (all, h)) = absurd (u.not_marked (all u.index one u.stands))
returns-clause-no c a d one u (inr (other, v, none)) = none
