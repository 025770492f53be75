use Rattle.std.proofs.{Common.{sym, ◌∙◌}, lemmas.Result.{IfErr-weaker}}
use Rattle.spki_cert.proofs.EntryFaultNone.{acl-refused}
use Rattle.spki_cert.proofs.acl.read_acl.Goals as goal

pub returns-clause-none : goal.returns-clause-none
returns-clause-none c =
    rw (sym c.node.ensures ∙ c.unwrap.ensures) (IfErr-weaker c.acl_of.result _ _ (λ fault named known. acl-refused c.unwrap.result fault (named known))
    c.acl_of.ensures.named)
