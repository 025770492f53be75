use Rattle.std.{proofs.Common.{◌≡◌, ◌∙◌, false, rules, Some, None, cond, bytes_eq}, specs.Option.{is_some, option_or}}
use Rattle.spki_cert.specs.Naming.{digest_of}
use Rattle.spki_case.{specs.Lookups.{at_digest}, proofs.Lookups.{inserted, first_added}}
use Rattle.spki_decision.proofs.shown_keys.add_key.Goals as goal

pub returns-in_ok-insert : goal.returns-in_ok-insert
returns-in_ok-insert c = λ digest.
    let own = c.in_ok-digest.digest in
    let old = c.args.first.now in
    let own_is : own.items ≡ digest_of c.args.alg c.args.key.now = c.in_ok-digest.ensures in
    let absent : is_some (at_digest old own.items) ≡ false = search rules in
    let added : at_digest c.insert.new.self digest ≡ option_or (at_digest old digest) (cond (bytes_eq own.items digest) (Some c.share.result) None) =
    inserted own c.share.result old c.insert.new.self c.in_ok-insert.ensures.updates digest ∙ first_added (at_digest old) own.items c.share.result digest absent in
    rw (own_is, c.share.ensures) at added
