use Rattle.std.proofs.Common.{None, true, false, refl, rules}
use Rattle.spki_cert.proofs.{HeadedLists.{carried}, FieldFaultLaws.{both-ways, one-way}, SequenceFaultLaws.{parts-tested, parts-known}}
use Rattle.spki_cert.proofs.certificate_reader.parts_of.Goals as goal

pub returns-in_err-propagate-clause-named : goal.returns-in_err-propagate-clause-named
returns-in_err-propagate-clause-named c = search (rules, carried, parts-tested)

pub returns-in_default-clause-named : goal.returns-in_default-clause-named
returns-in_default-clause-named c = λ _.
    let known = c.in_ok-propagate.ensures.found.1 in
    parts-known c.args.members _ true _ _ known c.in_ok-propagate.ensures.faultless (both-ways c.args.members _ known c.in_default.ensures) refl refl

pub returns-in_default-issuer-clause-named : goal.returns-in_default-issuer-clause-named
returns-in_default-issuer-clause-named c = λ _.
    let known = c.in_ok-propagate.ensures.found.1 in
    parts-known c.args.members _ false None _ known c.in_ok-propagate.ensures.faultless (one-way c.args.members _ _ known c.in-Some.ensures)
    c.in_default-issuer.is refl

pub returns-in_default-subject-clause-named : goal.returns-in_default-subject-clause-named
returns-in_default-subject-clause-named c = λ _.
    let known = c.in_ok-propagate.ensures.found.1 in
    parts-known c.args.members _ false _ None known c.in_ok-propagate.ensures.faultless (one-way c.args.members _ _ known c.in-Some.ensures)
    c.in-Some-issuer.is c.in_default-subject.is
