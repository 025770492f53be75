use Rattle.std.proofs.{Common.{◌≡◌, ◌∙◌, ap, length, arith}, lemmas.List.{length-map}}
use Rattle.spki_cert.{specs.declared.entry.Entry.{Entry}, proofs.EntryFaultNone.{acl-refused}}
use Rattle.spki_service.proofs.ListReading.{named_fault, texts_held, value_held, many}
use Rattle.spki_service.proofs.guard.Guard.of.Goals as goal

pub returns-in-Err-clause-refused : goal.returns-in-Err-clause-refused
returns-in-Err-clause-refused c found =
    named_fault c.args.list.now c.in-Err.fault c.fault_of_acl.result c.fault_of_acl.ensures (λ known. record {
      found = known;
      named = c.in-Err.ensures.named known;
      none = acl-refused c.args.list.now c.in-Err.fault (c.in-Err.ensures.named known);
    }) found

pub invariant_of-result : goal.invariant_of-result
invariant_of-result c =
    let (es, a, are) = c.in-Ok.ensures.acl in
    let long : length a.entries ≡ c.len.result =
    omega (arith, many c.args.list.now es a, ap length are, length-map es (λ (e : Entry). e.subject.principal), c.len.ensures) in (
      es,
      texts_held c.args.list.now es c.in_ok-texts.texts a
          (c.in_ok-texts.ensures a.version a.entries a.version_is a.written long),
      c.in_ok-index.ensures es (c.deref.ensures.value ∙ are),
    )

pub returns-clause-list : goal.returns-clause-list
returns-clause-list c =
    let (es, a, are) = c.in-Ok.ensures.acl in
    let long : length a.entries ≡ c.len.result =
    omega (arith, many c.args.list.now es a, ap length are, length-map es (λ (e : Entry). e.subject.principal), c.len.ensures) in
    value_held c.args.list.now es c.in_ok-texts.texts a
    (c.in_ok-texts.ensures a.version a.entries a.version_is a.written long)
