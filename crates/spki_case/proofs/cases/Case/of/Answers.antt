use Rattle.std.proofs.Common.{◌≢◌, refl, sym, ◌∙◌, rules, inl, inr, Option, Some, ◌≡◌}
use Rattle.spki_cert.proofs.{EntryFaultNone.{acl-refused}, SequenceFaultNone.{sequence-refused}}
use Rattle.spki_case.specs.Case.{Parts, acl_value, sequence_value, ReadsRows, ReadsItems, ReadsKey, ReadsRequest}
use Rattle.spki_case.proofs.{OneCase.{lacks}, RowFaults.{rows-refused}, Signed.{signed}}
use Rattle.spki_tag.specs.{declared.fault.TagFault.{TagFault}, Faults.{IsNamed}}
use Rattle.spki_cert.specs.declared.fault.CertFaultKind.TheVariants as kinds
use Rattle.spki_tag.specs.declared.fault.TagFault.TheVariants as tag_faults
use Rattle.spki_case.proofs.cases.Case.of.Goals as goal

request-named : (fault : TagFault) (found : Option TagFault) → IsNamed fault found → fault ≢ tag_faults.Memory → found ≡ Some fault
unfolding IsNamed
request-named fault found (inl denial) known = absurd (known denial)
request-named fault found (inr named) known = named

pub returns-in-Err-clause-refused : goal.returns-in-Err-clause-refused
returns-in-Err-clause-refused c =
    let h = c.in-Some.ensures in
    let parts : Parts = h.0 in
    lacks c.args.node.now parts _ _ c.outer_fault.result h.1 c.outer_fault.ensures (λ known.
    let named = rw h.2.acl at (c.in-Err.ensures.named known) in
    record { found = known; named = named; none = acl-refused (acl_value parts) c.in-Err.fault named })

pub returns-in-Err-table_of-clause-refused : goal.returns-in-Err-table_of-clause-refused
returns-in-Err-table_of-clause-refused c = search (rules, lacks, rows-refused)

pub returns-in-Err-sequence_of-clause-refused : goal.returns-in-Err-sequence_of-clause-refused
returns-in-Err-sequence_of-clause-refused c =
    let h = c.in-Some.ensures in
    let parts : Parts = h.0 in
    let reads : ReadsRows parts = search rules in
    lacks c.args.node.now parts _ _ c.outer_fault-in-Err-sequence_of.result h.1 c.outer_fault-in-Err-sequence_of.ensures (λ known.
    let named = rw h.2.sequence at (c.in-Err-sequence_of.ensures.named known) in
    record { before = reads; found = known; named = named; none = sequence-refused (sequence_value parts) c.in-Err-sequence_of.fault named })

pub returns-in-Err-key_of-clause-refused : goal.returns-in-Err-key_of-clause-refused
returns-in-Err-key_of-clause-refused c =
    let h = c.in-Some.ensures in
    let parts : Parts = h.0 in
    let reads : ReadsItems parts = search rules in
    let found : c.fault_of_part.result.kind ≢ kinds.Memory = rw c.fault_of_part.ensures c.in-Err-key_of.ensures.fault in
    λ other. inr (record {
      parts = parts;
      written = h.1;
      refused = record {
        before = reads;
        outer = rw c.fault_of_part.ensures refl;
        found = found;
        named = (let named = rw h.2.key at c.in-Err-key_of.ensures.named in rw c.fault_of_part.ensures named);
        none = λ key e. c.in-Err-key_of.ensures.refused key (rw h.2.key e);
      };
    })

pub returns-in-Err-of-clause-refused : goal.returns-in-Err-of-clause-refused
returns-in-Err-of-clause-refused c =
    let h = c.in-Some.ensures in
    let parts : Parts = h.0 in
    let reads : ReadsKey parts = search rules in
    lacks c.args.node.now parts _ _ c.fault_of_request.result h.1 c.fault_of_request.ensures (λ known. record {
      before = reads;
      found = known;
      named = request-named c.in-Err-of.fault _ (rw h.2.request at c.in-Err-of.ensures.named) known;
      none = λ g e. known (c.in-Err-of.ensures.refused g e.is_request (e.written ∙ sym h.2.request));
    })

pub returns-in-Err-date_of-clause-refused : goal.returns-in-Err-date_of-clause-refused
returns-in-Err-date_of-clause-refused c =
    let h = c.in-Some.ensures in
    let parts : Parts = h.0 in
    let reads : ReadsRequest parts = search rules in
    λ other. inr (record {
      parts = parts;
      written = h.1;
      refused = record {
        before = reads;
        no_date = rw (c.fault_of_part-in-Err-date_of.ensures, c.in-Err-date_of.ensures.fault) refl;
        none = λ date e. c.in-Err-date_of.ensures.refused date (rw h.2.at e);
      };
    })

pub invariant_of-result-clause-signed : goal.invariant_of-result-clause-signed
invariant_of-result-clause-signed c = search (rules, signed)
