use Rattle.std.proofs.Common.{◌≡◌, ◌∷◌, [], refl, rules}
use Rattle.spki_case.{specs.Case.{headed, part_values}, proofs.Building.{after, inside, joined}}
use Rattle.spki_case.specs.Case as spec
use Rattle.spki_case.proofs.parts.parts_in.Goals as goal

pub returns-in_err-acl : goal.returns-in_err-acl
returns-in_err-acl c = rw c.from_residual.ensures (λ p e. c.in_err-acl.ensures p.entries _ e)

pub returns-in_err-accepted : goal.returns-in_err-accepted
returns-in_err-accepted c = rw c.from_residual-in_err-accepted.ensures (λ p e. search (rules, after, c.in_err-accepted.ensures p.rows))

pub returns-in_err-sequence : goal.returns-in_err-sequence
returns-in_err-sequence c = rw c.from_residual-in_err-sequence.ensures (λ p e. search (rules, after, c.in_err-sequence.ensures p.items))

pub returns-in_err-key : goal.returns-in_err-key
returns-in_err-key c = rw c.from_residual-in_err-key.ensures (λ p e. search (rules, after, c.in_err-key.ensures (p.key ∷ [])))

pub returns-in_err-request : goal.returns-in_err-request
returns-in_err-request c = rw c.from_residual-in_err-request.ensures (λ p e. search (rules, after, c.in_err-request.ensures (p.request ∷ [])))

pub returns-in_err-at : goal.returns-in_err-at
returns-in_err-at c = rw c.from_residual-in_err-at.ensures (λ p e. search (rules, after, c.in_err-at.ensures (p.at ∷ [])))

pub returns-in_err-policy : goal.returns-in_err-policy
returns-in_err-policy c = search (rules, after)

pub returns-in_err-only_member : goal.returns-in_err-only_member
returns-in_err-only_member c = rw c.from_residual-in_err-only_member.ensures (λ p e.
    c.in_err-only_member.ensures p.key (inside _ _ _ _ _ c.in_ok-key.ensures (after _ _ _ _ _ c.in_ok-sequence.ensures
    (after _ _ _ _ _ c.in_ok-accepted.ensures (after _ _ _ _ _ c.in_ok-acl.ensures e)))))

pub returns-in_err-only_member-2 : goal.returns-in_err-only_member-2
returns-in_err-only_member-2 c = rw c.from_residual-in_err-only_member-2.ensures (λ p e.
    c.in_err-only_member-2.ensures p.request (inside _ _ _ _ _ c.in_ok-request.ensures (after _ _ _ _ _ c.in_ok-key.ensures
    (after _ _ _ _ _ c.in_ok-sequence.ensures (after _ _ _ _ _ c.in_ok-accepted.ensures (after _ _ _ _ _ c.in_ok-acl.ensures e))))))

pub returns-in_err-only_member-3 : goal.returns-in_err-only_member-3
returns-in_err-only_member-3 c = rw c.from_residual-in_err-only_member-3.ensures (λ p e.
    c.in_err-only_member-3.ensures p.at (inside _ _ _ _ _ c.in_ok-at.ensures (after _ _ _ _ _ c.in_ok-request.ensures
    (after _ _ _ _ _ c.in_ok-key.ensures (after _ _ _ _ _ c.in_ok-sequence.ensures
    (after _ _ _ _ _ c.in_ok-accepted.ensures (after _ _ _ _ _ c.in_ok-acl.ensures e)))))))

pub returns : goal.returns
returns c =
    let parts : spec.Parts = record {
      entries = c.in_ok-acl.acl.members;
      rows = c.in_ok-accepted.accepted.members;
      items = c.in_ok-sequence.sequence.members;
      key = c.in_ok-only_member.field-0;
      request = c.in_ok-only_member-2.field-0;
      at = c.in_ok-only_member-3.field-0;
      policy = c.in_ok-policy.policy;
    } in
    let written : c.args.members ≡ part_values parts =
    joined _ _ _ _ _ c.in_ok-acl.ensures refl (joined _ _ _ _ _ c.in_ok-accepted.ensures refl
    (joined _ _ _ _ _ c.in_ok-sequence.ensures refl (joined _ _ _ _ _ c.in_ok-key.ensures c.in_ok-only_member.ensures
    (joined _ _ _ _ _ c.in_ok-request.ensures c.in_ok-only_member-2.ensures
    (joined _ _ _ _ _ c.in_ok-at.ensures c.in_ok-only_member-3.ensures c.in_ok-policy.ensures))))) in
    let acl : c.in_ok-acl.acl.node ≡ headed _ c.in_ok-acl.acl.members = c.in_ok-acl.ensures.written in
    let sequence : c.in_ok-sequence.sequence.node ≡ headed _ c.in_ok-sequence.sequence.members = c.in_ok-sequence.ensures.written in
    (parts, record { written = written; acl = acl; rows = refl; sequence = sequence; key = refl; request = refl; at = refl; policy = refl })
