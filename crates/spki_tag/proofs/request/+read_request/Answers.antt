use Rattle.std.proofs.Common.{rules, arith}
use Rattle.spki_tag.proofs.{RequestReading.{requests_read, so_far_weight, so_far_push, list_is_request, so_far-named}, Named.{passed}}
use Rattle.spki_tag.proofs.request.+read_request.Goals as goal

pub read_request_members-read_request-requires : goal.read_request_members-read_request-requires
read_request_members-read_request-requires t c = (omega (arith, c.decreases, so_far_weight _ _ _ _ _ c.loop-first.invariant c.in-Some.ensures), tt)

pub read_request_members-loop-first-preserved : goal.read_request_members-loop-first-preserved
read_request_members-loop-first-preserved t c =
    rw c.in_ok-push.ensures.items (so_far_push _ _ _ _ _ _ c.loop-first.invariant c.in-Some.ensures c.in_ok-read_request.ensures.request c.in_ok-read_request.ensures.read)

pub read_headed-returns-clause-read : goal.read_headed-returns-clause-read
read_headed-returns-clause-read t c = rw (c.list.ensures, c.in_ok-octets.ensures.items) (list_is_request _ _ _ c.in_ok-members.ensures.read)

pub read_request_members-returns-in_err-read_request-clause-named : goal.read_request_members-returns-in_err-read_request-clause-named
read_request_members-returns-in_err-read_request-clause-named t c =
    passed _ _ _ c.from_residual-in_err-read_request.ensures.1 (so_far-named _ _ _ _ _ _ c.loop-first.invariant c.in-Some.ensures c.in_err-read_request.ensures.named)

pub read_headed-returns-in_err-members-clause-named : goal.read_headed-returns-in_err-members-clause-named
read_headed-returns-in_err-members-clause-named t c = search (rules, requests_read)

pub read_headed-returns-in_err-octets-clause-named : goal.read_headed-returns-in_err-octets-clause-named
read_headed-returns-in_err-octets-clause-named t c = search (rules, requests_read)

pub read_request-returns-in_err-from_slice-in-String-None-default-clause-named : goal.read_request-returns-in_err-from_slice-in-String-None-default-clause-named
read_request-returns-in_err-from_slice-in-String-None-default-clause-named t c = search (rules, requests_read)

pub read_request-returns-in-String-Some-default-clause-named : goal.read_request-returns-in-String-Some-default-clause-named
read_request-returns-in-String-Some-default-clause-named t c = search (rules, requests_read)

pub read_request_list-returns-in_err-head-in-Some-clause-named : goal.read_request_list-returns-in_err-head-in-Some-clause-named
read_request_list-returns-in_err-head-in-Some-clause-named t c = search (rules, requests_read)

pub read_request_list-returns-in-None-clause-named : goal.read_request_list-returns-in-None-clause-named
read_request_list-returns-in-None-clause-named t c = search (rules, requests_read)

pub read_request_list-returns-then-eq-clause-named : goal.read_request_list-returns-then-eq-clause-named
read_request_list-returns-then-eq-clause-named t c = search (rules, requests_read)

pub read_request_members-returns-in_err-push-clause-named : goal.read_request_members-returns-in_err-push-clause-named
read_request_members-returns-in_err-push-clause-named t c = search (rules, requests_read)

pub read_request_members-returns-in_err-requests-clause-named : goal.read_request_members-returns-in_err-requests-clause-named
read_request_members-returns-in_err-requests-clause-named t c = search (rules, requests_read)
