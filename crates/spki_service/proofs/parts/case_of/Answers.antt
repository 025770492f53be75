use Rattle.std.proofs.Common.{ap, map, rules}
use Rattle.spki_case.specs.View.{model, row_of}
use Rattle.spki_service.proofs.PartTexts.{asked_case, sequence_read, key_read, request_read, sequence_lacks, key_lacks, request_lacks, moment_lacks, lifted}
use Rattle.spki_service.proofs.parts.case_of.Goals as goal

pub returns-in_err-sequence-clause-refused : goal.returns-in_err-sequence-clause-refused
returns-in_err-sequence-clause-refused c = search (rules, lifted, sequence_lacks)

pub returns-in_err-key-clause-refused : goal.returns-in_err-key-clause-refused
returns-in_err-key-clause-refused c = λ q t.
    let texts = c.args.texts.now in
    let sequence = sequence_read q texts t c.in_ok-sequence.sequence.items c.in_ok-sequence.ensures.read in
    lifted q c.in_err-key.field-0.0 c.from_residual-in_err-key.result c.from_residual-in_err-key.ensures.1
    (λ found. key_lacks q texts t c.in_err-key.field-0.0 sequence (c.in_err-key.ensures.refused found))

pub returns-in_err-request-clause-refused : goal.returns-in_err-request-clause-refused
returns-in_err-request-clause-refused c = λ q t.
    let texts = c.args.texts.now in
    let sequence = sequence_read q texts t c.in_ok-sequence.sequence.items c.in_ok-sequence.ensures.read in
    let key = key_read q texts t c.in_ok-key.key c.in_ok-key.ensures.read in
    lifted q c.in_err-request.field-0.0 c.from_residual-in_err-request.result c.from_residual-in_err-request.ensures.1
    (λ found. request_lacks q texts t c.in_err-request.field-0.0 (sequence, key) (c.in_err-request.ensures.refused found))

pub returns-in_err-moment-clause-refused : goal.returns-in_err-moment-clause-refused
returns-in_err-moment-clause-refused c = λ q t.
    let texts = c.args.texts.now in
    let sequence = sequence_read q texts t c.in_ok-sequence.sequence.items c.in_ok-sequence.ensures.read in
    let key = key_read q texts t c.in_ok-key.key c.in_ok-key.ensures.read in
    let request = request_read q texts t c.in_ok-request.request c.in_ok-request.ensures.read in
    lifted q c.in_err-moment.field-0.0 c.from_residual-in_err-moment.result c.from_residual-in_err-moment.ensures.1
    (λ found. moment_lacks q texts t c.in_err-moment.field-0.0 (sequence, (key, request)) (c.in_err-moment.ensures.refused found))

pub returns-clause-asked : goal.returns-clause-asked
returns-clause-asked c = λ q t.
    let made = c.in_ok-asking.ensures in
    asked_case q c.args.texts.now t (model c.in_ok-asking.field-0) made.entries (ap (map row_of) made.rows)
    (rw made.items c.in_ok-sequence.ensures.read) (rw made.key c.in_ok-key.ensures.read)
    (rw made.request c.in_ok-request.ensures.read) (rw made.moment c.in_ok-moment.ensures.read)
