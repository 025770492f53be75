-- The lines of decisions, reductions, explanations and refusals: words with one space between two of them, and a line
-- feed. Numbers are decimal.
use Rattle.std.specs.Prelude.{ℕ, List, [], ◌∷◌, ◌++◌, codes, ◌≡◌, suc, Bool, true, false, ◌||◌, Option, Some, None}
use Rattle.sexpr_core.specs.{declared.fault.FormFault.{FormFault, TheVariants.{TooLong, TooDeep, Short, Bad, Trailing, Memory}}, Characters.{char}}
use Rattle.sexpr_core.specs.Value.{decimal, Value}
use Rattle.spki_tag.specs.declared.fault.TagFault.{TagFault}
use Rattle.spki_cert.specs.declared.fault.CertFaultKind.{CertFaultKind}
use Rattle.spki_case.specs.declared.{cases.CaseFault.{CaseFault}, rows.RowsFault.{RowsFault}}
use Rattle.spki_decision.specs.declared.{fault.GuardFault.{GuardFault}, evidence.Stop.{Stop}}
use Rattle.spki_decision.specs.declared.explanation.{Reason.{Reason}, Explanation.{Explanation}}
use Rattle.spki_decision.specs.declared.reduction.{Reduction.{Reduction}, EntryFold.{EntryFold}}
use Rattle.spki_reduce.specs.{declared.fold.Cause.{Cause}, Written.{IsWrittenFive}}
use Rattle.spki_guard.specs.declared.{intersection.IntersectFault.{IntersectFault}, refusals.Refusal.{Refusal}}
use Rattle.spki_guard.specs.declared.answers.Verdict.{Verdict, TheVariants.{Done, No}}
use Rattle.sexpr_text.specs.AdvancedForm.{adv}
use Rattle.spki_service.specs.declared.{failure.Failure.{Failure}, list_fault.AclFault.{AclFault}, question.{Part.{Part}, AskFault.{AskFault}}}
use Rattle.spki_tag.specs.declared.fault.TagFault.TheVariants as tag
use Rattle.spki_cert.specs.declared.fault.CertFaultKind.TheVariants as kind
use Rattle.spki_case.specs.declared.cases.CaseFault.TheVariants as faults
use Rattle.spki_case.specs.declared.rows.RowsFault.TheVariants as rows
use Rattle.spki_decision.specs.declared.fault.GuardFault.TheVariants as guard
use Rattle.spki_reduce.specs.declared.fold.Cause.TheVariants as cause
use Rattle.spki_decision.specs.declared.evidence.Stop.TheVariants as stop
use Rattle.spki_decision.specs.declared.explanation.Reason.TheVariants as reason
use Rattle.spki_guard.specs.declared.intersection.IntersectFault.TheVariants as intersect
use Rattle.spki_decision.specs.declared.reduction.Reduction.TheVariants as reduction
use Rattle.spki_decision.specs.declared.reduction.EntryFold.TheVariants as folded
use Rattle.spki_decision.specs.declared.explanation.Explanation.TheVariants as explanation
use Rattle.spki_service.specs.declared.list_fault.AclFault.TheVariants as lists
use Rattle.spki_service.specs.declared.question.Part.TheVariants as parts
use Rattle.spki_service.specs.declared.question.AskFault.TheVariants as questions
use Rattle.spki_guard.specs.declared.refusals.Refusal.TheVariants as refusals

-- ---- lines

-- A line is words with one space between two of them, and a line feed. Numbers are decimal.

abbrev pub line : List (List ℕ) → List ℕ
line [] = 10 ∷ []
line (word ∷ []) = word ++ 10 ∷ []
line (word ∷ next ∷ words) = word ++ char " " ∷ line (next ∷ words)

-- ---- answers of `check`

-- entry n, counted from 1, grants the request
abbrev pub yes_entry : ℕ → List ℕ
yes_entry n = line (codes "yes" ∷ codes "entry" ∷ decimal n ∷ [])

-- no entry grants it
abbrev pub no_line : List ℕ
no_line = line (codes "no" ∷ [])

-- ---- answers of `reduce` and `explain`

-- the name of a cause
abbrev pub cause_name : Cause → List ℕ
cause_name cause.NotIssuer = codes "NotIssuer"
cause_name cause.NotTheName = codes "NotTheName"
cause_name cause.NoDelegation = codes "NoDelegation"
cause_name cause.NoValidity = codes "NoValidity"
cause_name cause.NoTag = codes "NoTag"

-- the name of a test of the evidence
abbrev pub stop_name : Stop → List ℕ
stop_name stop.KeyNotShown = codes "KeyNotShown"
stop_name stop.DigestDiffers = codes "DigestDiffers"
stop_name stop.SignerDiffers = codes "SignerDiffers"
stop_name stop.NotAccepted = codes "NotAccepted"

-- the certificate of this item fails a test
abbrev pub item_line : ℕ → Stop → List ℕ
item_line item stop = line (codes "item" ∷ decimal item ∷ stop_name stop ∷ [])

-- the access list is empty
abbrev pub no_entries : List ℕ
no_entries = line (codes "no" ∷ codes "entries" ∷ [])

-- the line for entry n, counted from 1
abbrev pub entry_line : ℕ → List (List ℕ) → List ℕ
entry_line n words = line (codes "entry" ∷ decimal n ∷ words)

-- the line for entry n whose chain stops at the certificate of this item
abbrev pub stopped_line : ℕ → ℕ → Cause → List ℕ
stopped_line n item cause = entry_line n (codes "item" ∷ decimal item ∷ cause_name cause ∷ [])

-- the line that says why entry n grants the request or does not
abbrev pub reason_line : ℕ → Reason → List ℕ
reason_line n reason.Grants = entry_line n (codes "grants" ∷ [])
reason_line n reason.NotTheKey = entry_line n (codes "NotTheKey" ∷ [])
reason_line n reason.TagLacks = entry_line n (codes "TagLacks" ∷ [])
reason_line n reason.WindowLacks = entry_line n (codes "WindowLacks" ∷ [])
reason_line n (reason.Stopped item cause) = stopped_line n item cause

-- ---- refusals

abbrev pub refused : List (List ℕ) → List ℕ
refused why = line (codes "refused" ∷ why)

-- memory ran out
abbrev pub refused_memory : List ℕ
refused_memory = refused (codes "Memory" ∷ [])

-- tags are too large
abbrev pub refused_large : List ℕ
refused_large = refused (codes "TooLarge" ∷ [])

-- a fault in a part of what was read
abbrev pub refused_part : List ℕ → List ℕ → List ℕ
refused_part part kind = refused (part ∷ kind ∷ [])

-- a fault in an entry, a row or an item of a part, counted from 1; 0 is the part itself
abbrev pub refused_item : List ℕ → ℕ → List ℕ → List ℕ
refused_item part n kind = refused (part ∷ decimal n ∷ kind ∷ [])

-- a fault in the tag of an entry or item
abbrev pub refused_tag : List ℕ → ℕ → List ℕ → List ℕ
refused_tag part n kind = refused (part ∷ decimal n ∷ codes "Tag" ∷ kind ∷ [])

-- a fault at an offset of a text
abbrev pub refused_at : List ℕ → List ℕ → ℕ → List ℕ
refused_at text kind at = refused (text ∷ kind ∷ decimal at ∷ [])

-- a fault of a text, with this word for it
abbrev pub refused_text : List ℕ → FormFault → List ℕ
refused_text text TooLong = refused_part text (codes "TooLong")
refused_text text TooDeep = refused_part text (codes "TooDeep")
refused_text text Short = refused_part text (codes "Short")
refused_text text (Bad at) = refused_at text (codes "Bad") at
refused_text text (Trailing at) = refused_at text (codes "Trailing") at
refused_text text Memory = refused_memory

-- a fault of the text on standard input
abbrev pub refused_form : FormFault → List ℕ
refused_form fault = refused_text (codes "form") fault

-- the name of a fault of a tag or a request
abbrev pub tag_kind : TagFault → List ℕ
tag_kind tag.EmptyList = codes "EmptyList"
tag_kind tag.ListHead = codes "ListHead"
tag_kind tag.Hint = codes "Hint"
tag_kind tag.UnknownStar = codes "UnknownStar"
tag_kind tag.RangeOrdering = codes "RangeOrdering"
tag_kind tag.RangeLimit = codes "RangeLimit"
tag_kind tag.TooManyNodes = codes "TooManyNodes"
tag_kind tag.StarInRequest = codes "StarInRequest"
tag_kind tag.Memory = codes "Memory"

-- the name of a fault of a structure
abbrev pub kind_name : CertFaultKind → List ℕ
kind_name kind.Shape = codes "Shape"
kind_name kind.UnknownVersion = codes "UnknownVersion"
kind_name kind.HashAlg = codes "HashAlg"
kind_name kind.DigestLength = codes "DigestLength"
kind_name kind.KeyUris = codes "KeyUris"
kind_name kind.Threshold = codes "Threshold"
kind_name kind.Keyholder = codes "Keyholder"
kind_name kind.Online = codes "Online"
kind_name kind.RelativeInEntry = codes "RelativeInEntry"
kind_name kind.BadDate = codes "BadDate"
kind_name kind.UnsignedCert = codes "UnsignedCert"
kind_name kind.StraySignature = codes "StraySignature"
kind_name kind.UnknownOp = codes "UnknownOp"
kind_name (kind.Tag fault) = codes "Tag"
kind_name kind.Memory = codes "Memory"

-- a fault of an entry, a row or an item of a part
abbrev pub refused_in : List ℕ → ℕ → CertFaultKind → List ℕ
refused_in part n (kind.Tag fault) = refused_tag part n (tag_kind fault)
refused_in part n kind.Memory = refused_memory
refused_in part n other = refused_item part n (kind_name other)

-- a fault of a case
abbrev pub refused_case : CaseFault → List ℕ
refused_case (faults.Form fault) = refused_form fault
refused_case faults.Shape = refused_part (codes "case") (codes "Shape")
refused_case (faults.Acl fault) = refused_in (codes "acl") fault.item fault.kind
refused_case (faults.Accepted fault) = refused_in (codes "accepted") fault.item fault.kind
refused_case (faults.Sequence fault) = refused_in (codes "sequence") fault.item fault.kind
refused_case (faults.Key fault) = refused_part (codes "key") (kind_name fault.kind)
refused_case (faults.Request fault) = refused_part (codes "request") (tag_kind fault)
refused_case (faults.At fault) = refused_part (codes "at") (kind_name fault.kind)
refused_case faults.Memory = refused_memory

-- a fault of a separate accepted list; rows are counted from 1
abbrev pub refused_rows : RowsFault → List ℕ
refused_rows (rows.Form fault) = refused_text (codes "rows") fault
refused_rows rows.Shape = refused_part (codes "rows") (codes "Shape")
refused_rows (rows.Row fault) = refused_in (codes "rows") fault.item fault.kind
refused_rows rows.Memory = refused_memory

-- why a case is not decided
abbrev pub refused_decision : GuardFault → List ℕ
refused_decision guard.TooLarge = refused_large
refused_decision guard.Memory = refused_memory

-- why there is no intersection; the two tags are counted from 1
abbrev pub refused_intersect : IntersectFault → List ℕ
refused_intersect (intersect.Form fault) = refused_form fault
refused_intersect intersect.Shape = refused_part (codes "intersect") (codes "Shape")
refused_intersect (intersect.First fault) = refused_item (codes "tag") 1 (tag_kind fault)
refused_intersect (intersect.Second fault) = refused_item (codes "tag") 2 (tag_kind fault)
refused_intersect intersect.TooLarge = refused_large
refused_intersect intersect.Memory = refused_memory

-- a fault of a guard's access list
abbrev pub refused_list : AclFault → List ℕ
refused_list (lists.Form fault) = refused_form fault
refused_list (lists.Acl fault) = refused_in (codes "acl") fault.item fault.kind
refused_list lists.Memory = refused_memory

-- the word for a part of a question
abbrev pub part_word : Part → List ℕ
part_word parts.Sequence = codes "sequence"
part_word parts.Key = codes "key"
part_word parts.Request = codes "request"
part_word parts.Moment = codes "at"

-- a fault of a question to a guard
abbrev pub refused_question : AskFault → List ℕ
refused_question questions.TooLong = refused_part (codes "question") (codes "TooLong")
refused_question questions.TooManyCertificates = refused_part (codes "question") (codes "TooManyCertificates")
refused_question questions.TooManyWords = refused_part (codes "question") (codes "TooManyWords")
refused_question (questions.Form part fault) = refused_text (part_word part) fault
refused_question (questions.Sequence fault) = refused_in (codes "sequence") fault.item fault.kind
refused_question (questions.Key kind) = refused_part (codes "key") (kind_name kind)
refused_question (questions.Request fault) = refused_part (codes "request") (tag_kind fault)
refused_question (questions.Moment kind) = refused_part (codes "at") (kind_name kind)
refused_question questions.Memory = refused_memory

-- the line of a refusal
abbrev pub refused_line : Refusal → List ℕ
refused_line (refusals.Form fault) = refused_form fault
refused_line (refusals.Intersect fault) = refused_intersect fault
refused_line (refusals.Case fault) = refused_case fault
refused_line (refusals.Decision fault) = refused_decision fault
refused_line (refusals.Rows fault) = refused_rows fault
refused_line (refusals.List fault) = refused_list fault
refused_line (refusals.Question fault) = refused_question fault
refused_line refusals.Memory = refused_memory

-- ---- what is written for a case's reduction and explanation

-- the verdict: Done if some entry becomes an authorization or grants the request, otherwise No
abbrev pub verdict_of : Bool → Verdict
verdict_of true = Done
verdict_of false = No

-- ---- reductions

-- the line for entry n: the tuple that its chain becomes, in advanced form, or where the chain stops
abbrev pub IsFoldLine : ℕ → EntryFold → List ℕ → Type 0
IsFoldLine n (folded.Done f) output = (v : Value) × IsWrittenFive f v × (output ≡ entry_line n (adv v ∷ []))
IsFoldLine n (folded.Stopped item cause) output = output ≡ stopped_line n item cause

-- the lines of all entries; the first entry has this number
abbrev pub AreFoldLines : ℕ → List EntryFold → List ℕ → Type 0
AreFoldLines n [] output = output ≡ []
AreFoldLines n (fold ∷ folds) output = (first : List ℕ) × (rest : List ℕ)
    × IsFoldLine n fold first × AreFoldLines (suc n) folds rest × (output ≡ first ++ rest)

abbrev pub is_done : EntryFold → Bool
is_done (folded.Done f) = true
is_done (folded.Stopped item cause) = false

abbrev pub some_done : List EntryFold → Bool
some_done [] = false
some_done (fold ∷ folds) = is_done fold || some_done folds

abbrev pub ReportsFolds : List EntryFold → Verdict → List ℕ → Type 0
ReportsFolds [] verdict output = (verdict ≡ No) × (output ≡ no_entries)
ReportsFolds (fold ∷ folds) verdict output =
    (verdict ≡ verdict_of (some_done (fold ∷ folds))) × AreFoldLines 1 (fold ∷ folds) output

abbrev pub IsReductionReport : Reduction → Verdict → List ℕ → Type 0
IsReductionReport (reduction.Evidence item stop) verdict output = (verdict ≡ No) × (output ≡ item_line item stop)
IsReductionReport (reduction.Entries folds) verdict output = ReportsFolds folds.items verdict output

-- the line of the certificate that fails a test, or those of what the entries become
abbrev pub ReportsReduced : Option Failure → List EntryFold → Verdict → List ℕ → Type 0
ReportsReduced (Some failure) folds verdict output = (verdict ≡ No) × (output ≡ item_line failure.item failure.stop)
ReportsReduced None folds verdict output = ReportsFolds folds verdict output

-- ---- explanations

-- the lines of all entries; the first entry has this number
abbrev pub reason_lines : ℕ → List Reason → List ℕ
reason_lines n [] = []
reason_lines n (why ∷ reasons) = reason_line n why ++ reason_lines (suc n) reasons

abbrev pub is_grant : Reason → Bool
is_grant reason.Grants = true
is_grant reason.NotTheKey = false
is_grant reason.TagLacks = false
is_grant reason.WindowLacks = false
is_grant (reason.Stopped item cause) = false

abbrev pub some_grant : List Reason → Bool
some_grant [] = false
some_grant (why ∷ reasons) = is_grant why || some_grant reasons

abbrev pub ReportsReasons : List Reason → Verdict → List ℕ → Type 0
ReportsReasons [] verdict output = (verdict ≡ No) × (output ≡ no_entries)
ReportsReasons (why ∷ reasons) verdict output =
    (verdict ≡ verdict_of (some_grant (why ∷ reasons))) × (output ≡ reason_lines 1 (why ∷ reasons))

abbrev pub IsExplanationReport : Explanation → Verdict → List ℕ → Type 0
IsExplanationReport (explanation.Evidence item stop) verdict output = (verdict ≡ No) × (output ≡ item_line item stop)
IsExplanationReport (explanation.Entries reasons) verdict output = ReportsReasons reasons.items verdict output
