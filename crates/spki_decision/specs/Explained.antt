-- Why each entry of a case grants the request or does not (RFC 2693, section 6.3), and the sinks that take what its
-- entries become and the reasons.
use Rattle.std.proofs.Common.{◌≡◌, List, [], ◌++◌, Vec, Global, sym, refl, append-nil, ◌≢◌, ◌↔◌, ℕ, suc, ◌<◌, ◌∷◌, Option, Some, None, slice_get, length}
use Rattle.std.specs.List.{AllZip}
use Rattle.spki_tag.specs.Tag.{set, none}
use Rattle.spki_cert.specs.declared.entry.Entry.{Entry}
use Rattle.spki_reduce.specs.declared.last_tests.MissingGrant.{MissingGrant}
use Rattle.spki_reduce.specs.{Reduction.{FiveTuple, Tuple, five, entry_tuple, Derives, from_left, SomeMoment, met, IsMissingGrant}, Chain.{all_tags}}
use Rattle.spki_case.specs.{Case.{Case, Verified}, View.{model}}
use Rattle.spki_decision.specs.declared.explanation.Explanation.{Explanation, TheVariants.{Evidence, Entries}}
use Rattle.spki_decision.specs.declared.explanation.Reason.{Reason, TheVariants.{Grants, NotTheKey, TagLacks, WindowLacks, Stopped}}
use Rattle.spki_decision.specs.declared.explanation.ReasonSink.{ReasonSink}
use Rattle.spki_decision.specs.declared.{decision.Decision.{Decision, TheVariants.{Yes, No}}, reduction.EntryFold.{EntryFold}}
use Rattle.spki_decision.specs.CertificateTests.{AreShown, with_entries}
use Rattle.spki_decision.specs.Granted.{Supported, AllSmall, Granted, IsFailure, StopsAtItem, IsWithinWork, IsEntryFold}
use Rattle.spki_reduce.specs.declared.last_tests.MissingGrant.TheVariants as missing

-- ---- why each entry of a case grants the request or does not (RFC 2693, section 6.3)

-- The tuples of an entry and of the certificates have a derivation. If there is a certificate, some moment is within all its
-- windows. The intersection of their tags, one after another, is not (* set), unless no certificate has a tag. `missing` is the
-- first of the three tests that the root does not pass.
pub record LacksFirst (c : Case) (tuples : List Tuple) (e : Entry) (missing : MissingGrant) : Type 0 where
  pub root : FiveTuple
  pub derived : Derives c.policy (from_left (five (entry_tuple e)) tuples) (five root)
  pub timely : tuples ≢ [] → SomeMoment root.windows
  pub tagged : met (all_tags (five (entry_tuple e) ∷ tuples)) ≡ set none → all_tags tuples ≡ []
  pub first : IsMissingGrant c.policy root c.key c.request c.moment (Some missing)

-- why an entry and the certificates grant the request or do not
abbrev pub IsReason : Case → List Tuple → Entry → Reason → Type 0
IsReason c tuples e Grants = Supported c tuples e
IsReason c tuples e NotTheKey = LacksFirst c tuples e missing.NotTheKey
IsReason c tuples e TagLacks = LacksFirst c tuples e missing.TagLacks
IsReason c tuples e WindowLacks = LacksFirst c tuples e missing.WindowLacks
IsReason c tuples e (Stopped item cause) = StopsAtItem c tuples e item cause

-- the reason for this result of the three tests
abbrev pub reason_of : Option MissingGrant → Reason
reason_of None = Grants
reason_of (Some missing.NotTheKey) = NotTheKey
reason_of (Some missing.TagLacks) = TagLacks
reason_of (Some missing.WindowLacks) = WindowLacks

-- Every certificate passes its tests, and each entry, in order, has its reason. The reason is Grants exactly if the entry is granted.
-- No chain is too large at a step, and the work of all is within the limit.
pub record AreReasons (c : Case) (verified : Verified) (reasons : List Reason) : Type 0 where
  pub tuples : List Tuple
  pub shown : AreShown c.policy verified c.items tuples
  pub each : AllZip (IsReason c tuples) c.entries reasons
  pub within_limit : AllSmall c tuples
  pub worked : IsWithinWork c tuples (length c.entries)
  pub grants : (index : ℕ) → (slice_get reasons index ≡ Some Grants) ↔ Granted (suc index) c verified

-- the first certificate that fails a test, or the reasons of the entries
abbrev pub IsExplanation : Case → Verified → Explanation → Type 0
IsExplanation c verified (Evidence item stop) = IsFailure c verified item stop
IsExplanation c verified (Entries reasons) = AreReasons c verified reasons.items

-- the same certificate and test, or the same reasons
abbrev pub IsSameExplanation : Explanation → Explanation → Type 0
IsSameExplanation (Evidence item stop) (Evidence other last) = (item ≡ other) × (stop ≡ last)
IsSameExplanation (Evidence item stop) (Entries reasons) = ⊥
IsSameExplanation (Entries reasons) (Evidence item stop) = ⊥
IsSameExplanation (Entries reasons) (Entries others) = reasons.items ≡ others.items

-- ---- explanations and decisions

-- The reason of entry number n, from 1, is the first that is Grants.
pub record IsFirstGrant (reasons : List Reason) (n : ℕ) : Type 0 where
  pub index : ℕ
  pub numbered : n ≡ suc index
  pub here : slice_get reasons index ≡ Some Grants
  pub none_before : (k : ℕ) → k < index → slice_get reasons k ≢ Some Grants

-- a decision names the first entry whose reason is Grants; it is no if there is none, or if a certificate fails a test
abbrev pub Agrees : Explanation → Decision → Type 0
Agrees (Evidence item stop) d = d ≡ No
Agrees (Entries reasons) d = (n : ℕ) → (d ≡ Yes n) ↔ IsFirstGrant reasons.items n

-- ---- a vector as a sink: it keeps what the entries become

abbrev pub TakesFolds : Vec EntryFold Global → List EntryFold → Vec EntryFold Global → Type 0
TakesFolds old folds new = new.items ≡ old.items ++ folds

pub no_folds : (v : Vec EntryFold Global) → TakesFolds v [] v
no_folds v = sym (append-nil v.items)

-- ---- a sink that keeps only the reasons of the entries

-- the reason of every entry that becomes this with all certificates
abbrev pub IsReasonFor : Case → EntryFold → Reason → Type 0
IsReasonFor c fold reason =
    (es : List Entry) (tuples : List Tuple) (e : Entry) → IsEntryFold (with_entries c es) tuples e fold → IsReason (with_entries c es) tuples e reason

-- The sink has the reasons that it had before, and behind them one for each of these folds, in order.
abbrev pub TakesReasons : ReasonSink → List EntryFold → ReasonSink → Type 0
TakesReasons start folds sink =
    (sink.case ≡ start.case) × (added : List Reason) × (sink.reasons.items ≡ start.reasons.items ++ added)
    × AllZip (IsReasonFor (model start.case.now)) folds added

pub no_reasons : (sink : ReasonSink) → TakesReasons sink [] sink
no_reasons sink = (refl, [], sym (append-nil sink.reasons.items), tt)
