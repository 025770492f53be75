-- What a verifier is asked of certificates, and what its answers make of the evidence of a sequence and of the answer
-- to a case.
use Rattle.std.proofs.Common.{◌≡◌, ℕ, ◌+◌, List, [], ◌∷◌, ◌++◌, drop, Some, None, ◌&&◌, Option, option_and_then, refl, append_assoc, append-nil, rules, zero, suc, slice_get, subst, Result, Ok, Err, ◌<◌, sym, ◌∙◌, ap, map, length, take, get_or, arith, drop-cons, add-one}
use Rattle.std.proofs.lemmas.{Option.{none-some, same_Some, cond_some, option_and_then_some}, Bool.{and_parts}}
use Rattle.std.proofs.lemmas.List.{get_or-map, length-map, length-take-le, length-append, take_more, take-append-drop}
use Rattle.std.proofs.Math.Seq.{get_or-append_seam}
use Rattle.std.specs.List.{AllZip, AllByRecursion}
use Rattle.spki_cert.specs.{declared.{principal.Policy.{Policy}, certificate.SeqItem.{SeqItem}}, Naming.{names, is_digest}}
use Rattle.spki_case.specs.Case.{Verified, Shown, issuer_of, octets_of, Case, keys_of, certificates}
use Rattle.spki_decision.specs.declared.evidence.Stop.{Stop, TheVariants.{KeyNotShown, DigestDiffers, SignerDiffers, NotAccepted}}
use Rattle.spki_decision.specs.declared.evidence.Evidence.{Evidence}
use Rattle.spki_decision.specs.declared.decision.Decision.{Decision, TheVariants.{Yes, No}}
use Rattle.spki_decision.specs.declared.{fault.GuardFault.{GuardFault, TheVariants.{TooLarge, Memory}}, explanation.Explanation.{Explanation}}
use Rattle.spki_decision.specs.declared.reduction.{EntryFold.{EntryFold}, Reduction.{Reduction}}
use Rattle.spki_decision.specs.CertificateTests.{issuer_key, PassesTests, FailsBy, Signed, asked_of, asked_with, asked_in, every, PassesTestsAs, FailsAt, AreShown, asked, before_all, IsAccepted, AgreeOn, FailsIn, signed_of, RefusedAt}
use Rattle.spki_decision.specs.{Judged.{PassesAs, IsEvidence}, Granted.{Granted, IsDecision, AreFolds, IsFailure, SomeTooLarge}}
use Rattle.spki_decision.specs.Answered.{IsDecided, IsExplained, IsReduced}
use Rattle.spki_decision.proofs.{CertificateTests.{at_index, below}, EntryChains.{all_pushed}}
use Rattle.spki_reduce.specs.Reduction.{Tuple}
use Rattle.spki_decision.specs.declared.explanation.Explanation.TheVariants as explanation
use Rattle.spki_decision.specs.declared.reduction.Reduction.TheVariants as reduction
use Rattle.spki_decision.specs.declared.evidence.Evidence.TheVariants as evidence
use Rattle.spki_decision.specs.declared.signed.Signed as examined

-- ---- what a verifier is asked of one certificate

module _ (policy : Policy) (keys : List (List ℕ)) where
  pub stands_asked : (verified : Verified) (s : Shown) (holder : List ℕ) → (a : PassesTests policy keys verified s holder)
      → asked_of policy keys s ≡ Some (record { item = s.item; key = holder; message = octets_of s.certificate; value = a.signature.value })
  stands_asked verified s holder a = rw (a.issued, a.signed, a.digest, a.signer) refl

  -- a verifier is not asked about a certificate that fails one of the first three tests
  pub not_asked : (s : Shown) (stop : Stop) → FailsBy policy keys every s stop → asked_of policy keys s ≡ None
  not_asked s KeyNotShown f = rw f refl
  not_asked s DigestDiffers f = rw (f.2, f.3, f.4) refl
  not_asked s SignerDiffers f = rw (f.2, f.3, f.4, f.5) refl
  not_asked s NotAccepted f = absurd (f.6 tt)

  -- the signature that a verifier is asked about is that of a certificate which passes the first three tests
  pub asks : (s : Shown) (t : Signed) → asked_of policy keys s ≡ Some t → PassesAs policy keys s t
  asks s t e =
      option_and_then_some (λ holder. option_and_then (asked_with policy s holder) s.signature) (issuer_key policy keys (issuer_of s.certificate)) t e
      (λ holder k f. option_and_then_some (asked_with policy s holder) s.signature t f (λ x g h.
      let tests = cond_some (is_digest x.alg x.digest (octets_of s.certificate) && names policy x.signer holder) _ t h in
      let both = and_parts (is_digest x.alg x.digest (octets_of s.certificate)) (names policy x.signer holder) tests.0 in
      rw (← tests.1) (record {
        stands = record { issued = k; signature = x; signed = g; digest = both.0; signer = both.1; accepted = tt };
        signed_is = refl;
      })))

  -- a certificate that passes its tests passes them by each verifier that accepts its signature
  pub accepted_too : (one other : Verified) (s : Shown) (holder : List ℕ) → (a : PassesTests policy keys one s holder)
      → other holder (octets_of s.certificate) a.signature.value → PassesTests policy keys other s holder
  accepted_too one other s holder a accepted = search rules

-- ---- one certificate more

module _ (policy : Policy) (keys : List (List ℕ)) (done : List Signed) (xs : List Shown) (i : ℕ) (x : Shown)
    (rest : drop i xs ≡ x ∷ drop (i + 1) xs) (so_far : asked_in policy keys xs ≡ done ++ asked_in policy keys (drop i xs)) where
  pub asked_more : (t : Signed) → asked_of policy keys x ≡ Some t
      → asked_in policy keys xs ≡ done ++ t ∷ [] ++ asked_in policy keys (drop (i + 1) xs)
  asked_more t o = search (rules, append_assoc)

  pub asked_whole : asked_of policy keys x ≡ None → asked_in policy keys xs ≡ done
  asked_whole o = search (rules, append-nil)

-- ---- two verifiers that agree on what they are asked give the same answers

swap : (one other : Verified) (signatures : List Signed) → AgreeOn one other signatures → AgreeOn other one signatures
swap one other [] agree = tt
swap one other (s ∷ signatures) agree = ((agree.0.1, agree.0.0), swap one other signatures agree.1)

-- ---- certificates

module _ (policy : Policy) (keys : List (List ℕ)) (one other : Verified) where
  agreed : (s : Shown) (t : Signed) (others : List Signed) → asked_of policy keys s ≡ Some t
      → AgreeOn one other (before_all (asked_of policy keys s) others)
      → ((IsAccepted one t → IsAccepted other t) × (IsAccepted other t → IsAccepted one t)) × AgreeOn one other others
  agreed s t others e agree = rw e at agree

  stands : (s : Shown) (holder : List ℕ) (others : List Signed) → AgreeOn one other (before_all (asked_of policy keys s) others)
      → PassesTests policy keys one s holder → PassesTests policy keys other s holder × AgreeOn one other others
  stands s holder others agree a = search (rules, agreed, stands_asked, accepted_too)

  pub all_shown : (shown : List Shown) (ts : List Tuple) → AgreeOn one other (asked_in policy keys shown)
      → AllZip (PassesTestsAs policy keys one) shown ts → AllZip (PassesTestsAs policy keys other) shown ts
  all_shown [] [] agree a = tt
  all_shown (s ∷ shown) (t ∷ ts) agree a =
      let here = stands s a.0.holder (asked_in policy keys shown) agree a.0.stands in
      (record { holder = a.0.holder; stands = here.0; tuple_is = a.0.tuple_is }, all_shown shown ts here.1 a.1)
  all_shown shown ts agree a = search

  fails_by : (s : Shown) (others : List Signed) (stop : Stop) → AgreeOn one other (before_all (asked_of policy keys s) others)
      → FailsBy policy keys one s stop → FailsBy policy keys other s stop
  fails_by s others NotAccepted agree f = search (rules, agreed)
  fails_by s others _ agree f = f

  all_before : (before : List Shown) (s : Shown) (after : List Shown) (stop : Stop) → AgreeOn one other (asked_in policy keys (before ++ s ∷ after))
      → AllByRecursion (λ shown. (holder : List ℕ) × PassesTests policy keys one shown holder) before → FailsBy policy keys one s stop
      → AllByRecursion (λ shown. (holder : List ℕ) × PassesTests policy keys other shown holder) before × FailsBy policy keys other s stop
  all_before [] s after stop agree standing f = (tt, fails_by s (asked_in policy keys after) stop agree f)
  all_before (b ∷ before) s after stop agree standing f =
      let here = stands b standing.0.0 (asked_in policy keys (before ++ s ∷ after)) agree standing.0.1 in
      let later = all_before before s after stop here.1 standing.1 f in
      (((standing.0.0, here.0), later.0), later.1)

-- by both verifiers the same certificate fails the same test
pub still_failing : (policy : Policy) (items : List SeqItem) (one other : Verified)
    → AgreeOn one other (asked_in policy (keys_of items) (certificates items)) → (item : ℕ) (stop : Stop)
    → FailsAt policy one items item stop → FailsAt policy other items item stop
still_failing policy items one other agree item stop f = search (rules, all_before)

module _ (policy : Policy) (keys : List (List ℕ)) (verified : Verified) where
  accepted_here : (t : Signed) (others : List Signed) (index : ℕ) (s : Signed) → IsAccepted verified t
      → ((p : ℕ) → slice_get others p ≡ Some s → IsAccepted verified s)
      → slice_get (t ∷ others) index ≡ Some s → IsAccepted verified s
  accepted_here t others zero s first later stands = subst (λ (u : Signed). IsAccepted verified u) (same_Some t s stands) first
  accepted_here t others (suc index) s first later stands = later index stands

  -- if every certificate passes its tests, the verifier accepts each signature that it is asked about
  accepted_at : (shown : List Shown) (ts : List Tuple) (index : ℕ) (s : Signed) → AllZip (PassesTestsAs policy keys verified) shown ts
      → slice_get (asked_in policy keys shown) index ≡ Some s → IsAccepted verified s
  accepted_at [] ts index s a stands = absurd (none-some s stands)
  accepted_at (x ∷ shown) [] index s a stands = absurd a
  accepted_at (x ∷ shown) (t ∷ ts) index s a stands =
      let parted = rw (stands_asked policy keys verified x a.0.holder a.0.stands) at stands in
      accepted_here _ (asked_in policy keys shown) index s a.0.stands.accepted (λ p e. accepted_at shown ts p s a.1 e) parted

-- ---- cases

-- if the verifier does not accept a signature that it is asked about, `decide` answers no
pub no_by : (c : Case) (verified : Verified) (index : ℕ) (s : Signed) (x : Result Decision GuardFault) → slice_get (asked c) index ≡ Some s
    → ¬ IsAccepted verified s → IsDecided c verified x → x ≡ Ok No
no_by c verified index s (Ok (Yes n)) stands refused d =
    absurd (refused (accepted_at c.policy (keys_of c.items) verified (certificates c.items) d.0.granted.tuples index s d.0.granted.shown stands))
no_by c verified index s (Ok No) stands refused d = refl
no_by c verified index s (Err TooLarge) stands refused d =
    absurd (refused (accepted_at c.policy (keys_of c.items) verified (certificates c.items) d.tuples index s d.shown stands))
no_by c verified index s (Err Memory) stands refused d = absurd d

-- if it does not accept one, the decision is no
pub none_by : (c : Case) (verified : Verified) (index : ℕ) (s : Signed) (d : Decision) → slice_get (asked c) index ≡ Some s
    → ¬ IsAccepted verified s → IsDecision c verified d → d ≡ No
none_by c verified index s (Yes n) stands refused d =
    absurd (refused (accepted_at c.policy (keys_of c.items) verified (certificates c.items) d.granted.tuples index s d.granted.shown stands))
none_by c verified index s No stands refused d = refl

shown_with : (c : Case) (one other : Verified) → AgreeOn one other (asked c) → (ts : List Tuple) → AreShown c.policy one c.items ts
    → AreShown c.policy other c.items ts
shown_with c one other agree ts shown = all_shown c.policy (keys_of c.items) one other (certificates c.items) ts agree shown

granted_with : (c : Case) (one other : Verified) → AgreeOn one other (asked c) → (n : ℕ) → Granted n c one → Granted n c other
granted_with c one other agree n g = search (rules, shown_with)

module _ (c : Case) (one other : Verified) (agree : AgreeOn one other (asked c)) where
  shown_back : (ts : List Tuple) → AreShown c.policy other c.items ts → AreShown c.policy one c.items ts
  shown_back = shown_with c other one (swap one other (asked c) agree)

  granted_back : (n : ℕ) → Granted n c other → Granted n c one
  granted_back = granted_with c other one (swap one other (asked c) agree)

  pub failure_by : (item : ℕ) (stop : Stop) → IsFailure c one item stop → IsFailure c other item stop
  failure_by item stop f = search (rules, still_failing, shown_back)

  pub some_large_by : SomeTooLarge c one → SomeTooLarge c other
  some_large_by l = search (rules, shown_with)

  pub decision_by : (d : Decision) → IsDecision c one d → IsDecision c other d
  decision_by (Yes n) d = search (rules, granted_with, granted_back, d.none_before)
  decision_by No d = λ n g. d n (granted_back n g)

  pub decided_by : (x : Result Decision GuardFault) → IsDecided c one x → IsDecided c other x
  decided_by (Ok d) a = (decision_by d a.0, λ ts shown. a.1 ts (shown_back ts shown))
  decided_by (Err TooLarge) a = search (rules, shown_with, granted_back, a.none_granted)
  decided_by (Err Memory) a = absurd a

  pub explained_by : (x : Result Explanation GuardFault) → IsExplained c one x → IsExplained c other x
  explained_by (Ok (explanation.Evidence item stop)) a = failure_by item stop a
  explained_by (Ok (explanation.Entries reasons)) a = search (rules, shown_with, granted_with, granted_back)
  explained_by (Err TooLarge) a = some_large_by a
  explained_by (Err Memory) a = absurd a

  pub folds_by : (folds : List EntryFold) → AreFolds c one folds → AreFolds c other folds
  folds_by folds a = search (rules, shown_with)

  pub reduced_by : (x : Result Reduction GuardFault) → IsReduced c one x → IsReduced c other x
  reduced_by (Ok (reduction.Evidence item stop)) a = (failure_by item stop a.0, a.1)
  reduced_by (Ok (reduction.Entries folds)) a = (folds_by folds.items a.0, a.1)
  reduced_by (Err TooLarge) a = some_large_by a
  reduced_by (Err Memory) a = absurd a

-- ---- the evidence of a sequence if each listed signature is accepted

pub agrees : (verified : Verified) (signatures : List Signed) → AllByRecursion (IsAccepted verified) signatures → AgreeOn every verified signatures
agrees verified [] accepted = tt
agrees verified (s ∷ signatures) accepted = ((λ _. accepted.0, λ _. tt), agrees verified signatures accepted.1)

module _ (policy : Policy) (verified : Verified) (items : List SeqItem) where
  pub all_accepted : (e : Evidence) → AllByRecursion (IsAccepted verified) (asked_in policy (keys_of items) (certificates items))
      → IsEvidence policy every items e → IsEvidence policy verified items e
  all_accepted (evidence.Verified steps) accepted h = search (rules, all_shown, agrees)
  all_accepted (evidence.Fails item stop) accepted h =
      still_failing policy items every verified (agrees verified (asked_in policy (keys_of items) (certificates items)) accepted) item stop h

-- ---- the evidence if one of them is refused

module _ (policy : Policy) (keys : List (List ℕ)) (verified : Verified) where
  refused : (s : Shown) (t : Signed) → PassesAs policy keys s t → ¬ IsAccepted verified t → FailsBy policy keys verified s NotAccepted
  refused s t a not = search rules

  first_here : (s : Shown) (shown : List Shown) (t r : Signed) (after : List Signed) → PassesAs policy keys s t
      → t ∷ asked_in policy keys shown ≡ r ∷ after → ¬ IsAccepted verified r → FailsIn policy keys verified (s ∷ shown) r.item NotAccepted
  first_here s shown t r after a e not =
      let same : t ≡ r = cc in
      let b : PassesAs policy keys s r = rw same at a in
      record {
        before = [];
        failing = s;
        after = shown;
        parts = refl;
        standing = tt;
        index = ap (λ (u : Signed). u.item) b.signed_is;
        fails = refused s r b not;
      }

  one_before : (s : Shown) (shown : List Shown) (t : Signed) (item : ℕ) → PassesAs policy keys s t → IsAccepted verified t
      → FailsIn policy keys verified shown item NotAccepted → FailsIn policy keys verified (s ∷ shown) item NotAccepted
  one_before s shown t item a accepted r = record {
    before = s ∷ r.before;
    failing = r.failing;
    after = r.after;
    parts = ap (λ xs. s ∷ xs) r.parts;
    standing = ((t.key, accepted_too policy keys every verified s t.key a.stands (subst (IsAccepted verified) a.signed_is accepted)), r.standing);
    index = r.index;
    fails = r.fails;
  }

  by_first : (s : Shown) (shown : List Shown) (o : Option Signed) (before : List Signed) (r : Signed) (after : List Signed)
      → asked_of policy keys s ≡ o → before_all o (asked_in policy keys shown) ≡ before ++ r ∷ after
      → AllByRecursion (IsAccepted verified) before → ¬ IsAccepted verified r
      → ((others : List Signed) → asked_in policy keys shown ≡ others ++ r ∷ after → AllByRecursion (IsAccepted verified) others
      → FailsIn policy keys verified shown r.item NotAccepted)
      → FailsIn policy keys verified (s ∷ shown) r.item NotAccepted
  by_first s shown None [] r after o e accepted not later = absurd cc
  by_first s shown None (b ∷ before) r after o e accepted not later = absurd cc
  by_first s shown (Some t) [] r after o e accepted not later = first_here s shown t r after (asks policy keys s t o) e not
  by_first s shown (Some t) (b ∷ before) r after o e accepted not later =
      let same : t ≡ b = cc in
      let others : asked_in policy keys shown ≡ before ++ r ∷ after = cc in
      one_before s shown t r.item (asks policy keys s t o) (rw same accepted.0) (later before others accepted.1)

  refused_in : (shown : List Shown) (before : List Signed) (r : Signed) (after : List Signed)
      → asked_in policy keys shown ≡ before ++ r ∷ after → AllByRecursion (IsAccepted verified) before → ¬ IsAccepted verified r
      → FailsIn policy keys verified shown r.item NotAccepted
  refused_in [] [] r after e accepted not = absurd cc
  refused_in [] (b ∷ before) r after e accepted not = absurd cc
  refused_in (s ∷ shown) before r after e accepted not =
      by_first s shown (asked_of policy keys s) before r after refl e accepted not
      (λ others f more. refused_in shown others r after f more not)

pub not_accepted : (policy : Policy) (verified : Verified) (items : List SeqItem) (signed : List Signed) (index : ℕ)
    → signed ≡ asked_in policy (keys_of items) (certificates items) → (r : RefusedAt verified signed index)
    → FailsAt policy verified items r.refused.item NotAccepted
not_accepted policy verified items signed index same r =
    refused_in policy (keys_of items) verified (certificates items) r.before r.refused r.after (sym same ∙ r.parts) r.accepted r.not_accepted

-- ---- one listed signature more that the verifier is asked about

module _ (verified : Verified) (signed : List Signed) (index : ℕ) (within : index < length signed) (one : Signed)
    (here : one ≡ get_or signed index one) (before : AllByRecursion (IsAccepted verified) (take index signed)) where
  rest : drop index signed ≡ one ∷ drop (index + 1) signed
  rest = search (rules, drop-cons, add-one)

  pub one_accepted : IsAccepted verified one → AllByRecursion (IsAccepted verified) (take (index + 1) signed)
  one_accepted accepted =
      all_pushed (IsAccepted verified) (take index signed) (take (index + 1) signed) one before accepted
      (rw (← here) at (take_more signed index one within))

  pub refused_at : ¬ IsAccepted verified one → RefusedAt verified signed index
  refused_at not = record {
    before = take index signed;
    refused = one;
    after = drop (index + 1) signed;
    parts = sym (take-append-drop index signed) ∙ ap (λ xs. take index signed ++ xs) rest;
    index_is = sym (length-take-le index signed (let b = within in omega arith));
    accepted = before;
    not_accepted = not;
  }

module _ (verified : Verified) (kept : List examined.Signed) (i : ℕ) (within : i < length kept) (one : examined.Signed)
    (here : one ≡ get_or kept i one) (before : AllByRecursion (IsAccepted verified) (take i (map signed_of kept))) where
  pub one_more : IsAccepted verified (signed_of one) → AllByRecursion (IsAccepted verified) (take (i + 1) (map signed_of kept))
  one_more = one_accepted verified (map signed_of kept) i (below signed_of kept i within one here) (signed_of one)
      (sym (at_index signed_of kept i within one here)) before

  pub refused_here : ¬ IsAccepted verified (signed_of one) → RefusedAt verified (map signed_of kept) i
  refused_here = refused_at verified (map signed_of kept) i (below signed_of kept i within one here) (signed_of one)
      (sym (at_index signed_of kept i within one here)) before

-- ---- the signature at the index of the first refused one

module _ (verified : Verified) (kept : List examined.Signed) (index : ℕ) (r : RefusedAt verified (map signed_of kept) index) where
  pub refused_within : index < length kept
  refused_within = search (rules, length-append, refused, length-map)

  pub refused_item : (d : examined.Signed) → (get_or kept index d).item ≡ r.refused.item
  refused_item d =
      let there : get_or (map signed_of kept) index (signed_of d) ≡ r.refused =
      ap (λ xs. get_or xs index (signed_of d)) r.parts ∙ ap (λ k. get_or (r.before ++ r.refused ∷ r.after) k (signed_of d)) r.index_is
      ∙ get_or-append_seam r.before r.refused r.after (signed_of d) in
      ap (λ s. s.item) (sym (get_or-map signed_of kept index d (signed_of d) refused_within) ∙ there)
