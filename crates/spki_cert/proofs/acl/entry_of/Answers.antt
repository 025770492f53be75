use Rattle.std.{proofs.{Common.{◌≡◌, ◌≢◌, ap, ◌∙◌, Some, Option, refl, rules}, lemmas.Result.{IfErr-weaker}}, specs.Prelude.{is_some}}
use Rattle.spki_cert.proofs.{HeadedLists.{carried}, EntryFaultNone.{entry-refused}, SubjectFaultNone.{entry_subject-none}}
use Rattle.spki_cert.proofs.{FieldFaultLaws.{both-ways, one-way, has-tag}, EntryFaultLaws.{entry-unheaded, entry-form, entry-looked}}
use Rattle.spki_cert.specs.{declared.fault.CertFaultKind.{CertFaultKind, TheVariants.{Memory}}, StructureFaults.{entry_fault}}
use Rattle.spki_tag.specs.Tag as tags
use Rattle.spki_cert.proofs.acl.entry_of.Goals as goal

pub returns-in_default-clause-named : goal.returns-in_default-clause-named
returns-in_default-clause-named c = λ _. entry-unheaded c.args.node.now c.in_default.ensures

pub returns-in_default-split_first-clause-named : goal.returns-in_default-split_first-clause-named
unfolding entry_fault
returns-in_default-split_first-clause-named c = λ _. search (rules, entry-form)

pub returns-in_err-subject-clause-named : goal.returns-in_err-subject-clause-named
returns-in_err-subject-clause-named c =
    carried c.from_residual.result _ (λ (kind : CertFaultKind). kind ≢ Memory → entry_fault c.args.node.now ≡ Some kind) c.from_residual.ensures.1
    (λ known. entry-looked c.args.node.now _ _ c.in-Some-split_first.rest _ _ _ _ c.in-Some.ensures c.in-Some-split_first.ensures
    (c.in_err-subject.ensures.named known) refl refl refl)

pub returns-in_err-propagate-clause-named : goal.returns-in_err-propagate-clause-named
returns-in_err-propagate-clause-named c =
    carried c.from_residual-in_err-propagate.result _ (λ (kind : CertFaultKind). kind ≢ Memory → entry_fault c.args.node.now ≡ Some kind) c.from_residual-in_err-propagate.ensures.1
    (λ known. entry-looked c.args.node.now _ _ c.in-Some-split_first.rest _ _ _ _ c.in-Some.ensures c.in-Some-split_first.ensures
    ((entry_subject-none _).1 (_, c.in_ok-subject.ensures.found)) (c.in_err-propagate.ensures.named known) refl refl)

pub returns-in_default-window_of_limits-clause-named : goal.returns-in_default-window_of_limits-clause-named
returns-in_default-window_of_limits-clause-named c = λ _.
    entry-looked c.args.node.now _ _ c.in-Some-split_first.rest _ _ _ _ c.in-Some.ensures c.in-Some-split_first.ensures
    ((entry_subject-none _).1 (_, c.in_ok-subject.ensures.found)) c.in_ok-propagate.ensures.faultless
    (both-ways c.in-Some-split_first.rest c.in_ok-propagate.field-0.known c.in_ok-propagate.ensures.found.1 c.in_default-window_of_limits.ensures) refl

pub returns-in_default-tag-clause-named : goal.returns-in_default-tag-clause-named
returns-in_default-tag-clause-named c = λ _.
    entry-looked c.args.node.now _ _ c.in-Some-split_first.rest _ _ _ _ c.in-Some.ensures c.in-Some-split_first.ensures
    ((entry_subject-none _).1 (_, c.in_ok-subject.ensures.found)) c.in_ok-propagate.ensures.faultless
    (one-way c.in-Some-split_first.rest c.in_ok-propagate.field-0.known _ c.in_ok-propagate.ensures.found.1 c.in-Some-window_of_limits.ensures)
    (has-tag c.in-Some-split_first.rest c.in_ok-propagate.field-0.known c.in_ok-propagate.ensures.found.1 ∙ ap (λ (t : Option tags.Tag). is_some t) c.in_default-tag.is)

pub returns-clause-faultless : goal.returns-clause-faultless
returns-clause-faultless c =
    entry-looked c.args.node.now _ _ c.in-Some-split_first.rest _ _ _ _ c.in-Some.ensures c.in-Some-split_first.ensures
    ((entry_subject-none _).1 (_, c.in_ok-subject.ensures.found)) c.in_ok-propagate.ensures.faultless
    (one-way c.in-Some-split_first.rest c.in_ok-propagate.field-0.known _ c.in_ok-propagate.ensures.found.1 c.in-Some-window_of_limits.ensures)
    (has-tag c.in-Some-split_first.rest c.in_ok-propagate.field-0.known c.in_ok-propagate.ensures.found.1 ∙ ap (λ (t : Option tags.Tag). is_some t) c.in-Some-tag.is)

pub returns-in_default-clause-refused : goal.returns-in_default-clause-refused
returns-in_default-clause-refused c = λ known. entry-refused c.args.node.now _ (returns-in_default-clause-named c known)

pub returns-in_err-subject-clause-refused : goal.returns-in_err-subject-clause-refused
returns-in_err-subject-clause-refused c = IfErr-weaker c.from_residual.result _ _ (λ kind named known. entry-refused c.args.node.now kind (named known)) (returns-in_err-subject-clause-named c)

pub returns-in_err-propagate-clause-refused : goal.returns-in_err-propagate-clause-refused
returns-in_err-propagate-clause-refused c = IfErr-weaker c.from_residual-in_err-propagate.result _ _ (λ kind named known. entry-refused c.args.node.now kind (named known)) (returns-in_err-propagate-clause-named c)

pub returns-in_default-window_of_limits-clause-refused : goal.returns-in_default-window_of_limits-clause-refused
returns-in_default-window_of_limits-clause-refused c = λ known. entry-refused c.args.node.now _ (returns-in_default-window_of_limits-clause-named c known)

pub returns-in_default-tag-clause-refused : goal.returns-in_default-tag-clause-refused
returns-in_default-tag-clause-refused c = λ known. entry-refused c.args.node.now _ (returns-in_default-tag-clause-named c known)
