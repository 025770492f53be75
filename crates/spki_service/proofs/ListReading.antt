-- How a text is read as an access list. It is one list or has one fault.
use Rattle.std.proofs.Common.{◌≡◌, ◌≢◌, inl, inr, ℕ, ◌≤◌, List, map, length, sym, subst, Result, Ok, Err, IfOk, IfErr, rules, ◌++◌, ap, ◌∙◌, codes}
use Rattle.std.proofs.lemmas.{Result.{IfOk-weaker, IfErr-weaker}, Slice.Zip.{AllZip-long}}
use Rattle.sexpr_core.specs.{declared.fault.FormFault.{FormFault}, Value.{Value, canon}}
use Rattle.sexpr_text.specs.{AdvancedForm.{IsTextWithin}, CanonicalTexts.{IsReadAs, RefusesForm}}
use Rattle.spki_case.{proofs.OneCase.{one_text}, specs.Case.{IsOuter}}
use Rattle.spki_cert.specs.{declared.{entry.Entry.{Entry}, fault.CertFault.{CertFault}}, Structures.{EntryOf, AclOf}}
use Rattle.spki_cert.specs.StructureFaults.{behind_version}
use Rattle.spki_cert.proofs.{HeadedLists.{same_others}, EntryFaultLaws.{entries-behind}}
use Rattle.spki_service.specs.declared.list_fault.AclFault.{AclFault}
use Rattle.spki_service.specs.{AccessLists.{GuardModel, AreEntries, HoldsValue, HoldsList, IsNoAcl, IsNoAccessList}, Questions.{Reads}}
use Rattle.spki_service.proofs.{SelectedEntries.{held}, OneAsking.{text_one, of_text, both, form_unread, form_one, some-one}}
use Rattle.spki_cert.specs.declared.fault.CertFaultKind.TheVariants as kinds
use Rattle.spki_service.specs.declared.list_fault.AclFault.TheVariants as faults

-- ---- what a guard has of an access list that is read

-- any fault except Memory is named
pub named_fault : (v : Value) (fault : CertFault) (outer : AclFault)
    → IsOuter (fault.kind ≡ kinds.Memory) faults.Memory (faults.Acl fault) outer
    → (fault.kind ≢ kinds.Memory → IsNoAcl fault v)
    → outer ≢ faults.Memory → (inner : CertFault) × (outer ≡ faults.Acl inner) × IsNoAcl inner v
named_fault v fault outer (inl memory) refused found = absurd (found memory.1)
named_fault v fault outer (inr named) refused found = (fault, named.1, refused named.0)

-- the texts of the list's members are those of the entries that are read
pub texts_held : (v : Value) (es : List Entry) (texts : List (List ℕ)) (a : AclOf v es) → texts ≡ map canon a.entries
    → AreEntries texts es
texts_held v es texts a same = subst (λ xs. AreEntries xs es) (sym same) (held a.entries es a.each)

pub value_held : (v : Value) (es : List Entry) (texts : List (List ℕ)) (a : AclOf v es) → texts ≡ map canon a.entries
    → HoldsValue v texts
value_held v es texts a same = record { entries = es; is = a; texts_are = same; held = texts_held v es texts a same }

pub many : (v : Value) (es : List Entry) (a : AclOf v es) → length a.entries ≡ length es
many v es a = sym (AllZip-long EntryOf a.entries es a.each)

-- ---- a text of which the value is known

pub holds_list : (text : List ℕ) (v : Value) (texts : List (List ℕ)) → IsTextWithin text v → length (canon v) ≤ 1048576
    → HoldsValue v texts → HoldsList text texts
holds_list text v texts meant short h =
    record { value = v; spelled = meant; short = short; holds = h }

-- a text, what it is read as, and the document that is opened for it
module _ (text : List ℕ) (read : Result (List ℕ) FormFault) (v w : Value) (is : IsReadAs (IsTextWithin text) (RefusesForm text) read)
    (opened : read ≡ Ok (canon v)) (same : w ≡ v) where
  meant : (r : Result (List ℕ) FormFault) → IsReadAs (IsTextWithin text) (RefusesForm text) r → r ≡ Ok (canon v)
      → IsTextWithin text w × (length (canon w) ≤ 1048576)
  meant (Ok octets) (u, m, within, written) e =
      let given : octets ≡ canon v = cc e in
      let one : u ≡ w = one_text octets u v written given ∙ sym same in
      (subst (IsTextWithin text) one m, subst (λ (x : Value). length (canon x) ≤ 1048576) one within.short)
  meant (Err fault) r e = let no : ⊥ = cc e in absurd no

  pub list_held : (r : Result GuardModel AclFault) → IfOk r (λ g. HoldsValue w g.texts) → IfOk r (λ g. HoldsList text g.texts)
  list_held r = let m = meant read is opened in IfOk-weaker r _ _ (λ g h. holds_list text w g.texts m.0 m.1 h)

  pub list_refused : (r : Result GuardModel AclFault)
      → IfErr r (λ fault. fault ≢ faults.Memory → (inner : CertFault) × (fault ≡ faults.Acl inner) × IsNoAcl inner w)
      → IfErr r (λ fault. fault ≢ faults.Memory → IsNoAccessList text fault)
  list_refused r = let m = meant read is opened in IfErr-weaker r _ _ (λ fault h found. search (rules, m.0, m.1))

-- ---- a text is read as one access list at most

values_one : (v w : Value) (es fs : List Entry) (r : AclOf v es) (s : AclOf w fs) → v ≡ w → r.entries ≡ s.entries
values_one v w es fs r s same =
    let all : r.version ++ r.entries ≡ s.version ++ s.entries =
    same_others v (codes "acl") (r.version ++ r.entries) (s.version ++ s.entries) r.written (same ∙ s.written) in
    sym (entries-behind r.version r.entries es r.version_is r.each) ∙ ap behind_version all
    ∙ entries-behind s.version s.entries fs s.version_is s.each

pub list-one : (text : List ℕ) (a b : List (List ℕ)) → HoldsList text a → HoldsList text b → a ≡ b
list-one text a b m n =
    let same : m.value ≡ n.value = text_one text m.value n.value m.spelled n.spelled in
    let entries = values_one m.value n.value m.holds.entries n.holds.entries m.holds.is n.holds.is same in
    m.holds.texts_are ∙ ap (map canon) entries ∙ sym n.holds.texts_are

-- ---- a text has one fault at most

module _ (text : List ℕ) where
  pub list_fault-one : (f g : AclFault) → IsNoAccessList text f → IsNoAccessList text g → f ≡ g
  list_fault-one (faults.Form e) (faults.Form f) m n = ap faults.Form (form_one (of_text text) e f m n)
  list_fault-one (faults.Form e) (faults.Acl f) m n = absurd (form_unread (of_text text) e m n)
  list_fault-one (faults.Form e) faults.Memory m n = absurd n
  list_fault-one (faults.Acl e) (faults.Form f) m n = absurd (form_unread (of_text text) f n m)
  list_fault-one (faults.Acl e) (faults.Acl f) m n =
      let b = both (of_text text) m n in
      ap faults.Acl (some-one b.one.named b.other.named)
  list_fault-one (faults.Acl e) faults.Memory m n = absurd n
  list_fault-one faults.Memory g m n = absurd m

  -- ---- a text is never read and refused

  pub list_unrefused : (texts : List (List ℕ)) (fault : AclFault) → HoldsList text texts → ¬ IsNoAccessList text fault
  list_unrefused texts (faults.Form fault) m lacks =
      let read : Reads (IsTextWithin text) (λ v. AclOf v m.holds.entries) =
      record { value = m.value; meant = m.spelled; short = m.short; is = m.holds.is } in
      form_unread (of_text text) fault lacks read
  list_unrefused texts (faults.Acl fault) m none =
      let same : m.value ≡ none.value = text_one text m.value none.value m.spelled none.meant in
      none.is.none m.holds.entries (subst (λ (v : Value). AclOf v m.holds.entries) same m.holds.is)
  list_unrefused texts faults.Memory m none = none
