-- How a fault in a part of a text is a fault of the whole text.
use Rattle.std.proofs.Common.{◌≡◌, ℕ, suc, ◌+◌, ◌<◌, List, [], ◌∷◌, ◌++◌, length, take, sym, ◌∙◌, ap, subst, arith, append_assoc, length-append, add-suc, rules}
use Rattle.std.proofs.{lemmas.List.{append_cancel_left}, Math.Seq.{take-append-add}}
use Rattle.sexpr_core.specs.{declared.fault.FormFault.{FormFault, TheVariants.{TooDeep, Short, Bad}}, Reading.{Begins, Front, RefusesPart}}
use Rattle.sexpr_core.specs.Inner.PartFaults.{Barred, FaultAt}

-- a text that begins with one of U
pub record Headed (U : List ℕ → Type 0) (t : List ℕ) : Type 0 where
  pub first : List ℕ
  pub rest : List ℕ
  pub is : U first
  pub whole : t ≡ first ++ rest

-- a text that is these octets and then one of U
pub record Tailed (U : List ℕ → Type 0) (a t : List ℕ) : Type 0 where
  pub rest : List ℕ
  pub is : U rest
  pub whole : t ≡ a ++ rest

-- the texts of T begin with those of U, and each of these begins one of T
pub record Opens (T U : List ℕ → Type 0) : Type 0 where
  pub on : (a : List ℕ) → U a → Begins T a
  pub back : (t : List ℕ) → T t → Headed U t

-- after the octets a, the texts of T continue with those of U
pub record Behind (T U : List ℕ → Type 0) (a : List ℕ) : Type 0 where
  pub on : (b : List ℕ) → U b → T (a ++ b)
  pub back : (t x y : List ℕ) → T t → a ++ x ≡ t ++ y → Tailed U a t

-- the texts of T that begin with the octet c are those of U
pub record From (c : ℕ) (T U : List ℕ → Type 0) : Type 0 where
  pub on : (t : List ℕ) → U t → T t
  pub back : (t x y : List ℕ) → T t → c ∷ x ≡ t ++ y → U t

-- ---- a fault in the first part

Front-head : (S V : List ℕ → Type 0) (xs : List ℕ) → Opens S V → Front V xs → Front S xs
Front-head S V xs o f = search (rules, length-append, append_assoc)

Barred-head : (T U : List ℕ → Type 0) (xs : List ℕ) → Opens T U → Barred U xs → Barred T xs
Barred-head T U xs o h = search (rules, append_assoc)

pub FaultAt-head :
    (T U S V : List ℕ → Type 0) (at : ℕ) (xs : List ℕ) (e : FormFault) → Opens T U → Opens S V →
    FaultAt U V at xs e → FaultAt T S at xs e
FaultAt-head T U S V at xs TooDeep o p h = search (rules, Front-head, Barred-head)
FaultAt-head T U S V at xs Short o p h = Front-head S V xs p h
FaultAt-head T U S V at xs (Bad k) o p h = search (rules, Front-head, Barred-head)
FaultAt-head T U S V at xs _ o p h = h

-- ---- a fault after a whole part

Front-tail : (S V : List ℕ → Type 0) (a ys : List ℕ) → Behind S V a → Front V ys → Front S (a ++ ys)
Front-tail S V a ys o f = search (rules, append_assoc)

Barred-tail : (T U : List ℕ → Type 0) (a ys : List ℕ) → Behind T U a → Barred U ys → Barred T (a ++ ys)
Barred-tail T U a ys o h = record {
  bars = λ t rest after is e.
      let e2 : a ++ (ys ++ rest) ≡ t ++ after = sym (append_assoc a ys rest) ∙ e in
      let p : Tailed U a t = o.back t (ys ++ rest) after is e2 in
      h.bars p.rest rest after p.is
      (append_cancel_left a (ys ++ rest) (p.rest ++ after) (e2 ∙ ap (λ s. s ++ after) p.whole ∙ append_assoc a p.rest after));
}

more_taken : (a ys : List ℕ) (j : ℕ) → take (suc (length a + j)) (a ++ ys) ≡ a ++ take (suc j) ys
more_taken a ys j = ap (λ n. take n (a ++ ys)) (sym (add-suc (length a) j)) ∙ take-append-add a ys (suc j)

fault_tail :
    (T U S V : List ℕ → Type 0) (at : ℕ) (a ys : List ℕ) (e : FormFault) → Behind T U a → Behind S V a →
    FaultAt U V (at + length a) ys e → FaultAt T S at (a ++ ys) e
fault_tail T U S V at a ys TooDeep o p h = record {
  index = length a + h.index;
  within = let w : h.index < length ys = h.within in omega (arith, length-append a ys);
  before = subst (λ s. Front T s) (sym (more_taken a ys h.index)) (Front-tail T U a (take (suc h.index) ys) o h.before);
  stops = subst (λ s. Barred S s) (sym (more_taken a ys h.index)) (Barred-tail S V a (take (suc h.index) ys) p h.stops);
}
fault_tail T U S V at a ys Short o p h = Front-tail S V a ys p h
fault_tail T U S V at a ys (Bad k) o p h = record {
  index = length a + h.index;
  offset = let w : k ≡ at + length a + h.index = h.offset in omega arith;
  within = let w : h.index < length ys = h.within in omega (arith, length-append a ys);
  before = subst (λ s. Front S s) (sym (take-append-add a ys h.index)) (Front-tail S V a (take h.index ys) p h.before);
  stops = subst (λ s. Barred T s) (sym (more_taken a ys h.index)) (Barred-tail T U a (take (suc h.index) ys) o h.stops);
}
fault_tail T U S V at a ys _ o p h = h

pub FaultAt-tail :
    (T U S V : List ℕ → Type 0) (at to : ℕ) (a xs ys : List ℕ) (e : FormFault) → xs ≡ a ++ ys → to ≡ at + length a → Behind T U a → Behind S V a →
    FaultAt U V to ys e → FaultAt T S at xs e
FaultAt-tail T U S V at to a xs ys e q r o p h = search (rules, fault_tail)

-- ---- a choice by the first octet

Front-from : (T U : List ℕ → Type 0) (c : ℕ) (xs : List ℕ) → From c T U → Front U xs → Front T xs
Front-from T U c xs o f = record { rest = f.rest; some = f.some; whole = o.on (xs ++ f.rest) f.whole }

Barred-from : (T U : List ℕ → Type 0) (c : ℕ) (ys : List ℕ) → From c T U → Barred U (c ∷ ys) → Barred T (c ∷ ys)
Barred-from T U c ys o h = record { bars = λ t rest after is e. h.bars t rest after (o.back t (ys ++ rest) after is e) e }

fault_from :
    (T U S V : List ℕ → Type 0) (at c : ℕ) (ys : List ℕ) (e : FormFault) → From c T U → From c S V →
    FaultAt U V at (c ∷ ys) e → FaultAt T S at (c ∷ ys) e
fault_from T U S V at c ys TooDeep o p h = search (rules, Front-from, Barred-from)
fault_from T U S V at c ys Short o p h = Front-from S V c (c ∷ ys) p h
fault_from T U S V at c ys (Bad k) o p h = search (rules, Front-from, Barred-from)
fault_from T U S V at c ys _ o p h = h

pub FaultAt-from :
    (T U S V : List ℕ → Type 0) (at c : ℕ) (xs ys : List ℕ) (e : FormFault) → xs ≡ c ∷ ys → From c T U → From c S V →
    FaultAt U V at xs e → FaultAt T S at xs e
FaultAt-from T U S V at c xs ys e q o p h = search (rules, fault_from)

-- ---- faults at the first octet

-- the empty text is a proper beginning of a text of T that is not empty
pub Front-none : (T : List ℕ → Type 0) (t xs : List ℕ) → xs ≡ [] → 0 < length t → T t → Front T xs
Front-none T t xs e some is = record { rest = t; some = some; whole = subst T (ap (λ s. s ++ t) (sym e)) is }

-- no text of T begins with the octet
pub FaultAt-first :
    (T S : List ℕ → Type 0) (at c : ℕ) (xs ys : List ℕ) → xs ≡ c ∷ ys → Front S [] →
    ((t x y : List ℕ) → T t → c ∷ x ≡ t ++ y → ⊥) → FaultAt T S at xs (Bad at)
FaultAt-first T S at c xs ys e front never = search (rules)

-- ---- texts of a smaller set

pub RefusesPart-less :
    (T U : List ℕ → Type 0) (text : List ℕ) (at : ℕ) (e : FormFault) → ((t : List ℕ) → U t → T t) →
    RefusesPart T text at e → RefusesPart U text at e
RefusesPart-less T U text at (Bad k) less h = search rules
RefusesPart-less T U text at _ less h = h
