-- What is between two offsets of a text, octet by octet: whitespace, and bodies in base64. The same is read of each
-- other text that begins with the same octets.
use Rattle.std.proofs.Common.{◌≡◌, ℕ, ◌+◌, ◌<◌, ◌≤◌, List, [], ◌∷◌, ◌++◌, length, take, drop, refl, sym, ap, subst, ◌∙◌, arith, append_assoc, length-append, length-drop, rules, zero, suc, Bool, true, false, ◌-◌, append-nil}
use Rattle.std.proofs.lemmas.List.{append_cancel_right, drop-append-le, take-append-drop, take_at, length-take-le, drop-drop, drop_at}
use Rattle.std.proofs.lemmas.List.Elements.{filter-append}
use Rattle.std.proofs.lemmas.Bool.Decides.{nat_tests}
use Rattle.std.specs.{Prelude.{slice_range}, List.{AllByRecursion}}
use Rattle.sexpr_core.specs.Reading.{StandsAt, StartsVisible, Skips, StopsAt, RefusesPart, is_whitespace, AreSpaces, IsFaultAt, visible, is_symbol, is_body_octet, AreBodyOctets, Passed, IsBodyEnd}
use Rattle.sexpr_core.specs.{declared.fault.FormFault.{FormFault, TheVariants.{Bad}}, Inner.Gathering.{SkipsSymbols, GathersTo, BodyAt}}
use Rattle.sexpr_core.proofs.{Texts.{all-append, one_front, head_is, tail_is, fails_among}, Steps.{slice_read}}

-- ---- what is read of the first octets of a text is read of each other text that begins with them

-- two texts have the same octets up to an offset, the octet at the offset included
pub record Agree (text other : List ℕ) (k : ℕ) : Type 0 where
  pub front : List ℕ
  pub rest : List ℕ
  pub others : List ℕ
  pub text_is : text ≡ front ++ rest
  pub other_is : other ≡ front ++ others
  pub long : length front ≡ k + 1

pub agree : (text : List ℕ) (k : ℕ) (more : List ℕ) → k < length text → Agree text (take (k + 1) text ++ more) k
agree text k more lt = search (rules, take-append-drop (k + 1) text, length-take-le (k + 1) text (omega arith))

-- a text after an offset, if this is within its first part
drop_front : (text front rest : List ℕ) (i : ℕ) → text ≡ front ++ rest → i ≤ length front → drop i text ≡ drop i front ++ rest
drop_front text front rest i e le = ap (drop i) e ∙ drop-append-le i front rest le

pub spelled_too : (text other : List ℕ) (k at to : ℕ) (spelling : List ℕ) → Agree text other k → at ≤ k + 1 → to ≤ k + 1
    → drop at text ≡ spelling ++ drop to text → drop at other ≡ spelling ++ drop to other
spelled_too text other k at to spelling a from up e =
    let here = drop_front text a.front a.rest at a.text_is (omega (arith, a.long)) in
    let there = drop_front text a.front a.rest to a.text_is (omega (arith, a.long)) in
    let both : drop at a.front ++ a.rest ≡ (spelling ++ drop to a.front) ++ a.rest =
    sym here ∙ e ∙ ap (λ t. spelling ++ t) there ∙ sym (append_assoc spelling (drop to a.front) a.rest) in
    let alone = append_cancel_right (drop at a.front) (spelling ++ drop to a.front) a.rest both in
    drop_front other a.front a.others at a.other_is (omega (arith, a.long))
    ∙ ap (λ t. t ++ a.others) alone
    ∙ append_assoc spelling (drop to a.front) a.others
    ∙ ap (λ t. spelling ++ t) (sym (drop_front other a.front a.others to a.other_is (omega (arith, a.long))))

pub long_too : (text other : List ℕ) (k : ℕ) → Agree text other k → k < length other
long_too text other k a = omega (arith, ap length a.other_is, length-append a.front a.others, a.long)

pub stands_too : (text other : List ℕ) (k i c : ℕ) → Agree text other k → i ≤ k → StandsAt text i c → StandsAt other i c
stands_too text other k i c a le s =
    search (rules, spelled_too text other k i (i + 1) (c ∷ []) a (omega arith) (omega arith) s.spelled, long_too text other k a)

-- both begin with the same octet
pub record SameHead (xs ys : List ℕ) : Type 0 where
  pub octet : ℕ
  pub first : List ℕ
  pub second : List ℕ
  pub first_is : xs ≡ octet ∷ first
  pub second_is : ys ≡ octet ∷ second

heads : (xs r s : List ℕ) → 0 < length xs → SameHead (xs ++ r) (xs ++ s)
heads [] r s lt = absurd (omega arith)
heads (x ∷ xs) r s lt = record { octet = x; first = xs ++ r; second = xs ++ s; first_is = refl; second_is = refl }

pub same_head : (text other : List ℕ) (k to : ℕ) → Agree text other k → to ≤ k → SameHead (drop to text) (drop to other)
same_head text other k to a le =
    let h = heads (drop to a.front) a.rest a.others (omega (arith, length-drop to a.front, a.long)) in
    rw (drop_front text a.front a.rest to a.text_is (omega (arith, a.long)), drop_front other a.front a.others to a.other_is (omega (arith, a.long))) h

pub skips_too : (text other : List ℕ) (k at to : ℕ) → Agree text other k → to ≤ k → Skips text at to → Skips other at to
skips_too text other k at to a le s =
    let h = same_head text other k to a le in
    let ends = subst StartsVisible (sym h.second_is) (subst StartsVisible h.first_is s.ends) in
    search (rules, ends, spelled_too text other k at to s.spaces a (omega (arith, s.ordered)) (omega arith) s.spelled, long_too text other k a)

-- the octets before an offset are `front`, if the text is `front` and then what follows the offset
pub front_is : (text front : List ℕ) (k : ℕ) → text ≡ front ++ drop k text → k ≤ length text → take k text ≡ front
front_is text front k e le = search (rules, take_at, length-append, length-drop)

-- ---- where a part is refused

-- if no text with the same octets up to k has the part, it is refused at k
pub stops_here : (T : List ℕ → Type 0) (text : List ℕ) (at k : ℕ) → at ≤ k → k < length text → ((other : List ℕ) → Agree text other k → T other → ⊥)
    → StopsAt T text at k
stops_here T text at k le lt never = search (rules, agree)

-- if each text that has the part T has the part U, and U is refused at k, so is T
pub stops_later : (T U : List ℕ → Type 0) (text : List ℕ) (at i k : ℕ) → at ≤ i → ((other : List ℕ) (n : ℕ) → Agree text other n → i ≤ n → T other → U other)
    → StopsAt U text i k → StopsAt T text at k
stops_later T U text at i k le on s = record {
  behind = omega (arith, s.behind);
  within = s.within;
  none = λ b. s.none (record { rest = b.rest; whole = on (take (k + 1) text ++ b.rest) k (agree text k b.rest s.within) s.behind b.whole });
}

pub refused_later : (T U : List ℕ → Type 0) (text : List ℕ) (at i : ℕ) (fault : FormFault) → at ≤ i
    → ((other : List ℕ) (n : ℕ) → Agree text other n → i ≤ n → T other → U other) → RefusesPart U text i fault → RefusesPart T text at fault
refused_later T U text at i (Bad k) le on h = stops_later T U text at i k le on h
refused_later T U text at i _ le on h = h

-- ---- octets that pass a test, and whitespace, between two offsets

pub nothing_passed : (p : ℕ → Bool) (text : List ℕ) (at : ℕ) → at ≤ length text → Passed p text at at
nothing_passed p text at h = record { body = []; octets = tt; spelled = refl; ordered = omega arith; within = h }

pub one_passed : (p : ℕ → Bool) (text : List ℕ) (at i c : ℕ) → Passed p text at i → StandsAt text i c → p c ≡ true → Passed p text at (i + 1)
one_passed p text at i c s stands passes =
    search (rules, all-append (λ k. p k ≡ true) s.body (c ∷ []) s.octets (passes, tt), append_assoc s.body (c ∷ []) (drop (i + 1) text))

-- a text determines where whitespace ends
pub one_end : (xs ys r s : List ℕ) → AreSpaces xs → AreSpaces ys → StartsVisible r → StartsVisible s → xs ++ r ≡ ys ++ s → (xs ≡ ys) × (r ≡ s)
one_end = one_front is_whitespace

pub spaces_front : (n : ℕ) (xs : List ℕ) → AreSpaces xs → AreSpaces (take n xs)
spaces_front zero xs h = tt
spaces_front (suc n) [] h = tt
spaces_front (suc n) (x ∷ xs) h = (h.0, spaces_front n xs h.1)

behind_spaces : (xs r : List ℕ) → AreSpaces (xs ++ r) → AreSpaces r
behind_spaces [] r h = h
behind_spaces (x ∷ xs) r h = behind_spaces xs r h.1

not_both : (r : List ℕ) → AreSpaces r → StartsVisible r → 0 < length r → ⊥
not_both [] h k lt = omega arith
not_both (c ∷ cs) h k lt = let g : false ≡ true = sym k ∙ h.0 in cc

-- if only whitespace follows an offset, all of it is skipped
pub spaces_all : (text : List ℕ) (at to : ℕ) → Skips text at to → AreSpaces (drop at text) → to < length text → ⊥
spaces_all text at to s h lt = search (rules, not_both, behind_spaces, length-drop)

-- ---- a body in base64, octet by octet

-- a body's octets from one offset of a text up to another, and what was gathered of them
pub record Gathers (text : List ℕ) (at : ℕ) (symbols : List ℕ) (to : ℕ) : Type 0 where
  pub body : List ℕ
  pub octets : AreBodyOctets body
  pub spelled : drop at text ≡ body ++ drop to text
  pub kept : symbols ≡ visible body
  pub ordered : at ≤ to
  pub within : to ≤ length text

pub visible-append : (xs ys : List ℕ) → visible (xs ++ ys) ≡ visible xs ++ visible ys
visible-append xs ys = filter-append _ xs ys

pub nothing_gathered : (text : List ℕ) (at : ℕ) → at ≤ length text → Gathers text at [] at
nothing_gathered text at h = record { body = []; octets = tt; spelled = refl; kept = refl; ordered = omega arith; within = h }

pub no_space : (c : ℕ) → is_symbol c ≡ true → is_whitespace c ≡ false
no_space c h = grind (arith, nat_tests)

symbols_stay : (xs : List ℕ) → AllByRecursion (λ c. is_symbol c ≡ true) xs → AreBodyOctets xs × (visible xs ≡ xs)
symbols_stay [] h = (tt, refl)
symbols_stay (x ∷ xs) h = search (rules, no_space, symbols_stay xs h.1)

spaces_vanish : (xs : List ℕ) → AreSpaces xs → AreBodyOctets xs × (visible xs ≡ [])
spaces_vanish [] h = (tt, refl)
spaces_vanish (x ∷ xs) h = search (rules, spaces_vanish xs h.1)

pub more_gathered : (text : List ℕ) (at i end next : ℕ) (symbols new : List ℕ) → Gathers text at symbols i → SkipsSymbols text i end → Skips text end next
    → new ≡ symbols ++ slice_range text i end → Gathers text at new next
more_gathered text at i end next symbols new g run gap e =
    let run_stays = symbols_stay run.symbols run.are_symbols in
    let gap_goes = spaces_vanish gap.spaces gap.are_spaces in
    let read = slice_read text run.symbols i end run.ordered run.within run.spelled in
    record {
      body = g.body ++ (run.symbols ++ gap.spaces);
      octets =
          all-append (λ k. is_body_octet k ≡ true) g.body (run.symbols ++ gap.spaces) g.octets
          (all-append (λ k. is_body_octet k ≡ true) run.symbols gap.spaces run_stays.0 gap_goes.0);
      spelled = rw (g.spelled, run.spelled, gap.spelled) (simp append_assoc refl);
      kept = rw (e, read, g.kept, visible-append g.body (run.symbols ++ gap.spaces), visible-append run.symbols gap.spaces, run_stays.1, gap_goes.1) (simp append-nil refl);
      ordered = omega (arith, g.ordered, run.ordered, gap.ordered);
      within = gap.within;
    }

-- an octet that is neither a symbol nor whitespace may not occur in a body
pub no_body_octet : (text : List ℕ) (i end c : ℕ) → SkipsSymbols text i end → Skips text end i → StandsAt text i c → is_body_octet c ≡ false
no_body_octet text i end c run gap stands = search rules

-- a body ends at the first octet that may not occur in it
pub one_body : (xs ys : List ℕ) (c d : ℕ) (r s : List ℕ) → AreBodyOctets xs → AreBodyOctets ys → is_body_octet c ≡ false → is_body_octet d ≡ false
    → xs ++ c ∷ r ≡ ys ++ d ∷ s → (xs ≡ ys) × (c ≡ d) × (r ≡ s)
one_body xs ys c d r s hx hy hc hd e =
    let q = one_front is_body_octet xs ys (c ∷ r) (d ∷ s) hx hy hc hd e in
    (q.0, head_is c d r s q.1, tail_is c d r s q.1)

-- the first octet after a body that may not occur in it is its mark
pub gathered_mark : (text : List ℕ) (at i c mark : ℕ) (symbols body rest : List ℕ) → Gathers text at symbols i → StandsAt text i c
    → is_body_octet c ≡ false → is_body_octet mark ≡ false → AreBodyOctets body → drop at text ≡ body ++ mark ∷ rest → c ≡ mark
gathered_mark text at i c mark symbols body rest g stands other mark_other all e = search (rules, one_body)

pub same_body : (text : List ℕ) (at mark to : ℕ) (symbols body rest : List ℕ) → GathersTo text at mark symbols to → is_body_octet mark ≡ false
    → AreBodyOctets body → drop at text ≡ body ++ mark ∷ rest → (symbols ≡ visible body) × (drop to text ≡ rest)
same_body text at mark to symbols body rest g other all e = search (rules, one_body)

pub gathered_end : (text : List ℕ) (at i mark : ℕ) (symbols body rest : List ℕ) → Gathers text at symbols i → drop i text ≡ []
    → is_body_octet mark ≡ false → drop at text ≡ body ++ mark ∷ rest → ⊥
gathered_end text at i mark symbols body rest g ended other e =
    fails_among is_body_octet body mark rest g.body other g.octets (sym e ∙ g.spelled ∙ ap (λ t. g.body ++ t) ended ∙ append-nil g.body)

-- ---- the same in each text with the same octets up to there

gathers_too : (text other : List ℕ) (k at i : ℕ) (symbols : List ℕ) → Agree text other k → i ≤ k + 1 → Gathers text at symbols i → Gathers other at symbols i
gathers_too text other k at i symbols a le g =
    search (rules, spelled_too text other k at i g.body a (omega (arith, g.ordered)) le g.spelled, long_too text other k a)

pub gathers_to_too : (text other : List ℕ) (k at mark to : ℕ) (symbols : List ℕ) → Agree text other k → to ≤ k + 1 → GathersTo text at mark symbols to
    → GathersTo other at mark symbols to
gathers_to_too text other k at mark to symbols a le g =
    let e = spelled_too text other k at to (g.body ++ mark ∷ []) a (omega (arith, g.goes_on)) le (g.spelled ∙ sym (append_assoc g.body (mark ∷ []) (drop to text)))
    ∙ append_assoc g.body (mark ∷ []) (drop to other) in
    search (rules, e, long_too text other k a)

pub body_stops : (text : List ℕ) (at i c mark : ℕ) (symbols : List ℕ) → Gathers text at symbols i → StandsAt text i c
    → (c ≡ mark → ⊥) → is_body_octet mark ≡ false → is_body_octet c ≡ false → StopsAt (BodyAt at mark) text at i
body_stops text at i c mark symbols g stands apart other misfit = stops_here (BodyAt at mark) text at i g.ordered stands.within (λ next a w.
    apart (gathered_mark next at i c mark symbols w.body w.rest (gathers_too text next i at i symbols a (omega arith) g)
    (stands_too text next i i c a (omega arith) stands) misfit other w.octets w.spelled))

-- ---- where a body is refused

passed_to : (text : List ℕ) (at i : ℕ) (symbols : List ℕ) → Gathers text at symbols i → Passed is_body_octet text at i
passed_to text at i symbols g = record { body = g.body; octets = g.octets; spelled = g.spelled; ordered = g.ordered; within = g.within }

-- the offset that nothing follows is the text's length
pub end_is : (text : List ℕ) (i : ℕ) → drop i text ≡ [] → i ≤ length text → i ≡ length text
end_is text i e le = omega (arith, ap length e, length-drop i text)

pub body_short : (text : List ℕ) (at i : ℕ) (symbols : List ℕ) → Gathers text at symbols i → drop i text ≡ [] → Passed is_body_octet text at (length text)
body_short text at i symbols g ended = subst (Passed is_body_octet text at) (end_is text i ended g.within) (passed_to text at i symbols g)

pub body_bad : (text : List ℕ) (at i c : ℕ) (symbols : List ℕ) → Gathers text at symbols i → StandsAt text i c → is_body_octet c ≡ false
    → IsBodyEnd is_body_octet text at (Bad i)
body_bad text at i c symbols g stands other = (passed_to text at i symbols g, (c, stands, other))

mark_stands : (text : List ℕ) (at mark to : ℕ) (symbols : List ℕ) → (g : GathersTo text at mark symbols to) → drop (to - 1) text ≡ mark ∷ drop to text
mark_stands text at mark to symbols g =
    let n : at + length g.body ≡ to - 1 = omega (arith, ap length g.spelled, length-append g.body (mark ∷ drop to text), length-drop at text, length-drop to text, g.goes_on, g.within) in
    sym (ap (λ k. drop k text) n) ∙ sym (drop-drop (length g.body) at text) ∙ ap (drop (length g.body)) g.spelled ∙ drop_at g.body (mark ∷ drop to text) (length g.body) refl

-- a body that is no base64 is refused at its mark
pub unpacked_end : (text : List ℕ) (at mark to : ℕ) (symbols : List ℕ) (fault : FormFault) → GathersTo text at mark symbols to → is_body_octet mark ≡ false
    → IsFaultAt (to - 1) fault → IsBodyEnd is_body_octet text at fault
unpacked_end text at mark to symbols (Bad k) g other h = search (rules, mark_stands text at mark to symbols g)
unpacked_end text at mark to symbols _ g other h = search rules
