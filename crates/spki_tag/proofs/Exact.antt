-- The intersection of two tags contains a request exactly if both do.
use Rattle.std.proofs.Common.{◌≡◌, inl, inr, ℕ, Bool, true, false, ◌&&◌, ◌||◌, not, List, [], ◌∷◌, ◌++◌, length, Option, Some, None, refl, sym, ap, ◌∙◌, subst, true≢false, arith, eqb-true, rules}
use Rattle.std.proofs.Math.Bool.{and_self, and-true, and-false, and_comm, or-false, or_assoc, and-or_distrib_left, and-or_distrib_right}
use Rattle.std.proofs.lemmas.Bool.{and_parts, not-true, or_cases, cond_both}
use Rattle.std.specs.{Prelude.{if◌then◌else◌, nat_eq}, List.{starts_with}, Str.{bytes_eq}, Cmp.Lexicographic.{same_text, bytes_decides}}
use Rattle.spki_tag.specs.Tag.{is_time, is_date, Tag, Tags, tags, Limit, Ordering, alpha, time, date, star, string, prefix, range, list, set, none, more, contains, contain_each, some_contains, is_above, is_below, is_ordered, is_nothing, is_normal, each_normal, is_set_or_star}
use Rattle.spki_tag.specs.Meet.{greater_low, lesser_up, exclude, ordering_meet, nothing, ranged, string_meet, range_meet, prefix_meet, items, kept, row, gather, any_is_nothing, listed, list_meet, across, set_across, meet, each_meet, pairs}
use Rattle.spki_tag.specs.Request.{Request, Requests, IsRequest, AreRequests}
use Rattle.spki_tag.proofs.Limits.{and_left, and_never, greater_low-exact, lesser_up-exact, exclude-none, least_above_exact, prefixes-exact}
use Rattle.spki_tag.specs.Request as request

-- ---- truth values

-- two pairs of conditions, in another order
twice : (a b c d : Bool) → ((a && b) && (c && d)) ≡ ((a && c) && (b && d))
twice true b true d = refl
twice true true false d = refl
twice true false false d = refl
twice false b c d = refl

-- three pairs of conditions, in another order
thrice : (a b c d e f : Bool) → ((a && d) && (b && e) && (c && f)) ≡ ((a && b && c) && (d && e && f))
thrice a b c d e f = ap (λ x. x && (c && f)) (twice a d b e) ∙ twice (a && b) (d && e) c f

-- what normal form says of the first of some tags, and of the others
pub three_parts : (bar : Tag → Bool) (t : Tag) (ts : Tags) → each_normal bar (more t ts) ≡ true
    → (bar t ≡ false) × (is_normal t ≡ true) × (each_normal bar ts ≡ true)
three_parts bar t ts h = search (rules, and_parts, not-true)

pub all_three : (bar : Tag → Bool) (t : Tag) (ts : Tags) → bar t ≡ false → is_normal t ≡ true → each_normal bar ts ≡ true
    → each_normal bar (more t ts) ≡ true
all_three bar t ts h k j = λ i. not (h i) && k i && j i

-- ---- orderings

first_six : (a b c d e f : Bool) → (a && b && c && d && e && f) ≡ true → a ≡ true
first_six true b c d e f h = refl
first_six false b c d e f h = h

first_nine : (a b c d e f g i j : Bool) → (a && b && c && d && e && f && g && i && j) ≡ true → a ≡ true
first_nine true b c d e f g i j h = refl
first_nine false b c d e f g i j h = h

time_length : (x : List ℕ) → is_time x ≡ true → length x ≡ 8
unfolding is_time
time_length x h = search (rules, eqb-true, first_six)

date_length : (x : List ℕ) → is_date x ≡ true → length x ≡ 19
unfolding is_date
date_length x h = search (rules, eqb-true, first_nine)

time_or_date : (x : List ℕ) → is_time x ≡ true → is_date x ≡ true → false ≡ true
time_or_date x h k = absurd (omega (arith, time_length x h, date_length x k))

abbrev ordered_in : Option Ordering → List ℕ → Bool
ordered_in None x = false
ordered_in (Some o) x = is_ordered o x

ordering-exact : (o p : Ordering) (x : List ℕ) → ordered_in (ordering_meet o p) x ≡ (is_ordered o x && is_ordered p x)
ordering-exact alpha p x = refl
ordering-exact time alpha x = sym (and-true (is_time x))
ordering-exact time time x = sym (and_self (is_time x))
ordering-exact time date x = and_never (is_time x) (is_date x) (time_or_date x)
ordering-exact date alpha x = sym (and-true (is_date x))
ordering-exact date time x = and_never (is_date x) (is_time x) (λ h k. time_or_date x k h)
ordering-exact date date x = sym (and_self (is_date x))

-- ---- the intersection of tags without members has no members either

-- a string, a prefix, a range, or (* set)
abbrev pub IsBare : Tag → Type 0
IsBare star = ⊥
IsBare (list head ts) = ⊥
IsBare (set (more t ts)) = ⊥
IsBare t = Unit {0}

ranged-bare : (o : Option Ordering) (l u : Option Limit) → IsBare (ranged o l u)
ranged-bare None l u = tt
ranged-bare (Some o) l u = cond_both (exclude l u) nothing (range o l u) IsBare (λ _. tt) (λ _. tt)

pub string-bare : (s : List ℕ) (b : Tag) → IsBare (string_meet s b)
string-bare s b = cond_both (contains b (request.string s)) (string s) nothing IsBare (λ _. tt) (λ _. tt)

pub range-bare : (o : Ordering) (l u : Option Limit) (b : Tag) → IsBare (range_meet o l u b)
range-bare o l u (string s) = string-bare s (range o l u)
range-bare o l u (prefix p) = search (rules, ranged-bare)
range-bare o l u (range p m v) = ranged-bare (ordering_meet o p) (greater_low l m) (lesser_up u v)
range-bare o l u b = tt

pub prefix-bare : (p : List ℕ) (b : Tag) → IsBare (prefix_meet p b)
prefix-bare p (string s) = string-bare s (prefix p)
prefix-bare p (prefix q) =
    cond_both (starts_with nat_eq p q) (prefix p) (if starts_with nat_eq q p then prefix q else nothing) IsBare (λ _. tt)
    (λ _. cond_both (starts_with nat_eq q p) (prefix q) nothing IsBare (λ _. tt) (λ _. tt))
prefix-bare p (range o l u) = search (rules, ranged-bare)
prefix-bare p b = tt

bare-list : (t : Tag) (head : List ℕ) (gs : Requests) → IsBare t → contains t (request.list head gs) ≡ false
bare-list star head gs h = absurd h
bare-list (list other ts) head gs h = absurd h
bare-list (set (more t ts)) head gs h = absurd h
bare-list t head gs h = refl

-- ---- ranges

ranged-string : (o : Option Ordering) (l u : Option Limit) (x : List ℕ)
    → contains (ranged o l u) (request.string x) ≡ (ordered_in o x && is_above l x && is_below u x)
ranged-string None l u x = refl
ranged-string (Some o) l u x =
    cond_both (exclude l u) nothing (range o l u)
    (λ t. contains t (request.string x) ≡ (is_ordered o x && is_above l x && is_below u x))
    (λ e. and_never (is_ordered o x && is_above l x) _ (λ h k. exclude-none l u x e (and_parts (is_ordered o x) _ h).1 k)) (λ _. refl)

ranges : (o p : Ordering) (l u m v : Option Limit) (x : List ℕ)
    → contains (ranged (ordering_meet o p) (greater_low l m) (lesser_up u v)) (request.string x)
    ≡ ((is_ordered o x && is_above l x && is_below u x) && (is_ordered p x && is_above m x && is_below v x))
ranges o p l u m v x = search (rules, ranged-string, ordering-exact, greater_low-exact, lesser_up-exact, thrice)

-- ---- strings

string-exact : (s : List ℕ) (b : Tag) (g : Request) → contains (string_meet s b) g ≡ (contains (string s) g && contains b g)
string-exact s b (request.list head gs) = bare-list (string_meet s b) head gs (string-bare s b)
string-exact s b (request.string x) =
    cond_both (contains b (request.string s)) (string s) nothing
    (λ t. contains t (request.string x) ≡ (bytes_eq s x && contains b (request.string x)))
    (λ e. and_left _ _ (λ h. subst (λ y. contains b (request.string y) ≡ true) (same_text s x (sym h)) e))
    (λ e. and_never _ _ (λ h k. sym e ∙ subst (λ y. contains b (request.string y) ≡ true) (sym (same_text s x (sym h))) k))

-- ---- ranges and prefixes

range-exact : (o : Ordering) (l u : Option Limit) (b : Tag) (g : Request) → IsRequest g → is_set_or_star b ≡ false
    → contains (range_meet o l u b) g ≡ (contains (range o l u) g && contains b g)
range-exact o l u b (request.list head gs) k n = bare-list (range_meet o l u b) head gs (range-bare o l u b)
range-exact o l u (string s) g k n = string-exact s (range o l u) g ∙ and_comm (contains (string s) g) (contains (range o l u) g)
range-exact o l u (prefix p) (request.string x) k n = search (rules, ranges, least_above_exact)
range-exact o l u (range p m v) (request.string x) k n = ranges o p l u m v x
range-exact o l u (list other us) (request.string x) k n = sym (and-false _)
range-exact o l u b g k n = absurd (true≢false n)

prefix-exact : (p : List ℕ) (b : Tag) (g : Request) → IsRequest g → is_set_or_star b ≡ false
    → contains (prefix_meet p b) g ≡ (contains (prefix p) g && contains b g)
prefix-exact p b (request.list head gs) k n = bare-list (prefix_meet p b) head gs (prefix-bare p b)
prefix-exact p (string s) g k n = string-exact s (prefix p) g ∙ and_comm (contains (string s) g) (contains (prefix p) g)
prefix-exact p (prefix q) (request.string x) k n = prefixes-exact p q x
prefix-exact p (range o l u) (request.string x) k n = search (rules, ranges, least_above_exact)
prefix-exact p (list other us) (request.string x) k n = sym (and-false _)
prefix-exact p b g k n = absurd (true≢false n)

-- ---- sets

kept-exact : (t : Tag) (ts : List Tag) (g : Request)
    → some_contains (tags (kept t ts)) g ≡ (contains t g || some_contains (tags ts) g)
kept-exact (set (more u us)) ts g = refl
kept-exact t ts g = refl

pub gather-exact : (ts : List Tag) (g : Request) → contains (gather ts) g ≡ some_contains (tags ts) g
gather-exact (t ∷ []) g = sym (or-false _)
gather-exact ts g = refl

pub append-exact : (ts us : List Tag) (g : Request)
    → some_contains (tags (ts ++ us)) g ≡ (some_contains (tags ts) g || some_contains (tags us) g)
append-exact [] us g = refl
append-exact (t ∷ ts) us g = search (rules, append-exact ts us g, or_assoc)

row-exact : (f : Tag → Tag) (t : Bool) (g : Request) (bs : Tags)
    → ((b : Tag) → is_set_or_star b ≡ false → is_normal b ≡ true → contains (f b) g ≡ (t && contains b g))
    → each_normal is_set_or_star bs ≡ true → some_contains (tags (row f bs)) g ≡ (t && some_contains bs g)
row-exact f t g none e n = sym (and-false t)
row-exact f t g (more b bs) e n =
    let p = three_parts is_set_or_star b bs n in search (rules, kept-exact, and-or_distrib_left, row-exact f t g bs e p.2)

across-exact : (a : Tag) (f : Tag → Tag) (b : Tag) (g : Request) → is_normal b ≡ true
    → ((b : Tag) → is_set_or_star b ≡ false → is_normal b ≡ true → contains (f b) g ≡ (contains a g && contains b g))
    → contains (across a f b) g ≡ (contains a g && contains b g)
across-exact a f star g n e = sym (and-true _)
across-exact a f (set bs) g n e = gather-exact (row f bs) g ∙ row-exact f (contains a g) g bs e ((and_parts _ _ n).1)
across-exact a f b g n e = e b refl n

set_across-exact : (ms : Tags) (f : Tags → List Tag) (b : Tag) (g : Request) → is_normal b ≡ true
    → ((bs : Tags) → each_normal is_set_or_star bs ≡ true → some_contains (tags (f bs)) g ≡ (some_contains ms g && some_contains bs g))
    → contains (set_across ms f b) g ≡ (some_contains ms g && contains b g)
set_across-exact ms f star g n e = sym (and-true _)
set_across-exact ms f (list head us) g n e = search (rules, gather-exact, and-true, or-false)
set_across-exact ms f (set bs) g n e = gather-exact (f bs) g ∙ e bs ((and_parts _ _ n).1)
set_across-exact ms f b g n e = search (rules, gather-exact, or-false)

-- ---- lists

pub tags-items : (ts : Tags) → tags (items ts) ≡ ts
tags-items none = refl
tags-items (more t ts) = ap (more t) (tags-items ts)

pub items_tags : (ts : List Tag) → items (tags ts) ≡ ts
items_tags [] = refl
items_tags (t ∷ ts) = ap (λ (us : List Tag). t ∷ us) (items_tags ts)

nothing-none : (t : Tag) (g : Request) → is_nothing t ≡ true → contains t g ≡ false
nothing-none (set none) g h = refl
nothing-none t g h = absurd (true≢false (sym h))

pub any_is_nothing-none : (ts : List Tag) (gs : Requests) → any_is_nothing ts ≡ true → contain_each (tags ts) gs ≡ false
any_is_nothing-none [] gs h = absurd (true≢false (sym h))
any_is_nothing-none (t ∷ ts) request.none h = refl
any_is_nothing-none (t ∷ ts) (request.more g gs) h = elim (or_cases (is_nothing t) (any_is_nothing ts) h) [
  | inl e ↦ ap (λ c. c && contain_each (tags ts) gs) (nothing-none t g e)
  | inr e ↦ ap (λ c. contains t g && c) (any_is_nothing-none ts gs e) ∙ and-false _
]

pub listed-exact : (head : List ℕ) (ts : List Tag) (g : Request) → contains (listed head ts) g ≡ contains (list head (tags ts)) g
listed-exact head ts (request.string x) =
    cond_both (any_is_nothing ts) nothing (list head (tags ts)) (λ t. contains t (request.string x) ≡ false) (λ _. refl) (λ _. refl)
listed-exact head ts (request.list requested gs) =
    cond_both (any_is_nothing ts) nothing (list head (tags ts))
    (λ t. contains t (request.list requested gs) ≡ contains (list head (tags ts)) (request.list requested gs))
    (λ e. sym (ap (λ c. bytes_eq head requested && c) (any_is_nothing-none ts gs e) ∙ and-false _)) (λ _. refl)

list-exact : (head : List ℕ) (ts : Tags) (f : Tags → List Tag) (b : Tag) (g : Request) → IsRequest g
    → is_set_or_star b ≡ false → is_normal b ≡ true
    → ((us : Tags) (gs : Requests) → AreRequests gs → each_normal is_nothing us ≡ true
    → contain_each (tags (f us)) gs ≡ (contain_each ts gs && contain_each us gs))
    → contains (list_meet head f b) g ≡ (contains (list head ts) g && contains b g)
list-exact head ts f star g k n m e = absurd (true≢false n)
list-exact head ts f (set us) g k n m e = absurd (true≢false n)
list-exact head ts f (list other us) (request.string x) k n m e =
    cond_both (bytes_eq head other) (listed head (f us)) nothing (λ t. contains t (request.string x) ≡ false)
    (λ _. listed-exact head (f us) (request.string x)) (λ _. refl)
list-exact head ts f (list other us) (request.list requested gs) k n m e =
    cond_both (bytes_eq head other) (listed head (f us)) nothing
    (λ t. contains t (request.list requested gs)
    ≡ ((bytes_eq head requested && contain_each ts gs) && (bytes_eq other requested && contain_each us gs)))
    (λ h. listed-exact head (f us) (request.list requested gs) ∙ (λ i. sym (and_self (bytes_eq head requested)) i && e us gs k.2 m i)
    ∙ twice (bytes_eq head requested) (bytes_eq head requested) (contain_each ts gs) (contain_each us gs)
    ∙ ap (λ z. (bytes_eq head requested && contain_each ts gs) && (bytes_eq z requested && contain_each us gs)) (same_text head other (sym h)))
    (λ h. and_never (bytes_eq head requested && contain_each ts gs) (bytes_eq other requested && contain_each us gs) (λ p q.
    sym h ∙ (bytes_decides head other).1 (same_text head requested (sym (and_parts (bytes_eq head requested) _ p).0)
    ∙ sym (same_text other requested (sym (and_parts (bytes_eq other requested) _ q).0)))))
list-exact head ts f b (request.string x) k n m e = refl
list-exact head ts f b (request.list requested gs) k n m e = sym (and-false _)

-- ---- tags

mutual
  pub meet_exact : (a b : Tag) (g : Request) → IsRequest g → is_normal a ≡ true → is_normal b ≡ true
      → contains (meet a b) g ≡ (contains a g && contains b g)
  meet_exact star b g k m n = refl
  meet_exact (string s) b g k m n = across-exact (string s) (string_meet s) b g n (λ c p q. string-exact s c g)
  meet_exact (prefix s) b g k m n = across-exact (prefix s) (prefix_meet s) b g n (λ c p q. prefix-exact s c g k p)
  meet_exact (range o l u) b g k m n = across-exact (range o l u) (range_meet o l u) b g n (λ c p q. range-exact o l u c g k p)
  meet_exact (list head ts) b g k m n =
      across-exact (list head ts) (list_meet head (each_meet ts)) b g n
      (λ c p q. list-exact head ts (each_meet ts) c g k p q (λ us gs j r. each-exact ts us gs j m r))
  meet_exact (set ms) b g k m n =
      set_across-exact ms (pairs ms) b g n (λ bs r. pairs-exact ms bs g k ((and_parts _ _ m).1) r)

  each-exact : (ts us : Tags) (gs : Requests) → AreRequests gs → each_normal is_nothing ts ≡ true
      → each_normal is_nothing us ≡ true
      → contain_each (tags (each_meet ts us)) gs ≡ (contain_each ts gs && contain_each us gs)
  each-exact none us gs k m n = ap (λ ws. contain_each ws gs) (tags-items us)
  each-exact (more t ts) none gs k m n = ap (λ ws. contain_each (more t ws) gs) (tags-items ts) ∙ sym (and-true _)
  each-exact (more t ts) (more u us) request.none k m n = refl
  each-exact (more t ts) (more u us) (request.more g gs) k m n =
      let p = three_parts is_nothing t ts m in
      let q = three_parts is_nothing u us n in
      (λ i. meet_exact t u g k.0 p.1 q.1 i && each-exact ts us gs k.1 p.2 q.2 i)
      ∙ twice (contains t g) (contains u g) (contain_each ts gs) (contain_each us gs)

  pairs-exact : (ms bs : Tags) (g : Request) → IsRequest g → each_normal is_set_or_star ms ≡ true
      → each_normal is_set_or_star bs ≡ true
      → some_contains (tags (pairs ms bs)) g ≡ (some_contains ms g && some_contains bs g)
  pairs-exact none bs g k m n = refl
  pairs-exact (more a ms) bs g k m n =
      let p = three_parts is_set_or_star a ms m in
      let here = row-exact (meet a) (contains a g) g bs (λ b r q. meet_exact a b g k p.1 q) n in
      search (rules, append-exact, and-or_distrib_right, here, pairs-exact ms bs g k p.2 n)
