-- What sinks have taken, in one call and in several.
use Rattle.std.proofs.Common.{◌≡◌, ℕ, true, true≢false, List, [], ◌++◌, refl, sym, ap, ◌∙◌, append_assoc, append-nil, arith}
use Rattle.std.proofs.lemmas.List.{length-append}
use Rattle.std.specs.{Prelude.{◌+◌, ◌-◌, ◌^◌, ◌==◌, ◌<◌, ◌≤◌, length, Bool, false}, Borrow.{GName}}
use Rattle.sexpr_text.specs.declared.sinks.{VectorSink.{VectorSink}, Counter.{Counter}}

-- ---- what a vector has taken

-- the reference to the vector
abbrev pub lender_of : VectorSink → GName
lender_of s = s.octets.ghost_name

-- the octets of the vector
abbrev pub text_of : VectorSink → List ℕ
text_of s = s.octets.now.items

-- memory ran out for some octets
abbrev pub has_failed : VectorSink → Bool
has_failed s = s.failed

-- the vector is the same one and keeps what it had, and unless memory ran out these octets follow it
pub record VectorTakes (old : VectorSink) (octets : List ℕ) (new : VectorSink) : Type 0 where
  pub same_lender : lender_of new ≡ lender_of old
  pub kept : (added : List ℕ) × (text_of new ≡ text_of old ++ added)
  pub appended : has_failed new ≡ false → (has_failed old ≡ false) × (text_of new ≡ text_of old ++ octets)

-- ---- what a counter has taken

-- how many octets were counted
abbrev pub count_of : Counter → ℕ
count_of c = c.count

-- the count is the greatest `u64`, and grows no more
abbrev pub is_at_end : Counter → Bool
is_at_end c = count_of c == 2 ^ 64 - 1

-- the count grows, at most by the number of these octets, and below the greatest `u64` by this number
pub record IsCounted (old : Counter) (octets : List ℕ) (new : Counter) : Type 0 where
  pub grows : count_of old ≤ count_of new
  pub bound : count_of new ≤ count_of old + length octets
  pub sum : count_of new < 2 ^ 64 - 1 → count_of new ≡ count_of old + length octets

-- ---- what sinks take, one call after another

-- a vector that does not change has taken no octets
pub vector_takes_nothing : (s : VectorSink) → VectorTakes s [] s
vector_takes_nothing s = record {
  same_lender = refl;
  kept = ([], sym (append-nil (text_of s)));
  appended = λ ok. (ok, sym (append-nil (text_of s)));
}

-- two pieces that a vector takes are together one
pub vector_takes_both : (a b c : VectorSink) (x y : List ℕ) → VectorTakes a x b → VectorTakes b y c → VectorTakes a (x ++ y) c
vector_takes_both a b c x y f g = record {
  same_lender = g.same_lender ∙ f.same_lender;
  kept = (f.kept.0 ++ g.kept.0, g.kept.1 ∙ ap (λ s. s ++ g.kept.0) f.kept.1 ∙ append_assoc (text_of a) f.kept.0 g.kept.0);
  appended = λ ok.
      let second = g.appended ok in
      let first = f.appended second.0 in
      (first.0, second.1 ∙ ap (λ s. s ++ y) first.1 ∙ append_assoc (text_of a) x y);
}

-- a vector for which memory ran out may take no more
pub vector_stays : (s : VectorSink) → has_failed s ≡ true → (octets : List ℕ) → VectorTakes s octets s
vector_stays s full octets = record {
  same_lender = refl;
  kept = ([], sym (append-nil (text_of s)));
  appended = λ well. absurd (true≢false (sym full ∙ well));
}

-- a counter that does not change has taken no octets
pub nothing_counted : (c : Counter) → IsCounted c [] c
nothing_counted c = record {
  grows = omega arith;
  bound = omega arith;
  sum = λ _. omega arith;
}

-- two pieces that a counter takes are together one
pub both_counted : (a b c : Counter) (x y : List ℕ) → IsCounted a x b → IsCounted b y c → IsCounted a (x ++ y) c
both_counted a b c x y f g = record {
  grows = omega (arith, f.grows, g.grows);
  bound = omega (arith, length-append x y, f.bound, g.bound);
  sum = λ below. omega (arith, length-append x y, f.sum (omega (arith, g.grows, below)), g.sum below);
}

-- a counter at the greatest `u64` takes any octets without a change
pub counter_stays : (c : Counter) → is_at_end c ≡ true → (octets : List ℕ) → IsCounted c octets c
counter_stays c full octets = record {
  grows = omega arith;
  bound = omega arith;
  sum = λ below. grind (arith, below, full);
}
