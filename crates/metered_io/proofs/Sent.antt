-- What a writer has accepted of some octets, write by write.
use Rattle.std.proofs.Common.{◌≡◌, ℕ, List, [], ◌++◌, Option, Result, Ok, Err, OnErr, take, drop, ◌∙◌, sym, ap, append_assoc, append-nil, take-append-drop}
use Rattle.std.proofs.KnownBytes.{Appends-trans, Appends-kept}
use Rattle.metered_io.specs.{declared.meters.Metered.{Metered}, MeteredCalls.{Takes, TakesNone, inner_of, SendsFront}}

-- one more write accepted the first n octets of the rest
pub SendsFront-more : {W : Type 0} {contents : W → Option (List ℕ)} {a b c : Metered W} {octets rest left : List ℕ} (n : ℕ)
    → SendsFront contents a b octets rest → Takes contents b c (take n rest) → left ≡ drop n rest
    → SendsFront contents a c octets left
SendsFront-more {W} {contents} {a} {b} {c} {octets} {rest} {left} n h more e =
    let regrouped = append_assoc h.sent (take n rest) (drop n rest) in record {
      sent = h.sent ++ take n rest;
      whole = h.whole ∙ ap (λ l. h.sent ++ l) (sym (take-append-drop n rest)) ∙ sym regrouped
          ∙ ap (λ l. (h.sent ++ take n rest) ++ l) (sym e);
      taken = Appends-trans (contents (inner_of a)) (contents (inner_of b)) (contents (inner_of c)) h.sent (take n rest) h.taken more;
    }

-- all octets were accepted, and none after them
pub SendsFront-all : {W : Type 0} {contents : W → Option (List ℕ)} {a c : Metered W} {octets : List ℕ} (b : Metered W)
    → Takes contents a b octets → TakesNone contents b c → SendsFront contents a c octets []
SendsFront-all {W} {contents} {a} {c} {octets} b h kept = record {
  sent = octets;
  whole = sym (append-nil octets);
  taken = Appends-kept (contents (inner_of a)) (contents (inner_of b)) (contents (inner_of c)) octets h kept;
}

pub on_err : {A E : Type 0} {P : Type 0} (r : Result A E) → P → OnErr r P
on_err (Ok a) p = tt
on_err (Err e) p = p
