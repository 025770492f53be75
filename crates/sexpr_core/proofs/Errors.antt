-- An error that a `?` returns as it is.
use Rattle.std.{proofs.Common.{◌≡◌, Result, Ok, Err, IfErr, sym, subst}, specs.Prelude.{IsErrAnd, MatchResult}}

pub err_kept : {T E : Type 0} (r : Result T E) (e : E) (Q : E → Type 0) → IsErrAnd r (λ y. y ≡ e) → Q e → IfErr r Q
err_kept (Ok x) e Q h q = tt
err_kept (Err y) e Q h q = subst Q (sym h) q

pub err_matched : {T E : Type 0} (r : Result T E) (e : E) (P : T → Type 0) (Q : E → Type 0) → IsErrAnd r (λ y. y ≡ e) → Q e → MatchResult r P Q
err_matched (Ok x) e P Q h q = absurd h
err_matched (Err y) e P Q h q = subst Q (sym h) q
