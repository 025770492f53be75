use Rattle.std.proofs.Common.{◌≡◌, ℕ, List, ◌++◌, Ok, true, sym, ap, ◌∙◌, rules}
use Rattle.http_signature.specs.Characters.{is_token, is_target, is_value}
use Rattle.http_signature.proofs.BaseLines.{base_is}
use Rattle.http_signature.proofs.base.signature_base.Goals as goal

pub returns-clause-read : goal.returns-clause-read
returns-clause-read c =
    let token : is_token c.args.request.now.method ≡ true = search rules in
    let target : is_target c.args.request.now.target ≡ true = search rules in
    let value : is_value c.args.parameters.now ≡ true = search rules in
    base_is c.args.request.now c.args.components.now c.args.parameters.now c.in_ok-text.text.items token target value c.in_ok-text.ensures.read
    ∙ ap Ok (ap (λ (xs : List ℕ). xs ++ c.args.parameters.now) (sym c.in_ok-extend_from_slice.ensures.items) ∙ sym c.in_ok-extend_from_slice-2.ensures.items)
