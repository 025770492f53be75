use Rattle.std.{proofs.Common.{[], ◌∷◌, ◌++◌, map, ap, ◌∙◌, refl}, specs.Prelude.{codes}}
use Rattle.sexpr_core.specs.Value.{Value, plain, group, sexp_value}
use Rattle.spki_tag.specs.Tag.{tag_value}
use Rattle.spki_reduce.{specs.Written.{headed, named, delegation_values, in_valid, window_limits}, proofs.WrittenNames.{five_members}}
use Rattle.spki_reduce.proofs.tuple.Five.write.Goals as goal

pub returns : goal.returns
returns c =
    let five = c.args.self.now in
    let subject = named (sexp_value c.in_ok-principal.principal) five.subject.names in
    let (issuer, issuer_is, issued) = c.in_ok-push_issuer.ensures in
    let members =
    five_members (plain (codes "five")) (headed (codes "subject") (subject ∷ [])) (headed (codes "tag") (tag_value five.tag ∷ [])) issuer
    (delegation_values five.propagate) (in_valid (window_limits five.window)) _ _ _ _ _ _ c.in_ok-members.ensures issued
    (c.in_ok-push_headed.ensures
    ∙ ap (λ (v : Value). map sexp_value c.push_issuer.new.members.items ++ headed (codes "subject") (v ∷ []) ∷ []) c.in_ok-subject.ensures)
    c.in_ok-push_delegation.ensures
    (c.in_ok-push_headed-2.ensures
    ∙ ap (λ (v : Value). map sexp_value c.push_delegation.new.members.items ++ headed (codes "tag") (v ∷ []) ∷ []) c.in_ok-write.ensures)
    c.in_ok-push_window.ensures in
    record {
      issuer = issuer;
      issuer_is = issuer_is;
      subject = subject;
      subject_is = (sexp_value c.in_ok-principal.principal, c.in_ok-principal.ensures, refl);
      written = c.list.ensures ∙ ap group members;
    }
