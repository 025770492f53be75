use Rattle.std.proofs.Common.{◌*◌, ◌<◌, ◌≤◌, arith, rules}
use Rattle.sexpr_core.specs.Value.{Value}
use Rattle.spki_tag.{specs.{Reading.{ReadsAs}, Tag.{Tag, nodes, IsNormalTag}}, proofs.NormalForms.{IsNormalTag-of, meet-normal_tag}}
use Rattle.spki_guard.proofs.AnswerLaws.{first_refused, second_refused}
use Rattle.spki_guard.proofs.intersection.intersection_in.Goals as goal

normal_read : (v : Value) (t : Tag) → ReadsAs v t → IsNormalTag t
normal_read v t r = IsNormalTag-of r.w t r.normal (omega (arith, r.few))

pub returns-clause-read : goal.returns-clause-read
returns-clause-read c =
    let met = c.in_ok-met.ensures in
    let a : IsNormalTag c.in-Ok.tag = normal_read _ _ c.in-Ok.ensures.read in
    let b : IsNormalTag c.in-Ok-of.tag = normal_read _ _ c.in-Ok-of.ensures.read in
    let large : ¬ (1000000 < nodes c.in-Ok.tag * nodes c.in-Ok-of.tag) = λ h. let e = met.too_large.1 h in cc in
    let few : nodes c.in-Ok.tag * nodes c.in-Ok-of.tag ≤ 1000000 = omega arith in
    record {
      first = c.in-Some.operands.first;
      second = c.in-Some.operands.second;
      written = c.in-Some.ensures;
      a = c.in-Ok.tag;
      b = c.in-Ok-of.tag;
      first_read = c.in-Ok.ensures.read;
      second_read = c.in-Ok-of.ensures.read;
      within_limit = few;
      value = met.value;
      normal = rw met.value (meet-normal_tag c.in-Ok.tag c.in-Ok-of.tag a b few);
      exact = met.exact;
      few = met.bounds.0;
      shallow = met.bounds.1;
    }

pub returns-in-Err-clause-refused : goal.returns-in-Err-clause-refused
returns-in-Err-clause-refused c =
    first_refused c.args.node.now c.in-Some.operands.first c.in-Some.operands.second c.in-Err.fault c.fault_of_first.result
    c.in-Some.ensures c.in-Err.ensures.refused c.in-Err.ensures.named c.fault_of_first.ensures

pub returns-in-Err-of-clause-refused : goal.returns-in-Err-of-clause-refused
returns-in-Err-of-clause-refused c = search (rules, second_refused)
