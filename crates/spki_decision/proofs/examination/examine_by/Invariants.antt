use Rattle.std.{proofs.Common.{◌≡◌, ◌++◌, map, take, drop}, specs.List.{AllZip}}
use Rattle.spki_reduce.specs.Reduction.{step_tuple}
use Rattle.spki_case.specs.Case.{keys_of}
use Rattle.spki_decision.specs.CertificateTests.{PassesTestsAs, asked_in, every, shown_of, signed_of}
use Rattle.spki_decision.proofs.examination.examine_by.Given as goal

abbrev pub invariant-loop-shown : goal.invariant-loop-shown
invariant-loop-shown l = record {
  standing : AllZip (PassesTestsAs l.policy (keys_of l.sequence) every) (take l.shown-index (map shown_of l.shown-items))
      (map step_tuple l.steps.items);
  keys : l.keys ≡ keys_of l.sequence;
  asked : asked_in l.policy (keys_of l.sequence) (map shown_of l.shown-items)
      ≡ map signed_of l.signed.items ++ asked_in l.policy (keys_of l.sequence) (drop l.shown-index (map shown_of l.shown-items));
}
