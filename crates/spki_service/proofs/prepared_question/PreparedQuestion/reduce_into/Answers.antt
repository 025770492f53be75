use Rattle.std.proofs.Common.{[], inl, inr, refl, rules}
use Rattle.spki_decision.specs.CertificateTests.{signed_of}
use Rattle.spki_service.proofs.AnswerLaws.{folded_marked}
use Rattle.spki_service.proofs.prepared_question.PreparedQuestion.reduce_into.Goals as goal

pub returns-in-None-clause-folds : goal.returns-in-None-clause-folds
returns-in-None-clause-folds g c =
    folded_marked c.args.self.now (rw c.in-None.is at c.unmarked.ensures) (λ folds. g.S.FoldSink.takes c.args.sink.now folds c.put_folds.new.sink)
    c.put_folds.result c.put_folds.ensures.folds

pub returns-in-None-clause-too_large : goal.returns-in-None-clause-too_large
returns-in-None-clause-too_large g c e = inl (rw c.in-None.is at c.unmarked.ensures, c.put_folds.ensures.too_large e)

pub returns-in-Some-clause-folds : goal.returns-in-Some-clause-folds
returns-in-Some-clause-folds g c =
    ([], search rules, inr (signed_of c.in-Some.one.now, rw c.in-Some.is at c.unmarked.ensures, (refl, refl)))
