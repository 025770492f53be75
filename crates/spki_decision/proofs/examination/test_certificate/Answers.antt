use Rattle.std.proofs.Common.{◌≡◌, ap, rules, Some, option_copied}
use Rattle.spki_decision.specs.CertificateTests.{shown_of}
use Rattle.spki_decision.proofs.examination.test_certificate.Goals as goal

pub returns-clause-tested : goal.returns-clause-tested
returns-clause-tested c =
    let signature_is : (shown_of c.args.shown.now).signature ≡ Some c.in-Some.signature.now = ap option_copied c.in-Some.is in
    record {
      stands = record {
        issued = search rules;
        signature = c.in-Some.signature.now;
        signed = signature_is;
        digest = search rules;
        signer = search rules;
        accepted = tt;
      };
      signed_is = search rules;
    }
