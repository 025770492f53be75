use Rattle.std.proofs.Common.{◌≡◌, None, rules}
use Rattle.std.specs.Prelude.{OnOk}
use Rattle.http_signature.specs.Nonces.{refusal}
use Rattle.http_signature.proofs.OnceTaken.{fresh_on_ok}
use Rattle.http_signature.proofs.nonces.Nonces.take.Goals as goal

pub returns-then-age-lt-GENERATION_SECONDS-clause-fresh : goal.returns-then-age-lt-GENERATION_SECONDS-clause-fresh
returns-then-age-lt-GENERATION_SECONDS-clause-fresh c =
    let taken : OnOk c.add.result (refusal c.args.self.now c.args.nonce.now c.args.moment ≡ None) = search rules in
    fresh_on_ok c.add.result c.args.self.now c.args.nonce.now c.args.moment taken

pub returns-else-age-lt-GENERATION_SECONDS-clause-fresh : goal.returns-else-age-lt-GENERATION_SECONDS-clause-fresh
returns-else-age-lt-GENERATION_SECONDS-clause-fresh c =
    let taken : OnOk c.begin.result (refusal c.args.self.now c.args.nonce.now c.args.moment ≡ None) = search rules in
    fresh_on_ok c.begin.result c.args.self.now c.args.nonce.now c.args.moment taken
