use Rattle.std.proofs.Common.{rules}
use Rattle.metered_io.proofs.Sent.{SendsFront-more}
use Rattle.metered_io.proofs.output.write_octets.Goals as goal

pub loop-rest-preserved : goal.loop-rest-preserved
loop-rest-preserved g c = record {
  sent = SendsFront-more c.in_ok-count.count c.loop-rest.invariant.sent c.in_ok-count.ensures.octets c.split_at.ensures.back;
  asked = search rules;
  faultless = search rules;
  earlier = search rules;
  unflushed = λ e. search rules;
}
