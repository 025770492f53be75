use Rattle.std.proofs.Common.{[]}
use Rattle.metered_io.proofs.Sent.{SendsFront-all, on_err}
use Rattle.metered_io.proofs.output.write_whole.Goals as goal

pub returns-clause-front : goal.returns-clause-front
returns-clause-front g c =
    on_err c.flush_writer.result ([], SendsFront-all c.write_octets.new.writer c.in_ok-write_octets.ensures.octets c.flush_writer.ensures.octets)
