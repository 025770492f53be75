use Rattle.std.proofs.Common.{◌≢◌, arith}
use Rattle.spki_words.{specs.Words.{word_of}, proofs.CommandWords.{each_command}}
use Rattle.spki_words.proofs.commands.Command.named.Goals as goal

pub returns : goal.returns
returns c = each_command (λ d. c.args.word.now ≢ word_of d) (λ k d lt. c.loop-command.invariant k d (omega arith))
