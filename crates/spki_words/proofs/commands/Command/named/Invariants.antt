use Rattle.std.proofs.Common.{◌≢◌, ℕ, ◌<◌, slice_index_or}
use Rattle.spki_words.specs.{Words.{word_of}, declared.commands.Command.{Command}}
use Rattle.spki_words.proofs.commands.Command.named.Given as goal

abbrev pub invariant-loop-command : goal.invariant-loop-command
invariant-loop-command l = (k : ℕ) (d : Command) → k < l.command-index → l.word ≢ word_of (slice_index_or l.command-items k d)
