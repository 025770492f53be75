use Rattle.std.proofs.Common.{fold, take}
use Rattle.spki_words.specs.Words.{bare, with_command, IsProgram}
use Rattle.spki_words.proofs.words.program.Given as goal

abbrev pub invariant-loop-command : goal.invariant-loop-command
invariant-loop-command l = IsProgram (fold with_command bare (take l.command-index l.command-items)) l.program
