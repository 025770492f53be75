use Rattle.std.proofs.{Common.{◌∙◌, ◌||◌, fold, ap, ap₂, sym, subst, arith}, lemmas.List.{take_all, Sums.{fold_more}}}
use Rattle.clap.specs.Words.{App, with_subcommand}
use Rattle.spki_words.specs.{Words.{commands, bare, with_command, IsProgram}, declared.commands.Command.TheVariants.{Canonical}}
use Rattle.spki_words.proofs.words.program.Goals as goal

pub loop-command-init : goal.loop-command-init
loop-command-init c = c.bare-program.ensures

pub loop-command-preserved : goal.loop-command-preserved
loop-command-preserved c =
    let more = fold_more with_command bare commands c.loop-command.command-index Canonical (omega arith) in
    let adds = c.in_ok-program.ensures in (
      adds.shape c.subcommand.ensures.1
          ∙ ap₂ with_subcommand c.loop-command.invariant.0 (ap (λ (a : App). a.top) c.subcommand.ensures.0) ∙ sym more,
      adds.globals ∙ ap₂ (λ a b. a || b) c.loop-command.invariant.1 c.subcommand.ensures.1,
    )

pub returns : goal.returns
returns c = subst (λ cs. IsProgram (fold with_command bare cs) c.loop-command.program)
    (take_all c.loop-command.command-index commands (omega arith)) c.loop-command.invariant
