use Rattle.std.proofs.Common.{◌∷◌, []}
use Rattle.sexpr_core.proofs.TreeLaws.{member_written}
use Rattle.spki_service.proofs.PartTexts.{word_value, words_written}
use Rattle.spki_service.proofs.words.words_text.Goals as goal

pub loop-word-preserved : goal.loop-word-preserved
loop-word-preserved c =
    member_written word_value _ _ _ (40 ∷ []) _ _ c.loop-word-test.true c.loop-word.invariant c.in_ok-append_verbatim-2.ensures.written

pub returns : goal.returns
returns c =
    words_written c.args.words.now c.loop-word.word-index _ _ c.if-words-eq1.false c.loop-word-test.false c.loop-word.invariant
    c.in_ok-push-2.ensures.items
