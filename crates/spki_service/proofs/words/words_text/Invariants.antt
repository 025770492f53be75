use Rattle.std.proofs.Common.{◌≡◌, ◌∷◌, [], ◌++◌}
use Rattle.spki_service.proofs.PartTexts.{octets_of}
use Rattle.spki_service.proofs.words.words_text.Given as goal

abbrev pub invariant-loop-word : goal.invariant-loop-word
invariant-loop-word l = l.out.items ≡ (40 ∷ []) ++ octets_of l.word-index l.words
