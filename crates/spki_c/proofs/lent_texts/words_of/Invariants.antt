use Rattle.std.proofs.Common.{◌≡◌, map, take}
use Rattle.spki_c.proofs.lent_texts.words_of.Given as goal

abbrev pub invariant-loop-text : goal.invariant-loop-text
invariant-loop-text l = map (λ w. w.now) l.words.items ≡ map (λ t. t.octets) (take l.text-index l.fn.texts)
