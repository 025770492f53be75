use Rattle.spki_service.{specs.Questions.{words_value}, proofs.PartTexts.{words_now, words_shallow, made_read}}
use Rattle.spki_service.proofs.texts.request_text.Goals as goal

pub returns-in-Text : goal.returns-in-Text
returns-in-Text c = rw c.in-Text.is c.read.ensures.read

pub made-requires : goal.made-requires
made-requires c =
    let words = words_now c.in-Words.words.now in
    (words_value words, words_shallow words, c.in_ok-words_text-in-Words.ensures)

pub returns-in_ok-words_text-in-Words : goal.returns-in_ok-words_text-in-Words
returns-in_ok-words_text-in-Words c =
    let words = words_now c.in-Words.words.now in
    rw c.in-Words.is (made_read words _ c.made.result c.in_ok-words_text-in-Words.ensures c.made.ensures.made c.made.ensures.too_long)
