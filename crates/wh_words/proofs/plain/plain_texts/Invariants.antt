use Rattle.wh_words.proofs.Walked.{IsWalked}
use Rattle.wh_words.proofs.plain.plain_texts.Given as goal

-- the texts so far and the words to come are the words, if these are plain
abbrev pub invariant-loop-word : goal.invariant-loop-word
invariant-loop-word l = IsWalked l.words l.word-index l.texts.items
