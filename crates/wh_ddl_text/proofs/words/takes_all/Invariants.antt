use Rattle.std.proofs.Common.{◌≡◌, drop}
use Rattle.std.specs.Prelude.{map}
use Rattle.def_grammar.specs.Forms.{all_words}
use Rattle.wh_ddl_text.proofs.words.takes_all.Given as goal

-- the words that are left are there, where all are
abbrev pub invariant-loop-word : goal.invariant-loop-word
invariant-loop-word l = all_words (map (λ w. w.now) (drop l.word-index l.words)) l.parser ≡ all_words (map (λ w. w.now) l.words) l.initial.parser
