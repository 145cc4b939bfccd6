use Rattle.std.proofs.Common.{◌≡◌, drop}
use Rattle.std.specs.List.{list_any}
use Rattle.wh_base.specs.Lists.{same_text}
use Rattle.wh_query_text.proofs.parser.is_one_of.Given as goal

-- it is one of the words from here on where it is one of them at all
abbrev pub invariant-loop-word : goal.invariant-loop-word
invariant-loop-word l = list_any (λ w. same_text l.text w.now) (drop l.word-index l.words) ≡ list_any (λ w. same_text l.text w.now) l.words
