use Rattle.std.proofs.Common.{◌≡◌, ◌≤◌, [], length}
use Rattle.def_grammar.specs.Lines.{words_in}
use Rattle.wh_script.specs.Drafts.{numbers_behind}
use Rattle.wh_script.proofs.order.order_numbers.Given as goal

abbrev pub invariant-loop-next : goal.invariant-loop-next
invariant-loop-next l = record {
  few : length l.rest ≤ length l.words;
  all : numbers_behind l.line l.numbers (words_in l.rest) ≡ numbers_behind l.line [] (words_in l.words);
}

abbrev pub decreases-loop-next : goal.decreases-loop-next
decreases-loop-next l = length l.rest
