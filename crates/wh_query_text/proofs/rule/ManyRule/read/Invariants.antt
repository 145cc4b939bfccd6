use Rattle.std.proofs.Common.{◌≡◌, ◌-◌}
use Rattle.def_grammar.specs.Reading.{many, many_times}
use Rattle.wh_query_text.proofs.Lists.{with_items}
use Rattle.wh_query_text.proofs.rule.ManyRule.read.Given as goal

-- the items so far and those to come are all of them
abbrev pub invariant-loop-turn : goal.invariant-loop-turn
invariant-loop-turn g l = record {
  rest : with_items l.items (many_times (l.turn-end - l.turn) g.R.Rule.reads l.parser) ≡ many g.R.Rule.reads l.fn.parser;
}
