use Rattle.std.proofs.Common.{◌≡◌, ◌≤◌, [], length}
use Rattle.wh_ddl_text.specs.NameLists.{names_behind, with_names}
use Rattle.wh_ddl_text.proofs.name_lists.names_behind.Given as goal

-- the names so far and those to come are all of them
abbrev pub invariant-loop-turn : goal.invariant-loop-turn
invariant-loop-turn l = record {
  all : with_names l.names (names_behind l.rest) ≡ with_names [] (names_behind l.text);
  count : length l.names ≡ l.turn;
  few : length l.rest ≤ length l.text;
}
