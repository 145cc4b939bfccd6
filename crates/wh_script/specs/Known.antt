-- What is known of the views that commands create, so that one more is tested by its own names.
use Rattle.def_built.specs.Form.{created_by, created_over}
use Rattle.std.specs.List.{list_any}
use Rattle.std.specs.Prelude.{◌&&◌, ◌||◌, ◌≡◌, Bool, List, None, Option, Some, flat_map, is_none, ℕ}
use Rattle.wh_base.specs.Lists.{has_text, where_true}
use Rattle.wh_base.specs.declared.queries.RawTable.{RawTable}
use Rattle.wh_base.specs.declared.statements.Command.{Command}
use Rattle.wh_base.specs.declared.statements.Section.{Section}
use Rattle.wh_script.specs.declared.view_names.ViewNames.{ViewNames}

-- the name of a table in FROM, where it stands by itself
abbrev pub lone_of : RawTable → Option (List ℕ)
lone_of t = where_true (is_none t.alias && is_none t.on) t.table

-- the last has the names of the first, and more
pub record HasMore (names more all : List (List ℕ)) : Type 0 where
  pub has : (n : List ℕ) → has_text all n ≡ (has_text names n || has_text more n)

-- a view of this command stands over one of these or over itself, or one of these stands over it
abbrev pub nests_with : ViewNames → Command → Bool
nests_with v c =
    list_any (has_text v.over) (created_by c)
    || (list_any (has_text v.made) (created_over c) || list_any (has_text (created_by c)) (created_over c))

-- the names with those of one command more
pub record IsMore (v : ViewNames) (c : Command) (w : ViewNames) : Type 0 where
  pub by : HasMore v.made (created_by c) w.made
  pub upon : HasMore v.over (created_over c) w.over
  pub nested : w.nest ≡ (v.nest || nests_with v c)

-- the same, where a section goes on that takes the command
abbrev pub AreMore : Option Section → Command → ViewNames → ViewNames → Type 0
AreMore None c v w = w ≡ v
AreMore (Some s) c v w = IsMore v c w

abbrev pub commands_of : List Section → List Command
commands_of sections = flat_map (λ s. s.commands) sections

-- these are the names of the views of these sections
pub record Knows (v : ViewNames) (sections : List Section) : Type 0 where
  pub by : (n : List ℕ) → has_text v.made n ≡ has_text (flat_map created_by (commands_of sections)) n
  pub upon : (n : List ℕ) → has_text v.over n ≡ has_text (flat_map created_over (commands_of sections)) n
  pub nested : v.nest ≡ list_any (has_text (flat_map created_by (commands_of sections))) (flat_map created_over (commands_of sections))
