-- The scripts that the program runs so far: those of the grammar with forms that are built alone.
use Rattle.def_built.specs.Commands.{commands_are_built}
use Rattle.def_built.specs.Forms.{is_built}
use Rattle.def_built.specs.declared.forms.Form.TheVariants as forms
use Rattle.def_grammar.specs.Script.{Draft, Outcome, script_where, sections_of}
use Rattle.def_resolve.specs.Names.{lone_name}
use Rattle.std.specs.List.{list_all, list_any}
use Rattle.std.specs.Prelude.{◌&&◌, ◌==◌, ◌||◌, ◌∷◌, Bool, List, [], flat_map, is_none, not, option_to_list, true, ℕ}
use Rattle.wh_base.specs.Lists.{has_text, is_empty}
use Rattle.wh_base.specs.declared.statements.Command.{Command}
use Rattle.wh_base.specs.declared.statements.Command.TheVariants as commands
use Rattle.wh_base.specs.declared.statements.Script.{Script}
use Rattle.wh_base.specs.declared.statements.Section.{Section}
use Rattle.wh_base.specs.declared.statements.Statement.TheVariants as about
use Rattle.wh_base.specs.declared.statements.ViewStatement.TheVariants.{CreateView}

-- the setup, or a session
abbrev pub section_is_built : Section → Bool
section_is_built s = ((s.session == 0) || is_built forms.Session) && commands_are_built s.commands

-- what stands behind the first section is a session
abbrev pub sections_are_built : List Section → Bool
sections_are_built [] = true
sections_are_built (s ∷ []) = section_is_built s
sections_are_built (s ∷ t ∷ more) = is_built forms.Session && list_all section_is_built (s ∷ t ∷ more)

-- ---- views over views: a view is created over one name that a view bears, which the script creates before or after it. So it is
-- told by the whole script, where all else is told by a command itself

-- the names of the views that a command creates
abbrev pub created_by : Command → List (List ℕ)
created_by (commands.Other (about.View (CreateView v))) = v.name ∷ []
created_by c = []

-- the names over which it creates a view, each being all that stands in FROM
abbrev pub created_over : Command → List (List ℕ)
created_over (commands.Other (about.View (CreateView v))) = option_to_list (lone_name v.asked.query)
created_over c = []

-- a view may stand over a view of these sections
abbrev pub nests : List Section → Bool
nests sections =
    let cs = flat_map (λ s. s.commands) sections in list_any (has_text (flat_map created_by cs)) (flat_map created_over cs)

abbrev pub views_are_built : List Section → Bool
views_are_built sections = not (nests sections) || is_built forms.Nested

-- ---- the whole

-- what was read so far: its sections, its open block, its order, and its workers
abbrev pub draft_is_built : Draft → Bool
draft_is_built d =
    (sections_are_built (sections_of d) && views_are_built (sections_of d))
    && ((is_none d.block || is_built forms.Block) && ((is_none d.order || is_built forms.Order) && (is_none d.workers || is_built forms.Workers)))

-- the script that the bytes are, with the place behind its end, or their first fault; a form that isn't built is one
unfoldable pub built_script : List ℕ → Bool → Outcome
built_script bytes tail = script_where draft_is_built bytes tail

-- ---- what is known of a script that is built

abbrev pub script_is_built : Script → Bool
script_is_built s =
    (sections_are_built s.sections && views_are_built s.sections)
    && ((is_empty s.order || is_built forms.Order) && ((s.workers == 0) || is_built forms.Workers))
