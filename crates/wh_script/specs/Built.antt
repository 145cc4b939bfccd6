-- What is asked of one more step of a draft, where what was read before it is built.
use Rattle.def_built.specs.Form.{sections_are_built}
use Rattle.def_built.specs.Forms.{is_built}
use Rattle.def_built.specs.declared.forms.Form.TheVariants as forms
use Rattle.def_grammar.specs.Script.{Draft}
use Rattle.std.specs.Prelude.{◌&&◌, ◌||◌, ◌==◌, ◌++◌, ◌∷◌, ◌≡◌, Bool, List, None, Option, Some, [], is_none, true, ℕ}
use Rattle.wh_base.specs.Lists.{is_empty}
use Rattle.wh_base.specs.declared.statements.Command.{Command}
use Rattle.wh_base.specs.declared.statements.Section.{Section}

abbrev pub but_last : {A : Type 0} → List A → List A
but_last [] = []
but_last (x ∷ []) = []
but_last (x ∷ y ∷ xs) = x ∷ but_last (y ∷ xs)

-- the section of these commands without the last one; none where there is no command
abbrev pub shorter_section : ℕ → List Command → List Section
shorter_section n [] = []
shorter_section n (c ∷ cs) = record { session = n; commands = but_last (c ∷ cs) } ∷ []

abbrev pub shorter_last : Option Section → List Section
shorter_last None = []
shorter_last (Some s) = shorter_section s.session s.commands

-- all before the last command is built, or before the last section where it has none
abbrev pub IsBuiltBefore : Draft → Type 0
IsBuiltBefore d = sections_are_built (d.before ++ shorter_last d.now) ≡ true

-- a section of this session may stand behind these
abbrev pub may_stand : List Section → ℕ → Bool
may_stand before n = (is_empty before && (n == 0)) || is_built forms.Session

-- its block, its order and its workers are built where they are there
abbrev pub parts_are_built : Draft → Bool
parts_are_built d =
    (is_none d.block || is_built forms.Block) && ((is_none d.order || is_built forms.Order) && (is_none d.workers || is_built forms.Workers))
