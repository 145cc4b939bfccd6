-- What is left of the sessions of a script.
use Rattle.std.specs.List.{enumerate_from}
use Rattle.std.specs.Prelude.{List, [], cond, drop, filter, flat_map, map, not, ℕ, ◌<◌, ◌≡◌, ◌+◌, ◌==◌, ◌∷◌}
use Rattle.wh_base.specs.Parts.{command_entries, parts_of, section_entries}
use Rattle.wh_base.specs.declared.statements.Command.{Command}
use Rattle.wh_base.specs.declared.statements.Entry.{Entry}
use Rattle.wh_base.specs.declared.statements.Section.{Section}
use Rattle.def_journal.specs.Journal.{Left, is_setup}

-- the entries of these commands, which stand behind so many, without the first parts
abbrev pub left_of : ℕ → ℕ → ℕ → List Command → List Entry
left_of session taken parts commands = drop parts (flat_map (command_entries session) (enumerate_from (taken + 1) commands))

-- not all parts of the first command are taken
abbrev pub IsWithin : ℕ → List Command → Type 0
IsWithin parts [] = parts ≡ 0
IsWithin parts (c ∷ cs) = parts < parts_of c

-- a session without its next part
abbrev pub passed : ℕ × List Entry → ℕ × List Entry
passed p = (p.0, drop 1 p.1)

-- the same where it is this session
abbrev pub passed_of : ℕ → ℕ × List Entry → ℕ × List Entry
passed_of n p = cond (p.0 == n) (passed p) p

-- the entries of the setup
abbrev pub setup_entries : List Section → List Entry
setup_entries sections = flat_map section_entries (filter is_setup sections)

-- what is left of the sessions before any part is taken
abbrev pub begun : List Section → Left
begun sections = map (λ s. (s.session, section_entries s)) (filter (λ s. not (is_setup s)) sections)
