-- The names that a text lists, one piece between commas after another.
use Rattle.std.specs.Prelude.{◌≡◌, Bool, Err, List, None, Ok, Option, Result, Some, false, length, map, nat_lt, not, option_and_then, take_while, true, ℕ, ◌++◌, ◌==◌}
use Rattle.def_grammar.specs.Forms.{as_list, behind_comma, between_commas, max_names, name_in, names_in}
use Rattle.wh_base.specs.Lists.{all_there, where_true}
use Rattle.wh_query_text.specs.declared.parser.ParseFault.{ParseFault}
use Rattle.wh_query_text.specs.declared.parser.ParseFault.TheVariants as faults

abbrev pub is_space : ℕ → Bool
is_space b = b == 32

abbrev pub is_no_comma : ℕ → Bool
is_no_comma b = not (b == 44)

-- how many bytes are before the first comma; all where there is none
abbrev pub comma_place : List ℕ → ℕ
comma_place text = length (take_while is_no_comma text)

-- the names that a text behind a comma lists
abbrev pub names_behind : List ℕ → Option (List (List ℕ))
names_behind text = all_there (map name_in (behind_comma (between_commas text)))

-- these names and then those that were read, where they aren't too many to stand behind the first
abbrev pub with_names : List (List ℕ) → Option (List (List ℕ)) → Option (List (List ℕ))
with_names done read = option_and_then (λ names. where_true (nat_lt (length (done ++ names)) max_names) (done ++ names)) read

-- the first of the names that a text lists, and the names after it
abbrev pub list_in : List ℕ → Option (List ℕ × List (List ℕ))
list_in text = option_and_then as_list (names_in text)

-- the names with one more where the text is a name; want of memory says nothing
abbrev pub Pushes : Result Bool ParseFault → List (List ℕ) → Option (List (List ℕ)) → Type 0
Pushes (Ok true) names wanted = wanted ≡ Some names
Pushes (Ok false) names wanted = wanted ≡ None
Pushes (Err faults.Memory) names wanted = Unit {0}
Pushes (Err faults.Syntax) names wanted = ⊥
