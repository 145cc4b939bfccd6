-- What the program asks of the bytes that it reads as a script.
use Rattle.std.specs.Prelude.{Err, IsTrue, List, None, Ok, Option, Some, false, length, nat_lt, not, ℕ}
use Rattle.def_built.specs.Form.{built_script}
use Rattle.def_grammar.specs.Script.{Outcome}
use Rattle.def_output.specs.Output.{max_input}
use Rattle.wh_base.specs.declared.statements.Script.{Script}

-- the script that was read, where there is one
abbrev pub script_in : Outcome → Option Script
script_in (Ok p) = Some p.0
script_in (Err e) = None

-- the script that the bytes are, where they are one of forms that are built
abbrev pub script_built : List ℕ → Option Script
script_built bytes = script_in (built_script bytes false)

-- the bytes are more than may come
abbrev pub IsLong : List ℕ → Type 0
IsLong bytes = IsTrue (nat_lt max_input (length bytes))

-- they are no more than may come
abbrev pub IsShort : List ℕ → Type 0
IsShort bytes = IsTrue (not (nat_lt max_input (length bytes)))
