-- How the code takes the steps of a script's reading, beside the steps' own definitions.
use Rattle.std.specs.List.{list_all, list_any}
use Rattle.std.specs.Prelude.{Bool, Err, List, Ok, Option, Result, [], cond, flat_map, is_none, map, not, option_map, option_to_list, ℕ, ◌&&◌, ◌++◌, ◌==◌, ◌∷◌}
use Rattle.def_grammar.specs.Script as script
use Rattle.def_grammar.specs.Script.{Draft, bad, is_too_long, session_number, words_fault}
use Rattle.wh_base.specs.Lists.{is_empty, last}
use Rattle.wh_base.specs.declared.statements.BadScript.{BadScript}
use Rattle.wh_base.specs.declared.statements.Command.{Command}
use Rattle.wh_base.specs.declared.statements.Section.{Section}
use Rattle.wh_lex.specs.declared.lex.StatementTokens.{StatementTokens}

-- the statement that was lexed
abbrev pub stated : StatementTokens → script.StatementTokens
stated s = record { tokens = s.tokens; closed = s.closed }

-- a section with one command more
abbrev pub one_more : Command → Section → Section
one_more c s = record s { commands = s.commands ++ c ∷ [] }

-- ---- `@order`

-- the session numbers that these words are behind those read before, or the fault on this line where a word is no session number
abbrev pub numbers_behind : ℕ → List ℕ → List (List ℕ) → Result (List ℕ) BadScript
numbers_behind line done ws =
    cond (list_any is_none (map session_number ws)) (Err (bad line (words_fault ws)))
    (Ok (done ++ flat_map option_to_list (map session_number ws)))

-- ---- sections

-- no section, no order and no workers were read
abbrev pub is_first : Draft → Bool
is_first d = is_empty (script.sections_of d) && (is_none d.order && is_none d.workers)

-- each is the setup
abbrev pub are_setups : List Section → Bool
are_setups sections = list_all (λ s. s.session == 0) sections

abbrev pub last_session : List Section → Option ℕ
last_session sections = option_map (λ s. s.session) (last sections)

-- a session, and no setup, that is named more often than it has parts
abbrev pub is_named_too_often : List Section → List ℕ → Section → Bool
is_named_too_often sections ns s = not (s.session == 0) && is_too_long sections ns s.session
