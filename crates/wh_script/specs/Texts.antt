-- How the text of a script is read, statement by statement.
use Rattle.def_built.specs.Form.{draft_is_built}
use Rattle.def_grammar.specs.Forms.{tokens_or_none}
use Rattle.def_grammar.specs.Script as script
use Rattle.def_grammar.specs.Script.{Draft, Element, Stated, Unreadable, bad, line_at, read_from, text_elements, tokens_before, unclosed}
use Rattle.std.specs.List.{list_all}
use Rattle.std.specs.Prelude.{Bool, Err, List, None, Ok, Option, Result, Some, [], drop, false, map, nat_le, not, option_map, take, true, ℕ, ◌&&◌, ◌++◌, ◌∷◌, ◌≡◌, ◌≤◌}
use Rattle.wh_base.specs.Lists.{first_some, head, option_case}
use Rattle.wh_base.specs.declared.statements.ScriptKind.{ScriptKind}
use Rattle.wh_base.specs.declared.statements.ScriptKind.TheVariants.{NotUtf8}
use Rattle.wh_lex.specs.Lex.{ends_statement, tokens_at}
use Rattle.wh_lex.specs.declared.lex.LexFault.{LexFault}
use Rattle.wh_lex.specs.declared.lex.StatementTokens.{StatementTokens}
use Rattle.wh_base.specs.declared.tokens.Token.{Token}
use Rattle.wh_script.specs.declared.fault.ScriptFault.{ScriptFault}
use Rattle.wh_script.specs.declared.fault.ScriptFault.TheVariants as faults
use Rattle.wh_script.specs.declared.lines.LineMark.{LineMark}
use Rattle.wh_script.specs.declared.text.TextAt.{TextAt}

-- the element that a statement is; none where it has neither a token nor a semicolon
abbrev pub statement_elements : StatementTokens → List Element
statement_elements s = option_case s.closed (map Stated (unclosed s.tokens)) (λ t. Stated (record { tokens = s.tokens; closed = Some t }) ∷ [])

-- the place of a statement: its first token, or its semicolon where it has none
abbrev pub first_place : StatementTokens → Option ℕ
first_place s = option_map (λ t. t.start) (first_some (head s.tokens ∷ s.closed ∷ []))

-- what of a statement begins before a place, where its semicolon doesn't
abbrev pub cut : StatementTokens → ℕ → StatementTokens
cut s place = record { tokens = tokens_before place s.tokens; closed = None; next = s.next }

-- the element that a statement is, and a byte that can't be read
abbrev pub unreadable : StatementTokens → ScriptKind → ℕ → List Element
unreadable s kind place = statement_elements s ++ Unreadable kind place ∷ []

-- the elements from a place on of the text that ends at another, where the first `valid` bytes are UTF-8
abbrev pub elements_at : List ℕ → ℕ → ℕ → ℕ → List Element
elements_at bytes valid end at = text_elements valid at (drop at (take end bytes))

-- the byte that is no UTF-8 stands from one place on and no later than another
abbrev pub is_broken_by : ℕ → ℕ → ℕ → Bool
is_broken_by valid at place = nat_le at valid && nat_le valid place

-- these tokens up to a byte that can't be read, and that byte; or both of the byte that is no UTF-8, where that stands no later
abbrev pub stopped_elements : Bool → List Token → ℕ → ScriptKind → ℕ → List Element
stopped_elements true ts valid kind place = script.stated (tokens_before valid ts) ++ Unreadable NotUtf8 valid ∷ []
stopped_elements false ts valid kind place = script.stated ts ++ Unreadable kind place ∷ []

-- the elements from a place on up to a byte that can't be read
abbrev pub elements_up_to : List ℕ → ℕ → ScriptKind → ℕ → ℕ → List Element
elements_up_to bytes valid kind place at =
    stopped_elements (is_broken_by valid at place) (tokens_or_none (tokens_at (take place bytes) at)) valid kind place

-- there are tokens, and no semicolon
abbrev pub IsOpen : Result (List Token) LexFault → Type 0
IsOpen (Ok ts) = list_all (λ t. not (ends_statement t)) ts ≡ true
IsOpen (Err e) = ⊥

-- the mark of a place no later than this one
abbrev pub IsMark : List ℕ → ℕ → LineMark → Type 0
IsMark bytes at m = (m.line ≡ line_at bytes m.place) × (m.place ≤ at)

abbrev pub draft_of : Result TextAt ScriptFault → Result Draft ScriptFault
draft_of (Ok t) = Ok t.draft
draft_of (Err f) = Err f

-- a script that goes on with the text from one place on is read on from another draft with the text from another place on
abbrev pub IsReadOn : List ℕ → ℕ → ℕ → Draft → ℕ → Draft → ℕ → Type 0
IsReadOn bytes valid end d from e at =
    (tail : Bool) → (rest : List Element) → read_from draft_is_built bytes tail d (elements_at bytes valid end from ++ rest) ≡ read_from draft_is_built bytes tail e (elements_at bytes valid end at ++ rest)

-- the text is read on, or has this fault; want of memory says nothing
abbrev pub IsNext : List ℕ → ℕ → ℕ → TextAt → Result TextAt ScriptFault → Type 0
IsNext bytes valid end t (Ok u) = IsReadOn bytes valid end t.draft t.at u.draft u.at
IsNext bytes valid end t (Err (faults.Bad b)) = (tail : Bool) → (rest : List Element) → read_from draft_is_built bytes tail t.draft (elements_at bytes valid end t.at ++ rest) ≡ Err b
IsNext bytes valid end t (Err faults.Memory) = Unit {0}

-- what is behind a text up to a byte that can't be read, where this came of what stands before it
abbrev pub after_text : List ℕ → ScriptKind → ℕ → Result Draft ScriptFault → ScriptFault
after_text bytes kind place (Ok d) = faults.Bad (bad (line_at bytes place) kind)
after_text bytes kind place (Err f) = f
