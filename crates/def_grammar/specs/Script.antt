-- A script, or its first fault by place. Its elements are taken one after another, so that the first one that is wrong
-- where it stands is the fault.
use Rattle.csv.specs.Machine.{next_record}
use Rattle.csv.specs.Reading.{default_config, strip_bom}
use Rattle.csv.specs.declared.parser.State.{State}
use Rattle.std.specs.List.{list_all, list_any}
use Rattle.std.specs.Prelude.{Bool, Err, List, None, Ok, Option, Result, Some, [], codes, cond, count_by, decimal, false, find, flat_map, is_none, is_some, length, map, max, nat_le, nat_lt, not, option_and_then, option_map, option_to_list, suc, sum_by, take, take_while, true, unwrap_or, zero, ℕ, ◌&&◌, ◌++◌, ◌+◌, ◌-◌, ◌==◌, ◌||◌, ◌∷◌}
use Rattle.std.specs.Str.Lossy.{utf8_valid_len}
use Rattle.wh_base.specs.Lists.{first_some, head, is_empty, last, option_case, same_text, unless, unless_then, where_true}
use Rattle.wh_base.specs.Parts.{section_entries}
use Rattle.wh_base.specs.Values.{digits_number}
use Rattle.wh_base.specs.declared.statements.BadScript.{BadScript}
use Rattle.wh_base.specs.declared.statements.Command.{Command}
use Rattle.wh_base.specs.declared.statements.Script.{Script}
use Rattle.wh_base.specs.declared.statements.ScriptKind.{ScriptKind}
use Rattle.wh_base.specs.declared.statements.ScriptKind.TheVariants.{AfterEnd, BadCharacter, LoadShape, Misplaced, NoEnd, NotBuilt, NotUtf8, OpenBlock, OpenLoad, OpenQuote, OpenStatement, OrderTooLong, OrderUnknown, SessionNumber, Syntax, UnknownDirective}
use Rattle.wh_base.specs.declared.statements.Section.{Section}
use Rattle.wh_base.specs.declared.statements.Statement.{Statement}
use Rattle.wh_base.specs.declared.statements.Statement.TheVariants.{Select}
use Rattle.wh_base.specs.declared.statements.ChangeStatement.TheVariants.{Delete, Insert, Load, Update}
use Rattle.wh_base.specs.declared.statements.Statement.TheVariants as about
use Rattle.def_grammar.specs.Forms.{kind, statement_of, submit_of, tokens_or_none}
use Rattle.def_grammar.specs.Lines.{Directive, DirectiveAt, EndAt, EndLoad, EndScript, Line, LoadBlock, LoadOf, Order, Piece, SessionAt, Setup, TextRun, Unknown, WorkersAt, lines_of, pieces}
use Rattle.def_grammar.specs.Reading.{is_token, whole, word}
use Rattle.wh_lex.specs.Lex.{tokens_from}
use Rattle.wh_lex.specs.declared.lex.LexFault.{LexFault}
use Rattle.wh_base.specs.declared.tokens.Token.{Token}
use Rattle.wh_base.specs.Lists.{◌>>=◌}  --
use Rattle.wh_base.specs.declared.tokens.TokenKind.TheVariants as kinds
use Rattle.wh_lex.specs.declared.lex.LexFault.TheVariants as faults
use Rattle.wh_base.specs.declared.statements.Command.TheVariants as commands
use Rattle.csv.specs.declared.parser.State.TheVariants as state

-- ---- statements between semicolons

-- the tokens of a statement, and the semicolon that closes it; None where it isn't closed
pub record StatementTokens : Type 0 where
  pub tokens : List Token
  pub closed : Option Token

abbrev pub is_semicolon : Token → Bool
is_semicolon t = is_token kinds.Mark (codes ";") t

-- what is left after the last semicolon, where something is
abbrev pub unclosed : List Token → List StatementTokens
unclosed [] = []
unclosed (t ∷ ts) = record { tokens = t ∷ ts; closed = None } ∷ []

-- the statements of these tokens, where those of the first one began with `done`
abbrev pub split_statements : List Token → List Token → List StatementTokens
split_statements done [] = unclosed done
split_statements done (t ∷ ts) =
    cond (is_semicolon t) (record { tokens = done; closed = Some t } ∷ split_statements [] ts) (split_statements (done ++ t ∷ []) ts)

-- ---- the elements of a script, in order, up to the first byte that is no text or begins no token

-- an element: a statement; a directive; a LOAD block with its line, name, lines and whether it is closed; the end with the
-- lines after it; a byte that can't be read, with what is wrong and its place
pub data Element : Type 0 where
  Stated : StatementTokens → Element
  Directed : Line → Directive → Element
  Loaded : Line → List ℕ → List Line → Bool → Element
  Ended : Line → List Line → Element
  Unreadable : ScriptKind → ℕ → Element

abbrev pub stated : List Token → List Element
stated ts = map Stated (split_statements [] ts)

abbrev pub fault_element : LexFault → List Element
fault_element (faults.BadCharacter p) = Unreadable BadCharacter p ∷ []
fault_element (faults.OpenQuote p) = Unreadable OpenQuote p ∷ []
fault_element faults.Memory = []

abbrev pub fault_place : LexFault → ℕ
fault_place (faults.BadCharacter p) = p
fault_place (faults.OpenQuote p) = p
fault_place faults.Memory = 0

-- the statements of a text at this place by its tokens, or up to its first fault and then the fault
abbrev pub elements_by : ℕ → List ℕ → Result (List Token) LexFault → List Element
elements_by place bytes (Ok ts) = stated ts
elements_by place bytes (Err e) = stated (tokens_or_none (tokens_from 0 place (take (fault_place e - place) bytes))) ++ fault_element e

-- the tokens that begin before this place
abbrev pub tokens_before : ℕ → List Token → List Token
tokens_before place ts = take_while (λ t. nat_lt t.start place) ts

-- the same of a text that has a byte that is no UTF-8 at `broken`. Tokens are read by bytes, so a quote behind that byte closes a
-- text before it; a fault before that byte goes first, and any other is told as NotUtf8 there
abbrev pub broken_elements_by : ℕ → List ℕ → ℕ → Result (List Token) LexFault → List Element
broken_elements_by place bytes broken (Ok ts) = stated (tokens_before broken ts) ++ Unreadable NotUtf8 broken ∷ []
broken_elements_by place bytes broken (Err e) =
    cond (nat_lt (fault_place e) broken) (elements_by place bytes (Err e))
    (stated (tokens_before broken (tokens_or_none (tokens_from 0 place (take (fault_place e - place) bytes)))) ++ Unreadable NotUtf8 broken ∷ [])

-- a piece of this place and size has the byte behind the valid front of the input
abbrev pub is_broken_in : ℕ → ℕ → ℕ → Bool
is_broken_in valid place size = nat_le place valid && nat_lt valid (place + size)

abbrev pub text_elements : ℕ → ℕ → List ℕ → List Element
text_elements valid place bytes =
    let read : Result (List Token) LexFault = tokens_from 0 place bytes in
    cond (is_broken_in valid place (length bytes)) (broken_elements_by place bytes valid read) (elements_by place bytes read)

-- NotUtf8 at the place behind the valid front of the input, where a piece of this place and size has that byte
abbrev pub broken_within : ℕ → ℕ → ℕ → List Element
broken_within valid place size = cond (is_broken_in valid place size) (Unreadable NotUtf8 valid ∷ []) []

abbrev pub size_of : List Line → ℕ
size_of ls = sum_by (λ l. length l.raw) ls

-- the elements of a piece, where the first `valid` bytes of the input are UTF-8. What stands before such a byte goes first
abbrev pub piece_elements : ℕ → Piece → List Element
piece_elements valid (TextRun place bytes) = text_elements valid place bytes
piece_elements valid (DirectiveAt l d) = Directed l d ∷ broken_within valid l.place (length l.raw)
piece_elements valid (LoadBlock l n ls closed) = Loaded l n ls closed ∷ broken_within valid l.place (length l.raw + size_of ls)
piece_elements valid (EndAt l ls) = Ended l ls ∷ []

abbrev pub elements_of : List ℕ → List Element
elements_of bytes = flat_map (piece_elements (utf8_valid_len bytes)) (pieces bytes)

-- ---- lines of places

-- the number of the line on which this place is
abbrev pub line_at : List ℕ → ℕ → ℕ
line_at bytes place = suc (count_by (λ b. b == 10) (take place bytes))

abbrev pub bad : ℕ → ScriptKind → BadScript
bad line kind = record { line = line; kind = kind }

-- ---- LOAD

-- at most n records, from this state of the reader on
abbrev pub records_from : ℕ → State → List ℕ → List (List (List ℕ))
records_from zero s bytes = []
records_from (suc n) s bytes = option_case (next_record default_config s [] [] bytes) [] (λ r. r.0 ∷ records_from n r.1 r.2)

-- the records of a block, as `csv` reads them with its default settings and no header row
abbrev pub records : List ℕ → List (List (List ℕ))
records bytes = records_from (suc (length bytes)) state.StartRecord (strip_bom bytes)

-- a record has another number of fields than the first
abbrev pub is_uneven : List (List (List ℕ)) → Bool
is_uneven [] = false
is_uneven (r ∷ rs) = list_any (λ s. not (length s == length r)) rs

abbrev pub block_bytes : List Line → List ℕ
block_bytes ls = flat_map (λ l. l.raw) ls

-- ---- how far a script has been read

-- a block that is open: the line of its BEGIN and its statements so far
pub record OpenBlockAt : Type 0 where
  pub line : ℕ
  pub statements : List Statement

-- how far a script has been read: the sections before, the section that goes on, its open block, the line of a statement that
-- isn't closed, what `@order` named where it stood, and the number that `@workers` had where it stood
pub record Draft : Type 0 where
  pub before : List Section
  pub now : Option Section
  pub block : Option OpenBlockAt
  pub open_at : Option ℕ
  pub order : Option (List ℕ)
  pub workers : Option ℕ

-- nothing read
abbrev pub first_draft : Draft
first_draft = record { before = []; now = None; block = None; open_at = None; order = None; workers = None }

abbrev pub sections_of : Draft → List Section
sections_of d = d.before ++ option_to_list d.now

-- one command more in the section
abbrev pub with_command : Draft → Command → Draft
with_command d c = let add : (Section → Section) = λ s. record s { commands = s.commands ++ c ∷ [] } in record d { now = option_map add d.now }

-- a section goes on
abbrev pub in_section : Draft → Bool
in_section d = is_some d.now

-- ---- statements

abbrev pub is_dml : Statement → Bool
is_dml (about.Change (Insert s)) = true
is_dml (about.Change (Update s)) = true
is_dml (about.Change (Delete s)) = true
is_dml s = false

-- the statement may stand in a block
abbrev pub is_inner : Statement → Bool
is_inner (Select a) = true
is_inner s = is_dml s

-- an INSERT, UPDATE or DELETE by itself is a block of one statement
abbrev pub command_by : Statement → Command
command_by s = cond (is_dml s) (commands.Block (record { statements = s ∷ [] })) (commands.Other s)

-- the tokens are this keyword alone
abbrev pub is_only_word : List ℕ → List Token → Bool
is_only_word w ts = is_some (whole (word w) ts)

-- what an element makes of the script so far, or its fault
abbrev pub Drafted : Type 0
Drafted = Result Draft BadScript

-- a closed statement outside blocks that submits nothing: BEGIN opens a block, what isn't in the grammar is Syntax
abbrev pub take_own : Draft → ℕ → List Token → Drafted
take_own d line ts =
    cond (is_only_word (codes "BEGIN") ts) (Ok (record d { block = Some (record { line = line; statements = [] }) }))
    (option_case (statement_of ts) (Err (bad line Syntax)) (λ s. Ok (with_command d (command_by s))))

-- the section that goes on is the setup
abbrev pub in_setup : Draft → Bool
in_setup d = option_case d.now false (λ s. s.session == 0)

-- a closed statement outside blocks. SUBMIT is Misplaced in the setup
abbrev pub take_command : Draft → ℕ → List Token → Drafted
take_command d line ts =
    option_case (submit_of ts) (take_own d line ts) (λ s. cond (in_setup d) (Err (bad line Misplaced)) (Ok (with_command d (commands.Submit s))))

-- one statement more in the block, or Misplaced for a statement that may not stand there
abbrev pub with_inner : Draft → OpenBlockAt → ℕ → Statement → Drafted
with_inner d b line s = cond (is_inner s) (Ok (record d { block = Some (record b { statements = b.statements ++ s ∷ [] }) })) (Err (bad line Misplaced))

-- BEGIN and SUBMIT are in the grammar and stand in no block
abbrev pub is_never_inner : List Token → Bool
is_never_inner ts = is_only_word (codes "BEGIN") ts || is_some (submit_of ts)

-- a closed statement in a block: COMMIT closes it, BEGIN and SUBMIT are Misplaced, what isn't in the grammar is Syntax
abbrev pub take_inner : Draft → OpenBlockAt → ℕ → List Token → Drafted
take_inner d b line ts =
    cond (is_only_word (codes "COMMIT") ts) (Ok (with_command (record d { block = None }) (commands.Block (record { statements = b.statements }))))
    (cond (is_never_inner ts) (Err (bad line Misplaced)) (option_case (statement_of ts) (Err (bad line Syntax)) (with_inner d b line)))

abbrev pub take_closed : Draft → ℕ → List Token → Drafted
take_closed d line ts = option_case d.block (take_command d line ts) (λ b. take_inner d b line ts)

-- the place of a statement: its first token, or its semicolon where it has none
abbrev pub statement_place : StatementTokens → ℕ
statement_place p = option_case (first_some (head p.tokens ∷ p.closed ∷ [])) 0 (λ t. t.start)

-- a statement on this line: Misplaced outside every section, whatever it is; one that isn't closed stays open until its
-- section ends
abbrev pub take_statement : Draft → ℕ → StatementTokens → Drafted
take_statement d line p =
    cond (not (in_section d)) (Err (bad line Misplaced))
    (cond (is_none p.closed) (Ok (record d { open_at = Some line })) (take_closed d line p.tokens))

-- ---- where a section ends

-- the fault where a section ends while a statement is open, and then while a block is
abbrev pub open_fault : Draft → Option BadScript
open_fault d = first_some (option_map (λ l. bad l OpenStatement) d.open_at ∷ option_map (λ b. bad b.line OpenBlock) d.block ∷ [])

-- ---- directives

-- the session number that a word is: 1 to 64 in decimal, without a sign or a leading zero
abbrev pub session_number : List ℕ → Option ℕ
session_number w = option_and_then (λ n. where_true ((nat_le 1 n && nat_le n 64) && same_text (decimal n) w) n) (digits_number w)

-- the number of workers that a word is: in the same form, 1 to 8
abbrev pub worker_number : List ℕ → Option ℕ
worker_number w = option_and_then (λ n. where_true (nat_le n 8) n) (session_number w)

-- the number of the last section so far; the setup's is 0
abbrev pub last_number : Draft → Option ℕ
last_number d = option_map (λ s. s.session) (last (sections_of d))

-- the number is above the last one
abbrev pub is_later : Option ℕ → ℕ → Bool
is_later None n = true
is_later (Some m) n = nat_lt m n

-- a new section of this number
abbrev pub begin_section : Draft → ℕ → Draft
begin_section d n =
    record { before = sections_of d; now = Some (record { session = n; commands = [] }); block = None; open_at = None; order = None; workers = d.workers }

-- what is wrong with a word that is no session number, or no number of workers: NotUtf8 where it begins with a byte that is none, which has the same
-- place and goes first
abbrev pub word_fault : List ℕ → ScriptKind
word_fault w = cond (utf8_valid_len w == 0) NotUtf8 SessionNumber

-- `@session`: a word that is no session number, told by this kind, or SessionNumber for one that isn't above the last
abbrev pub begin_session : Draft → ℕ → ScriptKind → Option ℕ → Drafted
begin_session d line wrong None = Err (bad line wrong)
begin_session d line wrong (Some n) = cond (is_later (last_number d) n) (Ok (begin_section d n)) (Err (bad line SessionNumber))

-- the section is that of this session; the setup is no session
abbrev pub is_section_of : ℕ → Section → Bool
is_section_of n s = (s.session == n) && not (n == 0)

-- `@workers` ends the setup, and may stand once, behind the setup or where it would be
abbrev pub may_have_workers : Draft → Bool
may_have_workers d = is_none d.workers && (is_none d.order && list_all (λ s. s.session == 0) (sections_of d))

-- `@workers`: a word that is no number of workers, told by this kind
abbrev pub with_workers : Draft → ℕ → ScriptKind → Option ℕ → Drafted
with_workers d line wrong None = Err (bad line wrong)
with_workers d line wrong (Some n) = Ok (record { before = sections_of d; now = None; block = None; open_at = None; order = None; workers = Some n })

-- how many parts a session has
abbrev pub parts_in : List Section → ℕ → ℕ
parts_in sections n = option_case (find (is_section_of n) sections) 0 (λ s. length (section_entries s))

abbrev pub is_unknown : List Section → ℕ → Bool
is_unknown sections n = not (list_any (is_section_of n) sections)

-- the order names the session more often than it has parts
abbrev pub is_too_long : List Section → List ℕ → ℕ → Bool
is_too_long sections ns n = nat_lt (parts_in sections n) (count_by (λ m. m == n) ns)

-- OrderUnknown for a session that isn't there, then OrderTooLong for one that is named more often than it has parts
abbrev pub order_fault : List Section → ℕ → List ℕ → Option BadScript
order_fault sections line ns =
    first_some (
    where_true (list_any (is_unknown sections) ns) (bad line OrderUnknown)
    ∷ where_true (list_any (is_too_long sections ns) ns) (bad line OrderTooLong)
    ∷ [])

-- after `@order` no section goes on
abbrev pub with_order : Draft → List ℕ → Draft
with_order d ns = record { before = sections_of d; now = None; block = None; open_at = None; order = Some ns; workers = d.workers }

-- what is wrong with the first of these words that is no session number
abbrev pub words_fault : List (List ℕ) → ScriptKind
words_fault ws = option_case (find (λ w. is_none (session_number w)) ws) SessionNumber word_fault

-- `@order`: a word that is no session number, told by this kind, and only then the faults of the order
abbrev pub order_by : Draft → ℕ → ScriptKind → List (Option ℕ) → Drafted
order_by d line wrong ws =
    cond (list_any is_none ws) (Err (bad line wrong))
    (let ns = flat_map option_to_list ws in unless (order_fault (sections_of d) line ns) (with_order d ns))

-- a directive: Misplaced where it may not stand, UnknownDirective where it isn't in the grammar. Both go before what is open
-- there, and that before the faults of its words. `@setup` stands first, `@workers` before the sessions, `@session` before
-- `@order`, `@order` once
abbrev pub take_directive : Draft → ℕ → Directive → Drafted
take_directive d line Setup =
    cond (is_empty (sections_of d) && (is_none d.order && is_none d.workers)) (Ok (begin_section d 0)) (Err (bad line Misplaced))
take_directive d line (SessionAt w) = cond (is_none d.order) (unless_then (open_fault d) (begin_session d line (word_fault w) (session_number w))) (Err (bad line Misplaced))
take_directive d line (Order ws) = cond (is_none d.order) (unless_then (open_fault d) (order_by d line (words_fault ws) (map session_number ws))) (Err (bad line Misplaced))
take_directive d line (LoadOf n) = Err (bad line Misplaced)
take_directive d line EndLoad = Err (bad line Misplaced)
take_directive d line EndScript = Err (bad line Misplaced)
take_directive d line Unknown = Err (bad line UnknownDirective)
take_directive d line (WorkersAt w) = cond (may_have_workers d) (unless_then (open_fault d) (with_workers d line (word_fault w) (worker_number w))) (Err (bad line Misplaced))

-- ---- LOAD blocks

-- a LOAD block may stand in a section, outside blocks and statements
abbrev pub may_load : Draft → Bool
may_load d = in_section d && (is_none d.block && is_none d.open_at)

-- a LOAD block of these bytes, whose `@load` is on this line: Misplaced, then OpenLoad, then LoadShape
abbrev pub take_load : Draft → ℕ → List ℕ → List ℕ → Bool → Drafted
take_load d line n block closed =
    let rows = records block in
    unless (first_some (
    where_true (not (may_load d)) (bad line Misplaced)
    ∷ where_true (not closed) (bad line OpenLoad)
    ∷ where_true (is_uneven rows) (bad line LoadShape)
    ∷ []))
    (with_command d (commands.Block (record { statements = about.Change (Load (record { table = n; rows = rows })) ∷ [] })))

-- ---- the end

abbrev pub is_white : ℕ → Bool
is_white b = (b == 32) || ((b == 9) || (b == 10))

-- the place of the first byte that isn't white space; a CR counts as white space before an LF alone
abbrev pub first_black : ℕ → List ℕ → Option ℕ
first_black place [] = None
first_black place (b ∷ []) = where_true (not (is_white b)) place
first_black place (b ∷ c ∷ bs) = cond (is_white b || ((b == 13) && (c == 10))) (first_black (suc place) (c ∷ bs)) (Some place)

-- the fault of the bytes behind the end, which stand at this place: AfterEnd for the first that isn't white space, or NotUtf8
-- where it is no UTF-8
abbrev pub after_fault : List ℕ → ℕ → List ℕ → Option BadScript
after_fault bytes place behind =
    let valid = utf8_valid_len bytes in
    option_map (λ p. cond (nat_lt p valid) (bad (line_at bytes p) AfterEnd) (bad (line_at bytes valid) NotUtf8)) (first_black place behind)

-- the script that was read, and the place behind the line of its end
abbrev pub finish : Draft → ℕ → Script × ℕ
finish d place = (record { sections = sections_of d; order = unwrap_or d.order []; workers = unwrap_or d.workers 0 }, place)

-- a script and the place behind its end, or the fault
abbrev pub Outcome : Type 0
Outcome = Result (Script × ℕ) BadScript

-- the end, behind whose line these bytes stand at this place: what is open there is the fault, then what follows; with a tail
-- any bytes may follow
abbrev pub ending : List ℕ → Bool → Draft → ℕ → List ℕ → Outcome
ending bytes tail d place behind =
    unless (first_some (open_fault d ∷ cond tail None (after_fault bytes place behind) ∷ [])) (finish d place)

-- no `@end`: what is open is the fault, else NoEnd on the last line that has a byte, and on line 1 for no bytes
abbrev pub no_end : List ℕ → Draft → Outcome
no_end bytes d = Err (unwrap_or (open_fault d) (bad (max 1 (length (lines_of bytes))) NoEnd))

-- ---- the whole

-- what was taken on this line, where all that was read is built. NotBuilt stands behind every other fault of its place
abbrev pub where_built : (Draft → Bool) → ℕ → Drafted → Drafted
where_built is_built line drafted = drafted >>= (λ d. cond (is_built d) (Ok d) (Err (bad line NotBuilt)))

-- the elements one after another, where a draft has to be built
abbrev pub read_from : (Draft → Bool) → List ℕ → Bool → Draft → List Element → Outcome
read_from is_built bytes tail d [] = no_end bytes d
read_from is_built bytes tail d (Unreadable kind place ∷ rest) = Err (bad (line_at bytes place) kind)
read_from is_built bytes tail d (Ended l ls ∷ rest) = ending bytes tail d (l.place + length l.raw) (block_bytes ls)
read_from is_built bytes tail d (Stated p ∷ rest) =
    let line = line_at bytes (statement_place p) in
    where_built is_built line (take_statement d line p) >>= (λ e. read_from is_built bytes tail e rest)
read_from is_built bytes tail d (Directed l t ∷ rest) =
    where_built is_built l.number (take_directive d l.number t) >>= (λ e. read_from is_built bytes tail e rest)
read_from is_built bytes tail d (Loaded l n ls closed ∷ rest) =
    where_built is_built l.number (take_load d l.number n (block_bytes ls) closed) >>= (λ e. read_from is_built bytes tail e rest)

-- the script that the bytes are, with the place behind its end, or their first fault, where each draft has to be built. With a
-- tail any bytes may follow the end
abbrev pub script_where : (Draft → Bool) → List ℕ → Bool → Outcome
script_where is_built bytes tail = read_from is_built bytes tail first_draft (elements_of bytes)

-- the same by the whole grammar
abbrev pub script_of : List ℕ → Bool → Outcome
script_of = script_where (λ d. true)
