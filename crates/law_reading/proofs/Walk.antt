-- What each element of a script keeps holds of the sections of each script that is read.
use Rattle.std.proofs.Common.{◌≡◌, ◌+◌, ◌∷◌, ◌++◌, ◌≤◌, ℕ, List, [], length, refl, subst, Bool, true, false, cond, codes, map, not, nat_le, Option, None, Some, Result, Ok, Err}
use Rattle.std.proofs.lemmas.Bool.{and_parts, leb-true}
use Rattle.std.specs.List.{list_any}
use Rattle.std.specs.Prelude.{◌&&◌, decimal, flat_map, is_none, option_and_then, option_map, option_to_list}
use Rattle.wh_base.specs.Lists.{first_some, is_empty, last, option_case, same_text, unless, unless_then, where_true}
use Rattle.wh_base.specs.Values.{digits_number}
use Rattle.wh_base.specs.declared.statements.BadScript.{BadScript}
use Rattle.wh_base.specs.declared.statements.ChangeStatement.TheVariants.{Load}
use Rattle.wh_base.specs.declared.statements.Command.{Command}
use Rattle.wh_base.specs.declared.statements.Command.TheVariants as commands
use Rattle.wh_base.specs.declared.statements.Script.{Script}
use Rattle.wh_base.specs.declared.statements.ScriptKind.{ScriptKind}
use Rattle.wh_base.specs.declared.statements.ScriptKind.TheVariants.{LoadShape, Misplaced, NotBuilt, OpenLoad, SessionNumber, Syntax}
use Rattle.wh_base.specs.declared.statements.Section.{Section}
use Rattle.wh_base.specs.declared.statements.Statement.{Statement}
use Rattle.wh_base.specs.declared.statements.Statement.TheVariants as about
use Rattle.wh_base.specs.declared.tokens.Token.{Token}
use Rattle.def_grammar.specs.Forms.{statement_of, submit_of}
use Rattle.def_grammar.specs.Lines.{Directive, EndLoad, EndScript, LoadOf, Order, SessionAt, Setup, Unknown, WorkersAt}
use Rattle.def_grammar.specs.Script.{Directed, Draft, Drafted, Element, Ended, Loaded, OpenBlockAt, Stated, StatementTokens, Unreadable, after_fault, bad, begin_section, begin_session, block_bytes, command_by, elements_of, finish, first_draft, in_section, in_setup, is_dml, is_inner, is_later, is_never_inner, is_only_word, is_uneven, last_number, line_at, may_have_workers, may_load, open_fault, order_by, order_fault, read_from, records, script_where, sections_of, session_number, statement_place, take_closed, take_command, take_directive, take_inner, take_load, take_own, take_statement, where_built, with_command, with_inner, with_order, with_workers, word_fault, words_fault, worker_number}
use Rattle.law_trace.proofs.Outcomes.{EachOk, bind_ok, ok_holds, unless_ok, unless_then_ok}

cond-ok : {A E : Type 0} (P : A → Type 0) (b : Bool) (one other : Result A E) → (b ≡ true → EachOk P one) → EachOk P other → EachOk P (cond b one other)
cond-ok P true one other h k = h refl
cond-ok P false one other h k = k

option-ok : {A B E : Type 0} (P : B → Type 0) (o : Option A) (none : Result B E) (some : A → Result B E) → EachOk P none → ((x : A) → o ≡ Some x → EachOk P (some x)) → EachOk P (option_case o none some)
option-ok P None none some h k = h
option-ok P (Some x) none some h k = k x refl

-- ---- sections

-- the sections before and the one that goes on
abbrev pub so_far : List Section → Option Section → List Section
so_far before now = before ++ option_to_list now

-- a section that begins
abbrev pub opened : ℕ → Section
opened n = record { session = n; commands = [] }

-- the section with one command more
abbrev pub longer : Command → Section → Section
longer c s = record s { commands = s.commands ++ c ∷ [] }

-- the number of the last one
abbrev pub last_of : List Section → Option ℕ
last_of sections = option_map (λ s. s.session) (last sections)

-- all that a script does to its sections keeps P of those before and of the one that goes on: a command of which C holds, the
-- setup where there is none yet, a session of a later number, and what ends the sections
pub record Keeps (C : Command → Type 0) (P : List Section → Option Section → Type 0) : Type 0 where
  pub command : (before : List Section) (now : Option Section) (c : Command) → C c → P before now → P before (option_map (longer c) now)
  pub setup : (before : List Section) (now : Option Section) → is_empty (so_far before now) ≡ true → P before now → P (so_far before now) (Some (opened 0))
  pub session : (before : List Section) (now : Option Section) (n : ℕ) → n ≤ 64 → is_later (last_of (so_far before now)) n ≡ true → P before now → P (so_far before now) (Some (opened n))
  pub ends : (before : List Section) (now : Option Section) → P before now → P (so_far before now) None

number-within : (w : List ℕ) (n : ℕ) → session_number w ≡ Some n → n ≤ 64
number-within w n e = from (digits_number w) e
  where
    by : (m : ℕ) (b : Bool) → ((nat_le 1 m && nat_le m 64) && same_text (decimal m) w) ≡ b → where_true b m ≡ Some n → n ≤ 64
    by m true is found =
        let small : nat_le m 64 ≡ true = (and_parts (nat_le 1 m) (nat_le m 64) (and_parts (nat_le 1 m && nat_le m 64) (same_text (decimal m) w) is).0).1 in
        let same : m ≡ n = cc in
        subst (λ k. k ≤ 64) same (leb-true m 64 small)
    by m false is found = absurd (cc)

    from : (o : Option ℕ) → option_and_then (λ m. where_true ((nat_le 1 m && nat_le m 64) && same_text (decimal m) w) m) o ≡ Some n → n ≤ 64
    from None found = absurd (cc)
    from (Some m) found = by m _ refl found

-- C holds of each block, of each refresh that is submitted, and of each statement that tokens are
module _ (C : Command → Type 0) (P : List Section → Option Section → Type 0) (keeps : Keeps C P)
    (blocks : (statements : List Statement) → C (commands.Block (record { statements = statements })))
    (submits : (statement : Statement) → C (commands.Submit statement))
    (others : (tokens : List Token) (statement : Statement) → statement_of tokens ≡ Some statement → C (commands.Other statement)) where
  abbrev Kept : Draft → Type 0
  Kept d = P d.before d.now

  -- ---- statements

  by-statement : (ts : List Token) (s : Statement) → statement_of ts ≡ Some s → C (command_by s)
  by-statement ts s read = by (is_dml s)
    where
      by : (b : Bool) → C (cond b (commands.Block (record { statements = s ∷ [] })) (commands.Other s))
      by true = blocks (s ∷ [])
      by false = others ts s read

  take-own : (d : Draft) (line : ℕ) (ts : List Token) → Kept d → EachOk Kept (take_own d line ts)
  take-own d line ts h =
      cond-ok Kept (is_only_word (codes "BEGIN") ts) (Ok (record d { block = Some (record { line = line; statements = [] }) }))
      (option_case (statement_of ts) (Err (bad line Syntax)) (λ s. Ok (with_command d (command_by s)))) (λ begins. h)
      (option-ok Kept (statement_of ts) (Err (bad line Syntax)) (λ s. Ok (with_command d (command_by s))) tt (λ s read. keeps.command d.before d.now (command_by s) (by-statement ts s read) h))

  take-command : (d : Draft) (line : ℕ) (ts : List Token) → Kept d → EachOk Kept (take_command d line ts)
  take-command d line ts h =
      option-ok Kept (submit_of ts) (take_own d line ts) (λ s. cond (in_setup d) (Err (bad line Misplaced)) (Ok (with_command d (commands.Submit s)))) (take-own d line ts h) (λ s read.
      cond-ok Kept (in_setup d) (Err (bad line Misplaced)) (Ok (with_command d (commands.Submit s))) (λ setup. tt) (keeps.command d.before d.now (commands.Submit s) (submits s) h))

  take-inner : (d : Draft) (b : OpenBlockAt) (line : ℕ) (ts : List Token) → Kept d → EachOk Kept (take_inner d b line ts)
  take-inner d b line ts h =
      let commit : Drafted = Ok (with_command (record d { block = None }) (commands.Block (record { statements = b.statements }))) in
      let inner : Drafted = option_case (statement_of ts) (Err (bad line Syntax)) (with_inner d b line) in
      cond-ok Kept (is_only_word (codes "COMMIT") ts) commit (cond (is_never_inner ts) (Err (bad line Misplaced)) inner)
      (λ commits. keeps.command d.before d.now (commands.Block (record { statements = b.statements })) (blocks b.statements) h)
      (cond-ok Kept (is_never_inner ts) (Err (bad line Misplaced)) inner (λ never. tt)
      (option-ok Kept (statement_of ts) (Err (bad line Syntax)) (with_inner d b line) tt (λ s read.
      cond-ok Kept (is_inner s) (Ok (record d { block = Some (record b { statements = b.statements ++ s ∷ [] }) })) (Err (bad line Misplaced)) (λ may. h) tt)))

  take-closed : (d : Draft) (line : ℕ) (ts : List Token) → Kept d → EachOk Kept (take_closed d line ts)
  take-closed d line ts h = option-ok Kept d.block (take_command d line ts) (λ b. take_inner d b line ts) (take-command d line ts h) (λ b open_block. take-inner d b line ts h)

  take-statement : (d : Draft) (line : ℕ) (p : StatementTokens) → Kept d → EachOk Kept (take_statement d line p)
  take-statement d line p h =
      let later : Drafted = cond (is_none p.closed) (Ok (record d { open_at = Some line })) (take_closed d line p.tokens) in
      cond-ok Kept (not (in_section d)) (Err (bad line Misplaced)) later (λ outside. tt)
      (cond-ok Kept (is_none p.closed) (Ok (record d { open_at = Some line })) (take_closed d line p.tokens) (λ stays. h) (take-closed d line p.tokens h))

  -- ---- directives and LOAD blocks

  begin-session : (d : Draft) (line : ℕ) (wrong : ScriptKind) (o : Option ℕ) → ((n : ℕ) → o ≡ Some n → n ≤ 64) → Kept d → EachOk Kept (begin_session d line wrong o)
  begin-session d line wrong None small h = tt
  begin-session d line wrong (Some n) small h = cond-ok Kept (is_later (last_number d) n) (Ok (begin_section d n)) (Err (bad line SessionNumber)) (λ later. keeps.session d.before d.now n (small n refl) later h) tt

  by-order : (d : Draft) (line : ℕ) (wrong : ScriptKind) (ws : List (Option ℕ)) → Kept d → EachOk Kept (order_by d line wrong ws)
  by-order d line wrong ws h =
      let ns : List ℕ = flat_map option_to_list ws in
      cond-ok Kept (list_any is_none ws) (Err (bad line wrong)) (unless (order_fault (sections_of d) line ns) (with_order d ns)) (λ not_numbers. tt)
      (unless_ok Kept (order_fault (sections_of d) line ns) (with_order d ns) (λ none. keeps.ends d.before d.now h))

  by-workers : (d : Draft) (line : ℕ) (wrong : ScriptKind) (o : Option ℕ) → Kept d → EachOk Kept (with_workers d line wrong o)
  by-workers d line wrong None h = tt
  by-workers d line wrong (Some n) h = keeps.ends d.before d.now h

  take-directive : (d : Draft) (line : ℕ) (t : Directive) → Kept d → EachOk Kept (take_directive d line t)
  take-directive d line Setup h =
      cond-ok Kept (is_empty (sections_of d) && (is_none d.order && is_none d.workers)) (Ok (begin_section d 0)) (Err (bad line Misplaced))
      (λ first. keeps.setup d.before d.now (and_parts (is_empty (sections_of d)) (is_none d.order && is_none d.workers) first).0 h) tt
  take-directive d line (SessionAt w) h =
      cond-ok Kept (is_none d.order) (unless_then (open_fault d) (begin_session d line (word_fault w) (session_number w))) (Err (bad line Misplaced))
      (λ before. unless_then_ok Kept (open_fault d) (begin_session d line (word_fault w) (session_number w)) (λ none. begin-session d line (word_fault w) (session_number w) (number-within w) h)) tt
  take-directive d line (Order ws) h =
      cond-ok Kept (is_none d.order) (unless_then (open_fault d) (order_by d line (words_fault ws) (map session_number ws))) (Err (bad line Misplaced))
      (λ once. unless_then_ok Kept (open_fault d) (order_by d line (words_fault ws) (map session_number ws)) (λ none. by-order d line (words_fault ws) (map session_number ws) h)) tt
  take-directive d line (LoadOf n) h = tt
  take-directive d line EndLoad h = tt
  take-directive d line EndScript h = tt
  take-directive d line Unknown h = tt
  take-directive d line (WorkersAt w) h =
      cond-ok Kept (may_have_workers d) (unless_then (open_fault d) (with_workers d line (word_fault w) (worker_number w))) (Err (bad line Misplaced))
      (λ may. unless_then_ok Kept (open_fault d) (with_workers d line (word_fault w) (worker_number w)) (λ none. by-workers d line (word_fault w) (worker_number w) h)) tt

  take-load : (d : Draft) (line : ℕ) (n block : List ℕ) (closed : Bool) → Kept d → EachOk Kept (take_load d line n block closed)
  take-load d line n block closed h =
      let rows : List (List (List ℕ)) = records block in
      let load : Statement = about.Change (Load (record { table = n; rows = rows })) in
      let made : Command = commands.Block (record { statements = load ∷ [] }) in
      let fault : Option BadScript = first_some (where_true (not (may_load d)) (bad line Misplaced) ∷ where_true (not closed) (bad line OpenLoad) ∷ where_true (is_uneven rows) (bad line LoadShape) ∷ []) in
      unless_ok Kept fault (with_command d made) (λ none. keeps.command d.before d.now made (blocks (load ∷ [])) h)

  -- ---- the whole

  built-kept : (is_built : Draft → Bool) (line : ℕ) (r : Drafted) → EachOk Kept r → EachOk Kept (where_built is_built line r)
  built-kept is_built line (Ok d) h = cond-ok Kept (is_built d) (Ok d) (Err (bad line NotBuilt)) (λ built. h) tt
  built-kept is_built line (Err e) h = tt

  -- P of the sections of a script, with the place behind its end
  abbrev Held : Script × ℕ → Type 0
  Held p = P p.0.sections None

  read-elements : (is_built : Draft → Bool) (bytes : List ℕ) (tail : Bool) (d : Draft) (es : List Element) → Kept d → EachOk Held (read_from is_built bytes tail d es)
  read-elements is_built bytes tail d [] h = tt
  read-elements is_built bytes tail d (Unreadable kind place ∷ rest) h = tt
  read-elements is_built bytes tail d (Ended l ls ∷ rest) h =
      let place : ℕ = l.place + length l.raw in
      unless_ok Held (first_some (open_fault d ∷ cond tail None (after_fault bytes place (block_bytes ls)) ∷ [])) (finish d place) (λ none. keeps.ends d.before d.now h)
  read-elements is_built bytes tail d (Stated p ∷ rest) h =
      let line : ℕ = line_at bytes (statement_place p) in
      let taken : Drafted = where_built is_built line (take_statement d line p) in
      bind_ok Held taken (λ e. read_from is_built bytes tail e rest) (λ e same.
      read-elements is_built bytes tail e rest (ok_holds Kept taken e (built-kept is_built line (take_statement d line p) (take-statement d line p h)) same))
  read-elements is_built bytes tail d (Directed l t ∷ rest) h =
      let taken : Drafted = where_built is_built l.number (take_directive d l.number t) in
      bind_ok Held taken (λ e. read_from is_built bytes tail e rest) (λ e same.
      read-elements is_built bytes tail e rest (ok_holds Kept taken e (built-kept is_built l.number (take_directive d l.number t) (take-directive d l.number t h)) same))
  read-elements is_built bytes tail d (Loaded l n ls closed ∷ rest) h =
      let taken : Drafted = where_built is_built l.number (take_load d l.number n (block_bytes ls) closed) in
      bind_ok Held taken (λ e. read_from is_built bytes tail e rest) (λ e same.
      read-elements is_built bytes tail e rest (ok_holds Kept taken e (built-kept is_built l.number (take_load d l.number n (block_bytes ls) closed) (take-load d l.number n (block_bytes ls) closed h)) same))

  pub script-holds : P [] None → (is_built : Draft → Bool) (bytes : List ℕ) (tail : Bool) (script : Script) (place : ℕ)
      → script_where is_built bytes tail ≡ Ok (script, place) → P script.sections None
  script-holds nothing is_built bytes tail script place e =
      ok_holds Held (script_where is_built bytes tail) (script, place) (read-elements is_built bytes tail first_draft (elements_of bytes) nothing) e
