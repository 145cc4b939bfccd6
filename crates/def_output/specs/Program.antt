-- The words in which the program's call says what it does: of a form over an input what it runs, what it writes and what it reads, and
-- how the counters of rows read rise.
use Rattle.std.specs.List.{enumerate_from}
use Rattle.std.specs.Prelude.{Err, IfSome, IsOkAnd, IsTrue, List, Option, Some, [], drop, map, not, option_and_then, option_map, ℕ, ◌+◌, ◌≡◌}
use Rattle.wh_base.specs.Lists.{option_case}
use Rattle.wh_base.specs.declared.statements.BadScript.{BadScript}
use Rattle.wh_base.specs.declared.statements.Entry.{Entry}
use Rattle.wh_base.specs.declared.statements.Script.{Script}
use Rattle.def_journal.specs.Journal.{order_of}
use Rattle.def_output.specs.Checking.{given_journal}
use Rattle.def_output.specs.Generator.{generated}
use Rattle.def_output.specs.Output.{Checking, Form, Generating, Ordering, is_too_long, output, script_read}
use Rattle.def_output.specs.Reads.{session_reads}

-- ---- the input

-- What is known of the input that a form reads: the source's bytes, where it tells them. `gen` reads none of them, so of `gen` it is
-- known whatever the source tells.
abbrev pub IfInput : Form → Option (List ℕ) → (List ℕ → Type 0) → Type 0
IfInput (Ordering version) left P = IfSome left P
IfInput Checking left P = IfSome left P
IfInput (Generating n) left P = P []

-- The form reads an input.
abbrev pub ReadsInput : Form → Type 0
ReadsInput (Ordering version) = Unit {0}
ReadsInput Checking = Unit {0}
ReadsInput (Generating n) = ⊥

-- The input is as short as it has to be.
abbrev pub IsWithin : Form → List ℕ → Type 0
IsWithin form bytes = IsTrue (not (is_too_long form bytes))

-- ---- what is written

-- P of the text that the form writes over this input; the input has no fault.
abbrev pub OnOutput : Form → List ℕ → (List ℕ → Type 0) → Type 0
OnOutput form bytes P = IsOkAnd (output form bytes) P

-- The bytes that the form reads are no script; this is their first fault.
abbrev pub HasFault : Form → List ℕ → BadScript → Type 0
HasFault form bytes fault = output form bytes ≡ Err fault

-- ---- what is read

-- A script with the journal under which it is run.
abbrev pub Performed : Type 0
Performed = Script × List Entry

-- The script in its own order.
abbrev pub own_order : Script → Performed
own_order script = (script, order_of script)

-- What a form runs over this input: none where the script has a fault, and none where `check` finds no legal journal.
abbrev pub performed : Form → List ℕ → Option Performed
performed (Generating n) bytes = Some (own_order (generated n))
performed (Ordering version) bytes = option_map (λ p. own_order p.0) (script_read (Ordering version) bytes)
performed Checking bytes =
    option_and_then (λ p. option_map (λ journal. (p.0, journal)) (given_journal p.0 (drop p.1 bytes))) (script_read Checking bytes)

-- What is read for the counter at a place: the sum of the READ numbers in the replies of the session with this number, or from 65 on in
-- those of a worker's jobs; and nothing where nothing is run.
abbrev pub reads_at : Option Performed → ℕ → ℕ
reads_at ran place = option_case ran 0 (λ p. session_reads p.0 p.1 place)

-- What a form reads over this input.
abbrev pub form_reads : Form → List ℕ → ℕ → ℕ
form_reads form bytes place = reads_at (performed form bytes) place

-- Each counter rose by so much, where the lists have the counts before and after.
abbrev pub CountersRose : (ℕ → ℕ) → List ℕ → List ℕ → Type 0
CountersRose reads before after = after ≡ map (λ p. p.1 + reads p.0) (enumerate_from 0 before)

-- The counters rose by what the form reads over this input.
abbrev pub Counted : Form → List ℕ → List ℕ → List ℕ → Type 0
Counted form bytes before after = CountersRose (form_reads form bytes) before after
