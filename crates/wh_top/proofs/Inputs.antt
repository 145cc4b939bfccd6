-- What is known of the bytes in which a script was found, or a fault.
use Rattle.std.proofs.Common.{◌≡◌, sym, ap, subst, refl, ℕ, ◌<◌, ◌≤◌, IfSome, List, length, Option, Some, None, Ok, Err, false}
use Rattle.std.proofs.lemmas.Option.{same_Some}
use Rattle.std.specs.Prelude.{IsOkAnd, IsSome, not}
use Rattle.std.proofs.lemmas.Bool.{le-ltb, lt-ltb}
use Rattle.wh_base.specs.declared.statements.BadScript.{BadScript}
use Rattle.wh_base.specs.declared.statements.Script.{Script}
use Rattle.wh_base.specs.declared.statements.ScriptKind.TheVariants.{NotBuilt}
use Rattle.wh_base.specs.declared.values.Version.{Version}
use Rattle.def_built.specs.Form.{built_script}
use Rattle.def_built.proofs.Whole.{built_fault_is_fault, built_is_script}
use Rattle.def_grammar.specs.Script.{Outcome}
use Rattle.def_journal.specs.Journal.{order_of}
use Rattle.def_output.specs.Output.{Ordering, max_input, output}
use Rattle.def_output.specs.Program.{Counted, CountersRose, HasFault, OnOutput, own_order, performed, reads_at}
use Rattle.def_output.proofs.Forms.{ordering_fault, ordering_runs, ordering_writes}
use Rattle.def_transcript.specs.Transcript.{transcript}
use Rattle.wh_top.specs.Top.{IsLong, IsShort, script_built, script_in}

-- ---- how many bytes there are

pub long_where : (left : Option (List ℕ)) → IfSome left (λ bytes. max_input < length bytes) → IfSome left IsLong
long_where None h = tt
long_where (Some bytes) h = lt-ltb max_input (length bytes) h

pub short_where : (left : Option (List ℕ)) → IfSome left (λ bytes. length bytes ≤ max_input) → IfSome left IsShort
short_where None h = tt
short_where (Some bytes) h = ap not (le-ltb max_input (length bytes) h)

-- ---- a script

-- the script that was read, with the place behind it
abbrev IsRead : Outcome → Script → ℕ → Type 0
IsRead r script place = r ≡ Ok (script, place)

-- there is such a place
place_of_script : (r : Outcome) (script : Script) → script_in r ≡ Some script → (place : ℕ) × IsRead r script place
place_of_script (Ok p) script is = (p.1, found (same_Some is))
  where
    same_Some : Some p.0 ≡ Some script → p.0 ≡ script
    same_Some e = cc

    found : p.0 ≡ script → IsRead (Ok p) script p.1
    found same = subst (λ s. IsRead (Ok p) s p.1) same refl
place_of_script (Err e) script is = none is
  where
    none : None ≡ Some script → (place : ℕ) × IsRead (Err e) script place
    none h = cc

-- a script of forms that are built has the transcript of its own order
order_writes : (version : Version) (bytes : List ℕ) (script : Script) → script_built bytes ≡ Some script → output (Ordering version) bytes ≡ Ok (transcript version script (order_of script))
order_writes version bytes script read =
    let found = place_of_script (built_script bytes false) script read in
    ordering_writes version bytes (script, found.0) (built_is_script bytes false (script, found.0) found.1)

-- and is what is run
order_runs : (version : Version) (bytes : List ℕ) (script : Script) → script_built bytes ≡ Some script → performed (Ordering version) bytes ≡ Some (own_order script)
order_runs version bytes script read =
    let found = place_of_script (built_script bytes false) script read in
    ordering_runs version bytes (script, found.0) (built_is_script bytes false (script, found.0) found.1)

-- what is so of the text that is written is so of the output of the form
pub written_where : (version : Version) (left : Option (List ℕ)) (script : Script) (text : List ℕ) (P : List ℕ → Type 0) → IfSome left (λ bytes. script_built bytes ≡ Some script) → text ≡ transcript version script (order_of script) → P text → IfSome left (λ bytes. OnOutput (Ordering version) bytes P)
written_where version None script text P read is holds = tt
written_where version (Some bytes) script text P read is holds = subst (λ r. IsOkAnd r P) (sym (order_writes version bytes script read)) (subst P is holds)

-- the counters rose by what the form reads
pub counted_where : (version : Version) (left : Option (List ℕ)) (script : Script) (old new : List ℕ) → IfSome left (λ bytes. script_built bytes ≡ Some script) → CountersRose (reads_at (Some (own_order script))) old new → IfSome left (λ bytes. Counted (Ordering version) bytes old new)
counted_where version None script old new read rose = tt
counted_where version (Some bytes) script old new read rose = subst (λ ran. CountersRose (reads_at ran) old new) (sym (order_runs version bytes script read)) rose

-- there is a script of forms that are built
pub built_where : (left : Option (List ℕ)) (script : Script) → IfSome left (λ bytes. script_built bytes ≡ Some script) → IfSome left (λ bytes. IsSome (script_built bytes))
built_where None script read = tt
built_where (Some bytes) script read = subst IsSome (sym read) refl

-- ---- a fault

-- a fault other than that of a form that isn't built is the first fault of the bytes
pub fault_where : (version : Version) (left : Option (List ℕ)) (fault : BadScript) → (fault.kind ≡ NotBuilt → ⊥) → IfSome left (λ bytes. built_script bytes false ≡ Err fault) → IfSome left (λ bytes. HasFault (Ordering version) bytes fault)
fault_where version None fault other found = tt
fault_where version (Some bytes) fault other found = ordering_fault version bytes fault (built_fault_is_fault bytes false fault other found)
