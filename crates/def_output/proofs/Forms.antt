-- What a form writes and reads over an input in which this script was found.
use Rattle.std.proofs.Common.{◌≡◌, ap, ℕ, List, Some, Result, Ok, Err, drop}
use Rattle.std.specs.Prelude.{option_and_then, option_map}
use Rattle.wh_base.specs.Lists.{◌>>=◌}
use Rattle.wh_base.specs.declared.statements.BadScript.{BadScript}
use Rattle.wh_base.specs.declared.statements.Script.{Script}
use Rattle.wh_base.specs.declared.values.Version.{Version}
use Rattle.def_journal.specs.Journal.{order_of}
use Rattle.def_output.specs.Checking.{checked, given_journal}
use Rattle.def_output.specs.Output.{Checking, Form, Ordering, found_in, output, script_given, script_read}
use Rattle.def_output.specs.Program.{HasFault, own_order, performed}
use Rattle.def_transcript.specs.Transcript.{transcript}

-- what is written is told by the script that was found, since it is bound to it
bound : (f : Script × ℕ → Result (List ℕ) BadScript) (r : Result (Script × ℕ) BadScript) (p : Script × ℕ) → r ≡ Ok p → (r >>= f) ≡ f p
bound f r p found = ap (λ x. x >>= f) found

-- the same of the script without a fault
read-found : (form : Form) (bytes : List ℕ) (p : Script × ℕ) → script_given form bytes ≡ Ok p → script_read form bytes ≡ Some p
read-found form bytes p found = ap found_in found

-- `order` writes the transcript in the script's own order
pub ordering_writes : (version : Version) (bytes : List ℕ) (p : Script × ℕ) → script_given (Ordering version) bytes ≡ Ok p → output (Ordering version) bytes ≡ Ok (transcript version p.0 (order_of p.0))
ordering_writes version bytes p found = bound (λ q. Ok (transcript version q.0 (order_of q.0))) (script_given (Ordering version) bytes) p found

pub ordering_runs : (version : Version) (bytes : List ℕ) (p : Script × ℕ) → script_given (Ordering version) bytes ≡ Ok p → performed (Ordering version) bytes ≡ Some (own_order p.0)
ordering_runs version bytes p found = ap (option_map (λ q. own_order q.0)) (read-found (Ordering version) bytes p found)

-- `check` writes what the comparison of the two transcripts tells
pub checking_writes : (bytes : List ℕ) (p : Script × ℕ) → script_given Checking bytes ≡ Ok p → output Checking bytes ≡ Ok (checked p.0 (drop p.1 bytes))
checking_writes bytes p found = bound (λ q. Ok (checked q.0 (drop q.1 bytes))) (script_given Checking bytes) p found

pub checking_runs : (bytes : List ℕ) (p : Script × ℕ) → script_given Checking bytes ≡ Ok p → performed Checking bytes ≡ option_map (λ journal. (p.0, journal)) (given_journal p.0 (drop p.1 bytes))
checking_runs bytes p found = ap (option_and_then (λ q. option_map (λ journal. (q.0, journal)) (given_journal q.0 (drop q.1 bytes)))) (read-found Checking bytes p found)

-- a fault of the script is the fault of the form
pub ordering_fault : (version : Version) (bytes : List ℕ) (e : BadScript) → script_given (Ordering version) bytes ≡ Err e → HasFault (Ordering version) bytes e
ordering_fault version bytes e found = ap (λ r. r >>= (λ q. Ok (transcript version q.0 (order_of q.0)))) found

pub checking_fault : (bytes : List ℕ) (e : BadScript) → script_given Checking bytes ≡ Err e → HasFault Checking bytes e
checking_fault bytes e found = ap (λ r. r >>= (λ q. Ok (checked q.0 (drop q.1 bytes)))) found
