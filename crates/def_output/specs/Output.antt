-- What the program writes for its words and its input. There are six forms of words: `order`, `order 1`, `check`, `gen N`, `run` and
-- `run 1`. The output of the first four is determined; that of `run` depends on how its threads meet. A `1` asks for the first
-- version of the transcript, and without it the second is written.
use Rattle.std.specs.Prelude.{Bool, Err, List, None, Ok, Option, Result, Some, [], codes, cond, decimal, drop, false, length, nat_le, nat_lt, is_some, option_and_then, option_map, true, ℕ, ◌&&◌, ◌∷◌}
use Rattle.wh_base.specs.Lists.{same_text, where_true, ◌>>=◌}
use Rattle.wh_base.specs.Values.{digits_number}
use Rattle.wh_base.specs.declared.statements.BadScript.{BadScript}
use Rattle.wh_base.specs.declared.statements.Script.{Script}
use Rattle.wh_base.specs.declared.values.Version.{Version}
use Rattle.wh_base.specs.declared.values.Version.TheVariants.{One, Two}
use Rattle.def_grammar.specs.Script.{script_of}
use Rattle.def_journal.specs.Journal.{order_of}
use Rattle.def_transcript.specs.Texts.{lines_text}
use Rattle.def_transcript.specs.Transcript.{transcript}
use Rattle.def_output.specs.Checking.{checked}
use Rattle.def_output.specs.Generator.{summary}

-- The forms whose output is determined: the script in its own order, with the version of its transcript; a script and a transcript to check; the generated script with N sales.
pub data Form : Type 0 where
  Ordering : Version → Form
  Checking : Form
  Generating : ℕ → Form

-- N of `gen N`: 1 to 100000 in decimal, without a sign or a leading zero.
abbrev pub gen_number : List ℕ → Option ℕ
gen_number w = option_and_then (λ n. where_true ((nat_le 1 n && nat_le n 100000) && same_text (decimal n) w) n) (digits_number w)

-- The form that the words name, or none.
abbrev pub form_of : List (List ℕ) → Option Form
form_of (w ∷ []) = cond (same_text w (codes "order")) (Some (Ordering Two)) (where_true (same_text w (codes "check")) Checking)
form_of (w ∷ n ∷ []) =
    cond (same_text w (codes "gen")) (option_map Generating (gen_number n))
    (where_true (same_text w (codes "order") && same_text n (codes "1")) (Ordering One))
form_of _ = None

-- The version of the transcript where the words ask for a run on threads, and none where they don't.
abbrev pub run_version : List (List ℕ) → Option Version
run_version (w ∷ []) = where_true (same_text w (codes "run")) Two
run_version (w ∷ n ∷ []) = where_true (same_text w (codes "run") && same_text n (codes "1")) One
run_version ws = None

-- The words ask for a run on threads.
abbrev pub is_run : List (List ℕ) → Bool
is_run ws = is_some (run_version ws)

-- The longest input, in bytes.
abbrev pub max_input : ℕ
max_input = 8388608

-- The form reads its input, which `gen` doesn't, and the input is longer than that.
abbrev pub is_too_long : Form → List ℕ → Bool
is_too_long (Generating n) bytes = false
is_too_long form bytes = nat_lt max_input (length bytes)

-- Bytes may follow the script: the transcript that `check` compares.
abbrev pub has_tail : Form → Bool
has_tail (Ordering version) = false
has_tail Checking = true
has_tail (Generating n) = false

-- The script in the input with the place after it, or its first fault.
abbrev pub script_given : Form → List ℕ → Result (Script × ℕ) BadScript
script_given form bytes = script_of bytes (has_tail form)

-- What was found, and none where there is a fault.
abbrev pub found_in : Result (Script × ℕ) BadScript → Option (Script × ℕ)
found_in (Ok p) = Some p
found_in (Err fault) = None

-- The script in the input, and none where there is a fault.
abbrev pub script_read : Form → List ℕ → Option (Script × ℕ)
script_read form bytes = found_in (script_given form bytes)

-- The bytes written, or the first fault of the script. `gen` reads no input.
abbrev pub output : Form → List ℕ → Result (List ℕ) BadScript
output (Generating n) bytes = Ok (lines_text (summary n))
output (Ordering version) bytes = do
  p ← script_given (Ordering version) bytes
  Ok (transcript version p.0 (order_of p.0))
output Checking bytes = do
  p ← script_given Checking bytes
  Ok (checked p.0 (drop p.1 bytes))
