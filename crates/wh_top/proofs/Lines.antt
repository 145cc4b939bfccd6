-- The summary of a script that has run whole.
use Rattle.std.proofs.Common.{◌≡◌, ◌∙◌, sym, ap, refl, arith, ℕ, ◌+◌, ◌<◌, List, [], ◌∷◌, ◌++◌, length, get_or, take}
use Rattle.std.specs.Prelude.{codes, count_by, sum_by}
use Rattle.std.proofs.lemmas.List.Concat.{flat_map-append}
use Rattle.std.proofs.lemmas.List.Sums.{sum_by-cons, sum_by_more}
use Rattle.wh_base.specs.declared.statements.Entry.{Entry}
use Rattle.wh_base.specs.declared.statements.Script.{Script}
use Rattle.wh_base.specs.declared.statements.Section.{Section}
use Rattle.wh_base.specs.declared.values.Version.{Version}
use Rattle.def_journal.specs.Journal.{order_of, replies_of, trace_of}
use Rattle.def_output.specs.Generator.{generated, is_refused, is_rewritten, number_line, summary, summary_lines}
use Rattle.def_output.specs.Reads.{read_of}
use Rattle.def_transcript.specs.Texts.{lines_text}
use Rattle.wh_order.specs.Laws.{session_told}
use Rattle.wh_order.proofs.Lawful.{laws_hold}
use Rattle.wh_session.specs.Run.{Run}
use Rattle.wh_session.specs.Tally.{both, tally_of}
use Rattle.wh_session.specs.declared.tally.Tally.{Tally}
use Rattle.wh_top.specs.Running.{AreAsFar, HasRun, IsAsFar, IsRunnable, command_count, total}
use Rattle.wh_top.proofs.Outputs.{order_legal}

-- ---- sums over sessions and sections

-- one session more
pub total_more : (runs : List Run) (i : ℕ) (d : Run) → i < length runs → both (total (take i runs)) (get_or runs i d).tally ≡ total (take (i + 1) runs)
total_more runs i d within = λ j. record {
  refused = sym (sum_by_more (λ r. r.tally.refused) runs i d within) j;
  rewritten = sym (sum_by_more (λ r. r.tally.rewritten) runs i d within) j;
  read = sym (sum_by_more (λ r. r.tally.read) runs i d within) j;
}

-- one section more
pub commands_more : (sections : List Section) (i : ℕ) (d : Section) → i < length sections → command_count (take i sections) + length (get_or sections i d).commands ≡ command_count (take (i + 1) sections)
commands_more sections i d within = sym (sum_by_more (λ s. length s.commands) sections i d within)

module _ (version : Version) (script : Script) (journal : List Entry) where
  sums : (f : Run → ℕ) (h : Section → ℕ) → ((s : Section) (r : Run) → IsAsFar version script journal s r → f r ≡ h s) → (ss : List Section) (rs : List Run) → AreAsFar version script journal ss rs → sum_by f rs ≡ sum_by h ss
  sums f h same [] [] far = refl
  sums f h same [] (r ∷ rs) far = absurd far
  sums f h same (s ∷ ss) [] far = absurd far
  sums f h same (s ∷ ss) (r ∷ rs) far = omega (arith, sum_by-cons f r rs, sum_by-cons h s ss, same s r far.0, sums f h same ss rs far.1)

-- the tallies of the sessions are that of all replies
tally_whole : (version : Version) (script : Script) (runs : List Run) → IsRunnable script → AreAsFar version script (order_of script) script.sections runs → total runs ≡ tally_of (replies_of (trace_of script (order_of script)))
tally_whole version script runs runnable far =
    let journal : List Entry = order_of script in
    let legal = order_legal script runnable in
    let refused = sums version script journal (λ r. r.tally.refused) (λ s. count_by is_refused (session_told script journal s)) (λ s r own. ap (λ t. t.refused) own.tally_is) script.sections runs far
    ∙ sym (laws_hold.count_by_sections is_refused script journal legal runnable.differ) in
    let rewritten = sums version script journal (λ r. r.tally.rewritten) (λ s. count_by is_rewritten (session_told script journal s)) (λ s r own. ap (λ t. t.rewritten) own.tally_is) script.sections runs far
    ∙ sym (laws_hold.count_by_sections is_rewritten script journal legal runnable.differ) in
    let read = sums version script journal (λ r. r.tally.read) (λ s. sum_by (λ t. read_of t.reply) (session_told script journal s)) (λ s r own. ap (λ t. t.read) own.tally_is) script.sections runs far
    ∙ sym (laws_hold.sum_by_sections (λ t. read_of t.reply) script journal legal runnable.differ) in
    λ i. record { refused = refused i; rewritten = rewritten i; read = read i }

-- ---- the lines

-- a line more
pub line_more : (text text2 : List ℕ) (lines : List (List ℕ)) (line : List ℕ) → text ≡ lines_text lines → text2 ≡ text ++ lines_text (line ∷ []) → text2 ≡ lines_text (lines ++ line ∷ [])
line_more text text2 lines line is more = more ∙ ap (λ t. t ++ lines_text (line ∷ [])) is ∙ sym (flat_map-append (λ (l : List ℕ). l ++ 10 ∷ []) lines (line ∷ []))

abbrev pub summed : ℕ → ℕ → Tally → ℕ → List (List ℕ)
summed n commands tally scn =
    number_line (codes "gen") n
    ∷ number_line (codes "commands") commands
    ∷ number_line (codes "refused") tally.refused
    ∷ number_line (codes "rewritten") tally.rewritten
    ∷ number_line (codes "read") tally.read
    ∷ number_line (codes "scn") scn
    ∷ []

-- what the summary of a script says
abbrev summary_of : ℕ → Script → List ℕ
summary_of n script = lines_text (summary_lines n script (trace_of script (order_of script)))

summary_whole : (version : Version) (n : ℕ) (script : Script) (journal : List Entry) (runs : List Run) (commands scn : ℕ) (tally : Tally) → IsRunnable script → HasRun version script runs journal scn → commands ≡ command_count script.sections → tally ≡ total runs → lines_text (summed n commands tally scn) ≡ summary_of n script
summary_whole version n script journal runs commands scn tally runnable ran count all =
    ap (λ c. lines_text (summed n c tally scn)) count
    ∙ ap (λ t. lines_text (summed n (command_count script.sections) t scn)) (all ∙ tally_whole version script runs runnable ran.far)
    ∙ ap (λ m. lines_text (summed n (command_count script.sections) (tally_of (replies_of (trace_of script (order_of script)))) m)) ran.scn_is

pub summary_ran : (version : Version) (n : ℕ) (script : Script) (journal : List Entry) (runs : List Run) (commands scn : ℕ) (tally : Tally) (text : List ℕ) → script ≡ generated n → IsRunnable script → HasRun version script runs journal scn → commands ≡ command_count script.sections → tally ≡ total runs → text ≡ lines_text (summed n commands tally scn) → text ≡ lines_text (summary n)
summary_ran version n script journal runs commands scn tally text is runnable ran count all written =
    written ∙ summary_whole version n script journal runs commands scn tally runnable ran count all ∙ ap (summary_of n) is
