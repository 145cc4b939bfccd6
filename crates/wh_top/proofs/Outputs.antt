-- What is written and counted for a whole script.
use Rattle.std.proofs.Common.{◌≡◌, ◌∙◌, sym, ap, subst, refl, arith, ℕ, ◌+◌, ◌==◌, true, cond, List, [], ◌∷◌, ◌++◌, length, map, drop, take, flat_map, Some}
use Rattle.std.specs.List.{AllByRecursion, enumerate_from, list_all}
use Rattle.std.proofs.lemmas.Bool.{and_parts, eqb-true}
use Rattle.std.proofs.lemmas.List.{append-nil, append_assoc, drop_all, take_all}
use Rattle.std.proofs.lemmas.List.Sums.{sum_by-cons}
use Rattle.wh_base.specs.Parts.{bearer, section_entries}
use Rattle.wh_base.specs.declared.statements.Entry.{Entry}
use Rattle.wh_base.specs.declared.statements.Script.{Script}
use Rattle.wh_base.specs.declared.statements.Section.{Section}
use Rattle.wh_base.specs.declared.values.Version.{Version}
use Rattle.def_journal.specs.Jobs.{accepted_submits, is_own}
use Rattle.def_journal.specs.Journal.{Told, is_legal, of_session, order_of, replies_of, state_of, trace_of}
use Rattle.def_output.specs.Reads.{reads_of, told_to}
use Rattle.def_output.specs.Program.{CountersRose, own_order, reads_at}
use Rattle.def_transcript.specs.Texts.{first_lines, journal_line, lines_text}
use Rattle.def_transcript.specs.Transcript.{transcript}
use Rattle.wh_order.specs.Laws.{session_told, told_in, told_text}
use Rattle.wh_order.proofs.Journals.{each_own}
use Rattle.wh_order.proofs.Lawful.{laws_hold}
use Rattle.wh_order.proofs.Told.{answers_hold, journal_answered}
use Rattle.wh_session.specs.Run.{Run}
use Rattle.wh_top.specs.Running.{AreAsFar, CountedSoFar, HasRun, IsAsFar, IsRunnable, ahead_of, read_by}
use Rattle.wh_top.proofs.SoFar.{neither}

-- ---- no part is left

ended_left : (version : Version) (script : Script) (journal : List Entry) (s : Section) (r : Run) → of_session s.session journal ≡ section_entries s → IsAsFar version script journal s r → r.ahead ≡ 0
ended_left version script journal s r own far = far.ended (far.left_is ∙ ap (λ es. drop (length es) (section_entries s)) own ∙ drop_all (length (section_entries s)) (section_entries s) (omega arith))

ended_ahead : (version : Version) (script : Script) (journal : List Entry) (n : ℕ) (ss : List Section) (rs : List Run) → AllByRecursion (λ s. of_session s.session journal ≡ section_entries s) ss → AreAsFar version script journal ss rs → ahead_of n rs ≡ 0
ended_ahead version script journal n [] [] own far = refl
ended_ahead version script journal n [] (r ∷ rs) own far = absurd far
ended_ahead version script journal n (s ∷ ss) [] own far = absurd far
ended_ahead version script journal n (s ∷ ss) (r ∷ rs) own far =
    let f : Run → ℕ = λ q. cond (q.section.session == n) q.ahead 0 in
    let none : f r ≡ 0 = ap (λ a. cond (r.section.session == n) a 0) (ended_left version script journal s r own.0 far.0) ∙ neither (r.section.session == n) 0 in
    omega (arith, sum_by-cons f r rs, none, ended_ahead version script journal n ss rs own.1 far.1)

raised_same : (f g : ℕ → ℕ) (k : ℕ) (old : List ℕ) → ((n : ℕ) → f n ≡ g n) → map (λ p. p.1 + f p.0) (enumerate_from k old) ≡ map (λ p. p.1 + g p.0) (enumerate_from k old)
raised_same f g k [] same = refl
raised_same f g k (c ∷ cs) same = ap (λ x. (c + x) ∷ map (λ p. p.1 + f p.0) (enumerate_from (k + 1) cs)) (same k) ∙ ap (λ xs. (c + g k) ∷ xs) (raised_same f g (k + 1) cs same)

-- a script's own order is legal
pub order_legal : (script : Script) → IsRunnable script → is_legal script (order_of script) ≡ true
order_legal script runnable = laws_hold.legal script runnable.no_jobs runnable.differ

-- ---- no worker has a reply

own_workers : (journal : List Entry) → list_all is_own journal ≡ true → AllByRecursion (λ e. e.worker ≡ 0) journal
own_workers [] own = tt
own_workers (e ∷ es) own =
    let parts = and_parts (is_own e) (list_all is_own es) own in
    (eqb-true e.worker 0 parts.0, own_workers es parts.1)

told_same : (n : ℕ) (told : List Told) → AllByRecursion (λ t. t.id.worker ≡ 0) told → told_to n told ≡ told_in n told
told_same n [] alone = refl
told_same n (t ∷ ts) alone =
    ap (λ w. cond (bearer t.id.session w == n) (t ∷ told_to n ts) (told_to n ts)) alone.0
    ∙ ap (λ us. cond (t.id.session == n) (t ∷ us) us) (told_same n ts alone.1)

-- so what is told under the number of a session is what is told to it
told_alone : (script : Script) (journal : List Entry) (n : ℕ) → accepted_submits script ≡ [] → is_legal script journal ≡ true → told_to n (replies_of (trace_of script journal)) ≡ told_in n (replies_of (trace_of script journal))
told_alone script journal n none legal =
    let given : List Told = replies_of (trace_of script journal) in
    told_same n given (answers_hold (λ i. i.worker ≡ 0) journal given (journal_answered script journal) (own_workers journal (laws_hold.all_own script journal none legal)))

-- what was counted for the whole order
pub counted_whole : (version : Version) (script : Script) (runs : List Run) (old reads : List ℕ) → IsRunnable script → AreAsFar version script (order_of script) script.sections runs → CountedSoFar script (order_of script) runs old reads → CountersRose (reads_at (Some (own_order script))) old reads
counted_whole version script runs old reads runnable far counted =
    let journal : List Entry = order_of script in
    let none : (n : ℕ) → ahead_of n runs ≡ 0 = λ n. ended_ahead version script journal n script.sections runs (each_own script journal runnable.no_jobs (order_legal script runnable)) far in
    let same : (n : ℕ) → read_by script journal runs n ≡ reads_at (Some (own_order script)) n = λ n. omega (arith, none n, ap reads_of (told_alone script journal n runnable.no_jobs (order_legal script runnable))) in
    counted ∙ raised_same (read_by script journal runs) (reads_at (Some (own_order script))) 0 old same

texts_far : (version : Version) (script : Script) (journal : List Entry) (ss : List Section) (rs : List Run) → AreAsFar version script journal ss rs → flat_map (λ r. r.text) rs ≡ flat_map (λ s. told_text version (session_told script journal s)) ss
texts_far version script journal [] [] far = refl
texts_far version script journal [] (r ∷ rs) far = absurd far
texts_far version script journal (s ∷ ss) [] far = absurd far
texts_far version script journal (s ∷ ss) (r ∷ rs) far =
    ap (λ t. t ++ flat_map (λ q. q.text) rs) far.0.text_is
    ∙ ap (λ t. told_text version (session_told script journal s) ++ t) (texts_far version script journal ss rs far.1)

-- the first line, the texts of the sessions and the line of the order
pub output_whole : (version : Version) (script : Script) (runs : List Run) → IsRunnable script → AreAsFar version script (order_of script) script.sections runs → (lines_text (first_lines version) ++ flat_map (λ r. r.text) runs) ++ lines_text (journal_line (order_of script) ∷ []) ≡ transcript version script (order_of script)
output_whole version script runs runnable far =
    let journal : List Entry = order_of script in
    let first : List ℕ = lines_text (first_lines version) in
    let last : List ℕ = lines_text (journal_line journal ∷ []) in
    append_assoc first (flat_map (λ r. r.text) runs) last
    ∙ ap (λ t. first ++ (t ++ last)) (texts_far version script journal script.sections runs far)
    ∙ sym (laws_hold.transcript_by_sessions version script journal runnable.no_jobs (order_legal script runnable))

-- the script has run whole, where it and its order go by other names
pub has_run : (version : Version) (script whole : Script) (journal : List Entry) (runs : List Run) (scn : ℕ) → whole ≡ script → journal ≡ order_of script → AreAsFar version whole journal whole.sections runs → scn ≡ (state_of (trace_of whole journal)).catalog.scn → HasRun version script runs journal scn
has_run version script whole journal runs scn same order far is =
    record {
      journal_is = order;
      far = subst (λ es. AreAsFar version script es script.sections runs) order (subst (λ s. AreAsFar version s journal s.sections runs) same far);
      scn_is = is ∙ ap (λ s. (state_of (trace_of s journal)).catalog.scn) same ∙ ap (λ es. (state_of (trace_of script es)).catalog.scn) order;
    }

-- what is written of it
pub output_ran : (version : Version) (script : Script) (journal : List Entry) (runs : List Run) (scn : ℕ) (text out : List ℕ) → IsRunnable script → HasRun version script runs journal scn → text ≡ lines_text (first_lines version) ++ flat_map (λ r. r.text) runs → out ≡ text ++ lines_text (journal_line journal ∷ []) → out ≡ transcript version script (order_of script)
output_ran version script journal runs scn text out runnable ran texts written =
    written
    ∙ ap (λ t. t ++ lines_text (journal_line journal ∷ [])) texts
    ∙ ap (λ es. (lines_text (first_lines version) ++ flat_map (λ r. r.text) runs) ++ lines_text (journal_line es ∷ [])) ran.journal_is
    ∙ output_whole version script runs runnable ran.far

pub output_counted : (version : Version) (script whole : Script) (journal : List Entry) (runs : List Run) (old reads : List ℕ) → IsRunnable script → whole ≡ script → journal ≡ order_of script → AreAsFar version whole journal whole.sections runs → CountedSoFar whole journal runs old reads → CountersRose (reads_at (Some (own_order script))) old reads
output_counted version script whole journal runs old reads runnable same order far counted =
    let ended : AreAsFar version script (order_of script) script.sections runs = subst (λ es. AreAsFar version script es script.sections runs) order (subst (λ s. AreAsFar version s journal s.sections runs) same far) in
    let all : CountedSoFar script (order_of script) runs old reads = subst (λ es. CountedSoFar script es runs old reads) order (subst (λ s. CountedSoFar s journal runs old reads) same counted) in
    counted_whole version script runs old reads runnable ended all

-- what is left of a slice in its list
pub written_back : (n : ℕ) (new old : List Run) → n ≡ length old → length new ≡ length old → take n (new ++ drop (length new) old) ≡ new
written_back n new old count same =
    ap (λ rs. take n (new ++ rs)) (drop_all (length new) old (omega (arith, same)))
    ∙ ap (take n) (append-nil new)
    ∙ take_all n new (omega (arith, count, same))
