-- The sessions after the front of a legal journal.
use Rattle.std.proofs.Common.{◌≡◌, ◌∙◌, sym, ap, subst, refl, arith, ℕ, suc, zero, ◌+◌, ◌<◌, ◌≤◌, ◌==◌, Bool, true, false, cond, List, [], ◌∷◌, ◌++◌, length, map, get_or, take, drop, find, Some}
use Rattle.std.specs.List.{All, enumerate_from}
use Rattle.std.specs.Prelude.{slice_index, slice_set}
use Rattle.std.proofs.lemmas.List.{append_assoc, length-set, take_all, take_more}
use Rattle.std.proofs.lemmas.List.Sums.{sum_by-cons}
use Rattle.wh_base.specs.Parts.{section_entries}
use Rattle.wh_base.specs.declared.statements.Entry.{Entry}
use Rattle.wh_base.specs.declared.statements.Event.{Event}
use Rattle.wh_base.specs.declared.statements.Script.{Script}
use Rattle.wh_base.specs.declared.statements.Section.{Section}
use Rattle.wh_base.specs.declared.values.Version.{Version}
use Rattle.def_journal.specs.Journal.{given_by, is_legal, of_session, reply_to, state_of, trace_of}
use Rattle.def_output.specs.Reads.{reads_of}
use Rattle.wh_order.specs.Laws.{IsNext}
use Rattle.wh_order.proofs.Journals.{next_part}
use Rattle.wh_session.specs.Run.{AreOverTables, Run, Takes, begun}
use Rattle.wh_session.proofs.Scripted.{over_tables}
use Rattle.wh_top.specs.Running.{AreAsFar, CountedSoFar, HasNext, IsAsFar, IsRunnable, IsTaken, ahead_of, most_sessions, place_of, read_by}
use Rattle.wh_top.proofs.Apart.{apart_of}
use Rattle.wh_top.proofs.Counts.{counted_next}
use Rattle.wh_top.proofs.Parts.{all_far, event_at, event_is, found_own, left_next, own_far, run_found, trace_is}

-- The parts of the front are taken: the trace is that of the front, and the sessions and the counters are as far.
pub record SoFar (version : Version) (script : Script) (front : List Entry) (trace : List Event) (runs : List Run) (old reads : List ℕ) : Type 0 where
  pub trace_is : trace ≡ trace_of script front
  pub far : AreAsFar version script front script.sections runs
  pub counted : CountedSoFar script front runs old reads
  pub many : length reads ≡ 65

-- ---- at the start

begun_far : (version : Version) (script : Script) (ss : List Section) → AreAsFar version script [] ss (map (begun version) ss)
begun_far version script [] = tt
begun_far version script (s ∷ ss) = (
  record {
    version_is = refl;
    section_is = refl;
    left_is = refl;
    text_is = refl;
    tally_is = refl;
    goes_on = record { more = []; is = refl; apart = refl };
    ended = λ h. refl;
  },
  begun_far version script ss,
)

-- the same in both cases
pub neither : (b : Bool) (n : ℕ) → cond b n n ≡ n
neither true n = refl
neither false n = refl

begun_ahead : (version : Version) (n : ℕ) (ss : List Section) → ahead_of n (map (begun version) ss) ≡ 0
begun_ahead version n [] = refl
begun_ahead version n (s ∷ ss) =
    let f : Run → ℕ = λ r. cond (r.section.session == n) r.ahead 0 in
    let none : f (begun version s) ≡ 0 = neither (s.session == n) 0 in
    omega (arith, sum_by-cons f (begun version s) (map (begun version) ss), none, begun_ahead version n ss)

none_raised : (f : ℕ → ℕ) (k : ℕ) (old : List ℕ) → ((n : ℕ) → f n ≡ 0) → old ≡ map (λ p. p.1 + f p.0) (enumerate_from k old)
none_raised f k [] none = refl
none_raised f k (c ∷ cs) none =
    let here : c ≡ c + f k = omega (arith, none k) in
    ap (λ x. x ∷ cs) here ∙ ap (λ xs. (c + f k) ∷ xs) (none_raised f (k + 1) cs none)

pub start_so_far : (version : Version) (script : Script) (runs : List Run) (reads : List ℕ) → runs ≡ map (begun version) script.sections → length reads ≡ 65 → SoFar version script [] [] runs reads reads
start_so_far version script runs reads is many = subst (λ rs. SoFar version script [] [] rs reads reads) (sym is) (record {
  trace_is = refl;
  far = begun_far version script script.sections;
  counted = none_raised (read_by script [] (map (begun version) script.sections)) 0 reads (λ n. omega (arith, begun_ahead version n script.sections));
  many = many;
})

-- ---- the next part

-- what holds of each section holds of the one that is found
found_among : (P : Section → Type 0) (n : ℕ) (s : Section) (ss : List Section) → All P ss → find (λ t. t.session == n) ss ≡ Some s → P s
found_among P n s [] h found = none found
  where
    none : find (λ t. t.session == n) [] ≡ Some s → P s
    none e = cc
found_among P n s (t ∷ ss) h found = by (t.session == n) found (found_among P n s ss (λ k d within. h (suc k) d (omega (arith, within))))
  where
    some : Some t ≡ Some s → t ≡ s
    some e = cc

    by : (b : Bool) → cond b (Some t) (find (λ u. u.session == n) ss) ≡ Some s → (find (λ u. u.session == n) ss ≡ Some s → P s) → P s
    by true here later = subst P (some here) (h 0 t (omega arith))
    by false here later = later here

-- the number of the entry is at most the greatest
pub entry_within : (script : Script) (front rest : List Entry) (e : Entry) → IsRunnable script → is_legal script (front ++ e ∷ rest) ≡ true → e.session ≤ most_sessions
entry_within script front rest e runnable legal =
    let next : IsNext script front e = next_part script front rest e runnable.no_jobs legal in
    subst (λ n. n ≤ most_sessions) (found_own e.session next.section script.sections next.found) (found_among (λ t. t.session ≤ most_sessions) e.session next.section script.sections runnable.within next.found)

pub next_so_far : (version : Version) (script : Script) (front rest : List Entry) (e : Entry) (trace : List Event) (runs : List Run) (old reads : List ℕ) → IsRunnable script → is_legal script (front ++ e ∷ rest) ≡ true → SoFar version script front trace runs old reads → HasNext e.session runs trace
next_so_far version script front rest e trace runs old reads runnable legal far =
    let next : IsNext script front e = next_part script front rest e runnable.no_jobs legal in
    let own = found_own e.session next.section script.sections next.found in
    let run = run_found version script front e.session next.section script.sections runs far.far next.found in
    let over : AreOverTables (trace_of script front) next.section = found_among (AreOverTables (trace_of script front)) e.session next.section script.sections (over_tables script front runnable.built) next.found in
    subst (HasNext e.session runs) (sym far.trace_is) (record {
      run = run.0;
      there = run.1;
      entry = e;
      later = drop (suc (length (of_session e.session front))) (section_entries next.section);
      left_is = left_next version script front e run.0 next own run.2;
      goes_on = run.2.goes_on;
      over_tables = subst (AreOverTables (trace_of script front)) (sym run.2.section_is) over;
    })

some_run : (x y : Run) → Some x ≡ Some y → x ≡ y
some_run x y e = cc

pub step_so_far : (version : Version) (script : Script) (front rest : List Entry) (e : Entry) (trace trace_after : List Event) (runs runs_after : List Run) (old reads reads_after : List ℕ) → IsRunnable script → is_legal script (front ++ e ∷ rest) ≡ true → length old ≡ 65 → SoFar version script front trace runs old reads → IsTaken e.session runs runs_after trace trace_after reads reads_after → SoFar version script (front ++ e ∷ []) trace_after runs_after old reads_after
step_so_far version script front rest e trace trace_after runs runs_after old reads reads_after runnable legal many far taken =
    let n : ℕ = e.session in
    let next : IsNext script front e = next_part script front rest e runnable.no_jobs legal in
    let s : Section = next.section in
    let own : s.session ≡ n = found_own n s script.sections next.found in
    let found = run_found version script front n s script.sections runs far.far next.found in
    let same : found.0 ≡ taken.run = some_run found.0 taken.run (sym found.1 ∙ taken.there) in
    let here : IsAsFar version script front s taken.run = subst (IsAsFar version script front s) same found.2 in
    let place : ℕ = place_of n runs in
    let read : ℕ = slice_index reads n in
    let takes : Takes taken.run taken.after (trace_of script front) trace_after read taken.count = subst (λ t. Takes taken.run taken.after t trace_after read taken.count) far.trace_is taken.takes in
    let event : event_at script e ≡ record { entry = takes.entry; command = takes.command } = event_is version script front e taken.run taken.after trace_after read taken.count next own here takes in
    let number : taken.run.section.session ≡ n = ap (λ t. t.session) here.section_is ∙ own in
    let low_number : n ≤ most_sessions = entry_within script front rest e runnable legal in
    let raise : taken.count + taken.run.ahead ≡ read + (reads_of (given_by (event_at script e) (reply_to (trace_of script front) (event_at script e))) + taken.after.ahead) = takes.read_is ∙ sym (ap (λ x. read + (reads_of (given_by x (reply_to (trace_of script front) x)) + taken.after.ahead)) event) in
    let after : SoFar version script (front ++ e ∷ []) trace_after (slice_set runs place taken.after) old (slice_set reads n taken.count) = record {
      trace_is = trace_is version script front e taken.run taken.after trace_after read taken.count next own here takes;
      far = all_far version script front e s taken.after script.sections runs next.names.alone (apart_of script runnable.differ) far.far next.found (own_far version script front e taken.run taken.after trace_after read taken.count next own here takes);
      counted = counted_next script front e place taken.count runs taken.run taken.after old reads taken.there number takes.section_is (omega (arith, many, low_number)) far.counted raise;
      many = length-set reads n taken.count ∙ far.many;
    } in
    subst (λ rs. SoFar version script (front ++ e ∷ []) trace_after rs old reads_after) (sym taken.runs_are) (subst (λ cs. SoFar version script (front ++ e ∷ []) trace_after (slice_set runs place taken.after) old cs) (sym taken.reads_are) after)

-- ---- the parts in a loop

-- behind the whole journal the core's SCN is that of its trace
pub scn_far : (version : Version) (script : Script) (journal entries : List Entry) (n scn : ℕ) (trace : List Event) (runs : List Run) (old reads : List ℕ) → SoFar version script (take n journal) trace runs old reads → entries ≡ journal → length entries ≤ n
    → scn ≡ (state_of trace).catalog.scn → scn ≡ (state_of (trace_of script journal)).catalog.scn
scn_far version script journal entries n scn trace runs old reads far same whole is =
    let all : length journal ≤ n = subst (λ es. length es ≤ n) same whole in
    is ∙ ap (λ t. (state_of t).catalog.scn) (far.trace_is ∙ ap (trace_of script) (take_all n journal all))

split_at : (xs : List Entry) (i : ℕ) (d : Entry) → i < length xs → take i xs ++ get_or xs i d ∷ drop (suc i) xs ≡ xs
split_at [] i d within = absurd (omega (arith, within))
split_at (x ∷ xs) zero d within = refl
split_at (x ∷ xs) (suc i) d within = ap (λ ys. x ∷ ys) (split_at xs i d (omega (arith, within)))

-- the journal at the entry in this place
pub legal_at : (script : Script) (journal entries : List Entry) (i : ℕ) (d : Entry) → entries ≡ journal → i < length entries → is_legal script journal ≡ true → is_legal script (take i journal ++ get_or entries i d ∷ drop (suc i) journal) ≡ true
legal_at script journal entries i d same within legal =
    ap (λ xs. is_legal script (take i journal ++ get_or xs i d ∷ drop (suc i) journal)) same
    ∙ ap (is_legal script) (split_at journal i d (subst (λ xs. i < length xs) same within))
    ∙ legal

pub front_at : (journal entries : List Entry) (i : ℕ) (d : Entry) → entries ≡ journal → i < length entries → take i journal ++ get_or entries i d ∷ [] ≡ take (i + 1) journal
front_at journal entries i d same within =
    ap (λ xs. take i journal ++ get_or xs i d ∷ []) same
    ∙ sym (take_more journal i d (subst (λ xs. i < length xs) same within))

-- ---- the sessions that are made

pub made_next : (version : Version) (made pushed all : List Run) (r : Run) (s : Section) (rest later : List Section) → pushed ≡ made ++ r ∷ [] → r ≡ begun version s → rest ≡ s ∷ later → made ++ map (begun version) rest ≡ all → pushed ++ map (begun version) later ≡ all
made_next version made pushed all r s rest later push is next done =
    ap (λ rs. rs ++ map (begun version) later) push
    ∙ append_assoc made (r ∷ []) (map (begun version) later)
    ∙ ap (λ q. made ++ q ∷ map (begun version) later) is
    ∙ ap (λ ss. made ++ map (begun version) ss) (sym next)
    ∙ done
