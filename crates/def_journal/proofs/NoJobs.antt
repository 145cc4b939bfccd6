-- Journals of a script without accepted SUBMITs: their entries are the sessions' own, and its own order has no more than those.
use Rattle.std.proofs.Common.{◌≡◌, ◌∙◌, sym, ap, subst, refl, arith, ℕ, ◌+◌, ◌==◌, ◌&&◌, ◌||◌, Bool, true, false, cond, List, [], ◌∷◌, ◌++◌}
use Rattle.std.specs.List.{enumerate_from, list_all, list_any}
use Rattle.std.specs.Prelude.{filter, flat_map, nat_le, not}
use Rattle.std.proofs.lemmas.Bool.{and_from, and_parts, eq-eqb, eqb-true, le-leb, or_left}
use Rattle.std.proofs.lemmas.List.{append-nil}
use Rattle.wh_base.specs.declared.statements.Command.{Command}
use Rattle.wh_base.specs.declared.statements.Command.TheVariants as commands
use Rattle.wh_base.specs.declared.statements.Entry.{Entry}
use Rattle.wh_base.specs.declared.statements.Id.{Id}
use Rattle.wh_base.specs.declared.statements.Script.{Script}
use Rattle.wh_base.specs.declared.statements.Section.{Section}
use Rattle.def_journal.specs.Jobs.{accepted_from, accepted_in, accepted_submits, by_worker, closed, closer, is_done, is_for, is_of, is_own, is_submit, is_worker_of, jobs_are_legal, kept_after, same_entries, same_entry, take_turns}
use Rattle.def_journal.specs.Journal.{of_session, order_of, own_entries, own_turns}

-- ---- tests on lists of entries

all_weaker : (p q : Entry → Bool) → ((e : Entry) → p e ≡ true → q e ≡ true) → (es : List Entry) → list_all p es ≡ true → list_all q es ≡ true
all_weaker p q w [] h = refl
all_weaker p q w (e ∷ es) h =
    let parts = and_parts (p e) (list_all p es) h in and_from (q e) (list_all q es) (w e parts.0) (all_weaker p q w es parts.1)

filter_all : (p : Entry → Bool) (es : List Entry) → list_all p es ≡ true → filter p es ≡ es
filter_all p [] h = refl
filter_all p (e ∷ es) h =
    let parts = and_parts (p e) (list_all p es) h in
    ap (λ b. cond b (e ∷ filter p es) (filter p es)) parts.0 ∙ ap (λ xs. e ∷ xs) (filter_all p es parts.1)

filter_none : (p : Entry → Bool) (es : List Entry) → list_all (λ e. not (p e)) es ≡ true → filter p es ≡ []
filter_none p [] h = refl
filter_none p (e ∷ es) h =
    let parts = and_parts (not (p e)) (list_all (λ x. not (p x)) es) h in
    ap (λ b. cond b (e ∷ filter p es) (filter p es)) (by (p e) parts.0) ∙ filter_none p es parts.1
  where
    by : (b : Bool) → not b ≡ true → b ≡ false
    by true k = sym k
    by false k = refl

all_in_filter : (p q : Entry → Bool) (es : List Entry) → list_all p es ≡ true → list_all p (filter q es) ≡ true
all_in_filter p q [] h = refl
all_in_filter p q (e ∷ es) h = let parts = and_parts (p e) (list_all p es) h in by (q e) (filter q es) parts.0 (all_in_filter p q es parts.1)
  where
    by : (b : Bool) (xs : List Entry) → p e ≡ true → list_all p xs ≡ true → list_all p (cond b (e ∷ xs) xs) ≡ true
    by true xs k rest = and_from (p e) (list_all p xs) k rest
    by false xs k rest = rest

entry_itself : (x : Entry) → same_entry x x ≡ true
entry_itself x =
    and_from (x.session == x.session) ((x.command == x.command) && ((x.part == x.part) && (x.worker == x.worker))) (eq-eqb x.session x.session refl)
    (and_from (x.command == x.command) ((x.part == x.part) && (x.worker == x.worker)) (eq-eqb x.command x.command refl)
    (and_from (x.part == x.part) (x.worker == x.worker) (eq-eqb x.part x.part refl) (eq-eqb x.worker x.worker refl)))

pub entries_themselves : (xs : List Entry) → same_entries xs xs ≡ true
entries_themselves [] = refl
entries_themselves (x ∷ xs) = and_from (same_entry x x) (same_entries xs xs) (entry_itself x) (entries_themselves xs)

-- ---- entries of sessions

-- an own entry has the worker 0
no_worker : (e : Entry) → is_own e ≡ true → e.worker ≡ 0
no_worker e h = eqb-true e.worker 0 h

-- where all entries are own, those of a session are its own
pub all_own_entries : (n : ℕ) (journal : List Entry) → list_all is_own journal ≡ true → own_entries n journal ≡ of_session n journal
all_own_entries n journal own = filter_all is_own (of_session n journal) (all_in_filter is_own (λ e. e.session == n) journal own)

-- ---- scripts without SUBMITs

-- no command submits anything
abbrev pub submit_nothing : List Command → Bool
submit_nothing cs = list_all (λ c. not (is_submit c)) cs

accepted_none : (session : ℕ) (kept : Bool) (n : ℕ) (cs : List Command) → submit_nothing cs ≡ true → accepted_from session kept (enumerate_from n cs) ≡ []
accepted_none session kept n [] h = refl
accepted_none session kept n (commands.Block b ∷ cs) h = accepted_none session kept (n + 1) cs h
accepted_none session kept n (commands.Other x ∷ cs) h = accepted_none session (kept_after kept (commands.Other x)) (n + 1) cs h
accepted_none session kept n (commands.Submit x ∷ cs) h = absurd (cc)

all_accepted_none : (ss : List Section) → list_all (λ s. submit_nothing s.commands) ss ≡ true → flat_map accepted_in ss ≡ []
all_accepted_none [] h = refl
all_accepted_none (s ∷ ss) h =
    let parts = and_parts (submit_nothing s.commands) (list_all (λ x. submit_nothing x.commands) ss) h in
    ap (λ ids. ids ++ flat_map accepted_in ss) (accepted_none s.session false 1 s.commands parts.0) ∙ all_accepted_none ss parts.1

-- a script without SUBMITs has none that is accepted
pub accepts_nothing : (script : Script) → list_all (λ s. submit_nothing s.commands) script.sections ≡ true → accepted_submits script ≡ []
accepts_nothing script h = all_accepted_none script.sections h

-- ---- scripts without accepted SUBMITs

none_pass : (es : List Entry) → filter (λ e. false) es ≡ []
none_pass [] = refl
none_pass (e ∷ es) = none_pass es

-- the script's own order is that of its sessions' turns
pub order_without_jobs : (script : Script) → accepted_submits script ≡ [] → order_of script ≡ own_turns script
order_without_jobs script none =
    let own : List Entry = own_turns script in
    let with_jobs : List Id → List Entry = λ ids. own ++ flat_map closed (filter (λ e. list_any (λ id. is_of id e) ids) own) in
    ap with_jobs none ∙ (ap (λ es. own ++ flat_map closed es) (none_pass own) ∙ append-nil own)

-- a journal whose entries are own asks nothing of jobs
pub own_is_legal : (script : Script) (journal : List Entry) → accepted_submits script ≡ [] → list_all is_own journal ≡ true → jobs_are_legal script journal ≡ true
own_is_legal script journal none own =
    let others : List Entry = filter (λ e. not (e.worker == closer)) journal in
    let turns : Entry → Bool = λ e. is_own e || take_turns (by_worker journal e.worker) in
    let last : Bool = same_entries journal (others ++ by_worker journal closer) in
    let for_none : list_all (is_for []) journal ≡ true = all_weaker is_own (is_for []) (λ e h. or_left (is_own e) false h) journal own in
    let of_script : list_all (is_worker_of script) journal ≡ true =
    all_weaker is_own (is_worker_of script) (λ e h. or_left (nat_le e.worker script.workers) (e.worker == closer) (subst (λ n. nat_le n script.workers ≡ true) (sym (no_worker e h)) (le-leb 0 script.workers (omega arith)))) journal own in
    let in_turns : list_all turns journal ≡ true = all_weaker is_own turns (λ e h. or_left (is_own e) (take_turns (by_worker journal e.worker)) h) journal own in
    let not_closer : list_all (λ e. not (e.worker == closer)) journal ≡ true =
    all_weaker is_own (λ e. not (e.worker == closer)) (λ e h. subst (λ n. not (n == closer) ≡ true) (sym (no_worker e h)) refl) journal own in
    let whole : others ++ by_worker journal closer ≡ journal =
    ap (λ es. es ++ by_worker journal closer) (filter_all (λ e. not (e.worker == closer)) journal not_closer)
    ∙ (ap (λ es. journal ++ es) (filter_none (λ e. e.worker == closer) journal not_closer) ∙ append-nil journal) in
    let last_is : last ≡ true = subst (λ es. same_entries journal es ≡ true) (sym whole) (entries_themselves journal) in
    subst (λ ids. (list_all (is_done journal) ids && (list_all (is_for ids) journal && (list_all (is_worker_of script) journal && (list_all turns journal && last)))) ≡ true) (sym none)
    (and_from (list_all (is_for []) journal) (list_all (is_worker_of script) journal && (list_all turns journal && last)) for_none
    (and_from (list_all (is_worker_of script) journal) (list_all turns journal && last) of_script (and_from (list_all turns journal) last in_turns last_is)))

-- and in a legal journal all entries are own
pub legal_is_own : (script : Script) (journal : List Entry) → accepted_submits script ≡ [] → jobs_are_legal script journal ≡ true → list_all is_own journal ≡ true
legal_is_own script journal none legal =
    let accepted : List Id = accepted_submits script in
    let others : List Entry = filter (λ e. not (e.worker == closer)) journal in
    let turns : Entry → Bool = λ e. is_own e || take_turns (by_worker journal e.worker) in
    let more : Bool = list_all (is_worker_of script) journal && (list_all turns journal && same_entries journal (others ++ by_worker journal closer)) in
    let parts = and_parts (list_all (is_done journal) accepted) (list_all (is_for accepted) journal && more) legal in
    let for_them : list_all (is_for accepted) journal ≡ true = (and_parts (list_all (is_for accepted) journal) more parts.1).0 in
    all_weaker (is_for []) is_own (λ e h. by (is_own e) h) journal (subst (λ ids. list_all (is_for ids) journal ≡ true) none for_them)
  where
    by : (b : Bool) → (b || false) ≡ true → b ≡ true
    by true h = refl
    by false h = h
