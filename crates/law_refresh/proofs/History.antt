-- In every trace, a table without maintenance after an SCN is what its changes since then make of what it was.
use Rattle.std.proofs.Common.{◌≡◌, ◌∙◌, sym, ap, refl, subst, arith, ℕ, suc, ◌≤◌, Bool, true, false, cond, List, [], ◌∷◌, ◌++◌, map, None, Some, nat_le, nat_lt, ◌==◌, ◌&&◌}
use Rattle.std.specs.List.{filter, find}
use Rattle.std.specs.Prelude.{Ok}
use Rattle.std.proofs.lemmas.Bool.{and_right, le-leb, leb-false, leb-true, lt-leb, lt-ltb}
use Rattle.std.proofs.lemmas.List.{append-nil, map-append}
use Rattle.std.proofs.lemmas.List.Elements.{filter-append}
use Rattle.wh_base.specs.Lists.{option_case}
use Rattle.wh_base.specs.Tables.{Base, Table, TableChange, table_at, with_table}
use Rattle.wh_base.specs.declared.statements.Event.{Event}
use Rattle.wh_base.specs.declared.statements.Statement.{Statement}
use Rattle.wh_base.specs.declared.tables.Change.{Change}
use Rattle.def_effect.specs.Block.{Progress, effect}
use Rattle.def_effect.specs.Define.{defined}
use Rattle.def_effect.specs.Partitions.{Altering, alter_part}
use Rattle.wh_base.specs.declared.statements.PartChange.{PartChange}
use Rattle.def_history.specs.Catalog.{Catalog, Noted, Touched, base_at, base_now, defs_now, empty_catalog}
use Rattle.def_history.specs.History.{changes_of, kept_versions, maintained, within}
use Rattle.def_journal.specs.Committing.{after_block, changes_in, commit_touches, do_dues, noted, part_touch}
use Rattle.def_journal.specs.Journal.{state_after, state_of}
use Rattle.def_journal.specs.State.{State, next_scn, with_base}
use Rattle.def_journal.specs.Statements.{altered}
use Rattle.law_refresh.proofs.Following.{block_followed, followed_none, followed_on}
use Rattle.law_refresh.specs.Followed.{Followed}
use Rattle.law_trace.proofs.Basing.{base_altered, base_committed, base_created}
use Rattle.law_trace.proofs.Growing.{SamePast, changes_bounded, dues_past, installed_past, reached, touches_bounded}
use Rattle.law_trace.proofs.Listed.{Each, each_append, each_left, each_made, each_right, each_weaker, filter_none}
use Rattle.law_trace.proofs.Moves.{Adds, Alters, Commits, Creates, Declares, Drops, Forgets, Installs, Logs, Move, Purges, Stays, Switches, Withdraws, installed}
use Rattle.law_trace.proofs.Rising.{Sound}
use Rattle.law_trace.proofs.Fitting.{trace_sound}
use Rattle.law_trace.proofs.Stepping.{moves}
use Rattle.law_trace.proofs.Tabling.{IsBounded, base_later, bounded_of, installed_base}
use Rattle.law_trace.proofs.Traces.{by_events, state_push}
use Rattle.law_trace.proofs.Untouched.{AsBefore, IsKept, alter_leaves, kept_of, more_length, more_rows, more_whole, unchanged}
use Rattle.law_trace.specs.Reached.{catalog_of, still_table}

-- the changes of a table after an SCN
abbrev pub is_since : ℕ → ℕ → Noted → Bool
is_since table q n = (n.table == table) && nat_lt q n.scn

abbrev of_noted : ℕ → ℕ → List Noted → List Change
of_noted table q ns = map (λ n. n.change) (filter (is_since table q) ns)

of_noted-append : (table q : ℕ) (ms ns : List Noted) → of_noted table q (ms ++ ns) ≡ of_noted table q ms ++ of_noted table q ns
of_noted-append table q ms ns = ap (map (λ n. n.change)) (filter-append (is_since table q) ms ns) ∙ map-append (λ n. n.change) (filter (is_since table q) ms) (filter (is_since table q) ns)

abbrev Follows : Catalog → Type 0
Follows c = Each (λ n. n.scn ≤ c.scn) c.changes × ((table q : ℕ) → Each (IsKept table q) c.touches → Followed table (base_at c q) (base_now c) (of_noted table q c.changes))

follows_same : (c d : Catalog) → c.scn ≤ d.scn → base_now d ≡ base_now c → d.past ≡ c.past → d.changes ≡ c.changes → d.touches ≡ c.touches → Follows c → Follows d
follows_same c d scn now past changes touches h = (
  subst (Each (λ n. n.scn ≤ d.scn)) (sym changes) (each_weaker (λ n. n.scn ≤ c.scn) (λ n. n.scn ≤ d.scn) (λ n low. omega arith) c.changes h.0),
  λ table q kept.
      let at : base_at d q ≡ base_at c q = ap (λ past. option_case (find (λ p. nat_le p.0 q) past) [] (λ p. p.1)) past in
      subst (λ ns. Followed table (base_at d q) (base_now d) (of_noted table q ns)) (sym changes)
      (subst (λ base. Followed table base (base_now d) (of_noted table q c.changes)) (sym at)
      (subst (λ base. Followed table (base_at c q) base (of_noted table q c.changes)) (sym now) (h.1 table q (subst (Each (IsKept table q)) touches kept)))),
)

none_since : (table q : ℕ) (ns : List Noted) → Each (λ n. n.scn ≤ q) ns → of_noted table q ns ≡ []
none_since table q ns h =
    ap (map (λ n. n.change)) (filter_none (is_since table q) ns
    (each_weaker (λ n. n.scn ≤ q) (λ n. is_since table q n ≡ false) (λ n low. and_right (n.table == table) (nat_lt q n.scn) (lt-leb (suc q) n.scn (omega arith))) ns h))

-- one base state more, at the next SCN
follows_based : (c d : Catalog) (base : Base) (news : List Noted) (touched : List Touched) → d.scn ≡ suc c.scn → d.past ≡ (suc c.scn, base) ∷ c.past → base_now d ≡ base
    → d.changes ≡ c.changes ++ news → Each (λ n. n.scn ≤ suc c.scn) news → d.touches ≡ c.touches ++ touched
    → ((table q : ℕ) → q ≤ c.scn → Each (IsKept table q) touched → Followed table (base_now c) base (of_noted table q news)) → Follows c → Follows d
follows_based c d base news touched scn past now changes recent touches step h =
    let all : Each (λ n. n.scn ≤ suc c.scn) (c.changes ++ news) =
    each_append (λ n. n.scn ≤ suc c.scn) c.changes news (each_weaker (λ n. n.scn ≤ c.scn) (λ n. n.scn ≤ suc c.scn) (λ n low. omega arith) c.changes h.0) recent in (
      subst (λ m. Each (λ n. n.scn ≤ m) d.changes) (sym scn) (subst (Each (λ n. n.scn ≤ suc c.scn)) (sym changes) all),
      λ table q kept.
          let also : Each (IsKept table q) (c.touches ++ touched) = subst (Each (IsKept table q)) touches kept in
          subst (λ ns. Followed table (base_at d q) (base_now d) (of_noted table q ns)) (sym changes)
          (subst (λ b. Followed table (base_at d q) b (of_noted table q (c.changes ++ news))) (sym now)
          (subst (λ past. Followed table (option_case (find (λ p. nat_le p.0 q) past) [] (λ p. p.1)) base (of_noted table q (c.changes ++ news))) (sym past) (by table q (nat_le (suc c.scn) q) refl all also))),
    )
  where
    by : (table q : ℕ) (b : Bool) → nat_le (suc c.scn) q ≡ b → Each (λ n. n.scn ≤ suc c.scn) (c.changes ++ news) → Each (IsKept table q) (c.touches ++ touched)
        → Followed table (option_case (cond b (Some (suc c.scn, base)) (find (λ p. nat_le p.0 q) c.past)) [] (λ p. p.1)) base (of_noted table q (c.changes ++ news))
    by table q true e all also =
        let high : suc c.scn ≤ q = leb-true (suc c.scn) q e in
        subst (Followed table base base) (sym (none_since table q (c.changes ++ news) (each_weaker (λ n. n.scn ≤ suc c.scn) (λ n. n.scn ≤ q) (λ n low. omega arith) (c.changes ++ news) all)))
        (followed_none table base)
    by table q false e all also =
        subst (Followed table (base_at c q) base) (sym (of_noted-append table q c.changes news))
        (followed_on table (base_at c q) (base_now c) base (of_noted table q c.changes) (of_noted table q news)
        (h.1 table q (each_left (IsKept table q) c.touches touched also))
        (step table q (omega (arith, leb-false (suc c.scn) q e)) (each_right (IsKept table q) c.touches touched also)))

-- ---- what each event leaves

news_of : (table q scn : ℕ) → q ≤ scn → (changes : List TableChange) → of_noted table q (map (noted (suc scn)) changes) ≡ changes_in changes table
news_of table q scn low [] = refl
news_of table q scn low (c ∷ changes) = all (c.table == table) (news_of table q scn low changes)
  where
    above : nat_lt q (suc scn) ≡ true
    above = lt-ltb q (suc scn) (omega arith)

    all : (b : Bool) → of_noted table q (map (noted (suc scn)) changes) ≡ changes_in changes table
        → map (λ (n : Noted). n.change) (cond (b && nat_lt q (suc scn)) (noted (suc scn) c ∷ filter (is_since table q) (map (noted (suc scn)) changes)) (filter (is_since table q) (map (noted (suc scn)) changes)))
        ≡ map (λ (c : TableChange). c.change) (cond b (c ∷ filter (λ (c : TableChange). c.table == table) changes) (filter (λ (c : TableChange). c.table == table) changes))
    all true h =
        ap (λ b. map (λ (n : Noted). n.change) (cond b (noted (suc scn) c ∷ filter (is_since table q) (map (noted (suc scn)) changes)) (filter (is_since table q) (map (noted (suc scn)) changes)))) above
        ∙ ap (λ cs. c.change ∷ cs) h
    all false h = h

commit_follows : (c : Catalog) (p : Progress) (ss : List Statement) → effect (base_now c) (kept_versions c) ss ≡ Ok p → Each Sound (base_now c) → Follows c → Follows (do_dues (after_block c p) p.changes).catalog
commit_follows c p ss same rises h =
    let d : Catalog = (do_dues (after_block c p) p.changes).catalog in
    let past : SamePast (after_block c p) d = dues_past c p in
    follows_based c d p.base (map (noted (suc c.scn)) p.changes) (commit_touches (suc c.scn) p.base p.changes) past.scn past.past (base_committed c p) past.changes
    (each_made (λ n. n.scn ≤ suc c.scn) (noted (suc c.scn)) (λ change. omega arith) p.changes) past.touches
    (λ table q low kept. subst (Followed table (base_now c) p.base) (sym (news_of table q c.scn low p.changes)) (block_followed table (base_now c) (kept_versions c) ss p same rises)) h

-- every form of ALTER TABLE but that of row movement is maintenance
alter_follows : (c : Catalog) (n : ℕ) (a : Altering) (change : PartChange) → alter_part (kept_versions c) (base_now c) n (table_at (base_now c) n) change ≡ Ok a → Follows c → Follows (altered c n a)
alter_follows c n a change cut h =
    follows_based c (altered c n a) (with_table (base_now c) n a.table) [] (map (part_touch (suc c.scn) n true) a.touched) refl refl (base_altered c n a) (sym (append-nil c.changes)) tt refl
    (λ table q low kept. by table (alter_leaves c n a change cut table q low kept)) h
  where
    by : (table : ℕ) → AsBefore table (base_now c) (with_table (base_now c) n a.table) → Followed table (base_now c) (with_table (base_now c) n a.table) []
    by table k = record { apply = tt; rows = sym k.rows; whole = λ there. sym (k.whole there) ∙ ap still_table (unchanged (table_at (base_now c) table)); grown = k.grown }

create_follows : (c : Catalog) (t : Table) → t.rows ≡ [] → Follows c → Follows (with_base c (base_now c ++ t ∷ []))
create_follows c t none h =
    follows_based c (with_base c (base_now c ++ t ∷ [])) (base_now c ++ t ∷ []) [] [] refl refl (base_created c (base_now c ++ t ∷ [])) (sym (append-nil c.changes)) tt (sym (append-nil c.touches))
    (λ table q low kept. record {
      apply = tt;
      rows = sym (more_rows (base_now c) table t none);
      whole = λ there. ap still_table (sym (more_whole (base_now c) table t there) ∙ unchanged (table_at (base_now c) table));
      grown = more_length (base_now c) t;
    }) h

move_follows : (s : State) (x : Event) (d : Catalog) → IsBounded s.catalog → Each Sound (base_now s.catalog) → Move s x d → Follows s.catalog → Follows d
move_follows s x d bounded rises (Stays is) h = subst Follows (sym is) h
move_follows s x d bounded rises (Commits p ss same block is) h = subst Follows (sym is) (commit_follows s.catalog p ss same rises h)
move_follows s x d bounded rises (Creates t new fits is) h = subst Follows (sym is) (create_follows s.catalog (defined (defs_now s.catalog) t) refl h)
move_follows s x d bounded rises (Alters n a same change form cut is) h = subst Follows (sym is) (alter_follows s.catalog n a change cut h)
move_follows s x d bounded rises (Logs logs made is) h =
    let later : Catalog = record (next_scn s.catalog) { logs = logs } in
    subst Follows (sym is) (follows_same s.catalog later (omega arith) (base_later s.catalog later refl (omega arith) bounded) refl refl refl h)
move_follows s x d bounded rises (Purges logs purge is) h = subst Follows (sym is) h
move_follows s x d bounded rises (Forgets oldest more undo is) h = subst Follows (sym is) h
move_follows s x d bounded rises (Adds v w new star is) h = subst Follows (sym is) h
move_follows s x d bounded rises (Switches n f keeps is) h = subst Follows (sym is) h
move_follows s x d bounded rises (Installs b ps begun takes is) h =
    let same : SamePast s.catalog (installed ps s.catalog) = installed_past s.catalog ps in
    subst Follows (sym is) (follows_same s.catalog (installed ps s.catalog) (omega (arith, same.scn)) (installed_base s.catalog ps) same.past same.changes same.touches h)
move_follows s x d bounded rises (Drops n free is) h = subst Follows (sym is) h
move_follows s x d bounded rises (Declares a new is) h = subst Follows (sym is) h
move_follows s x d bounded rises (Withdraws name is) h = subst Follows (sym is) h

follows_none : Follows empty_catalog
follows_none = (tt, λ table q kept. subst (λ base. Followed table base [] []) (sym (ap (λ b. option_case (cond b (Some (0, [])) None) [] (λ (p : ℕ × Base). p.1)) (le-leb 0 q (omega arith)))) (followed_none table []))

trace_follows : (trace : List Event) → Follows (catalog_of trace)
trace_follows = by_events (λ trace. Follows (catalog_of trace)) follows_none step
  where
    step : (front : List Event) (e : Event) → Follows (catalog_of front) → Follows (catalog_of (front ++ e ∷ []))
    step front e h =
        subst (λ (s : State). Follows s.catalog) (sym (state_push front e))
        (move_follows (state_of front) e (state_after (state_of front) e).catalog (bounded_of front) (trace_sound front) (moves (state_of front) e).catalog h)

-- ---- up to now

pub up_to_now : (table q top : ℕ) (ns : List Noted) → Each (λ n. n.scn ≤ top) ns → filter (λ n. (n.table == table) && within q top n.scn) ns ≡ filter (is_since table q) ns
up_to_now table q top [] h = refl
up_to_now table q top (n ∷ ns) h = by (n.table == table) (nat_lt q n.scn) (nat_le n.scn top) (le-leb n.scn top h.0) (up_to_now table q top ns h.1)
  where
    by : (a b c : Bool) → c ≡ true → filter (λ n. (n.table == table) && within q top n.scn) ns ≡ filter (is_since table q) ns
        → cond (a && (b && c)) (n ∷ filter (λ n. (n.table == table) && within q top n.scn) ns) (filter (λ n. (n.table == table) && within q top n.scn) ns) ≡ cond (a && b) (n ∷ filter (is_since table q) ns) (filter (is_since table q) ns)
    by true true c e h = ap (λ c. cond c (n ∷ filter (λ n. (n.table == table) && within q top n.scn) ns) (filter (λ n. (n.table == table) && within q top n.scn) ns)) e ∙ ap (λ rest. n ∷ rest) h
    by true false c e h = h
    by false b c e h = h

pub followed : (trace : List Event) (table q : ℕ) → maintained (catalog_of trace) table q (catalog_of trace).scn ≡ false
    → Followed table (base_at (catalog_of trace) q) (base_now (catalog_of trace)) (changes_of (catalog_of trace) table q (catalog_of trace).scn)
followed trace table q none =
    let c : Catalog = catalog_of trace in
    subst (Followed table (base_at c q) (base_now c)) (sym (ap (map (λ n. n.change)) (up_to_now table q c.scn c.changes (changes_bounded c (reached trace)))))
    ((trace_follows trace).1 table q (kept_of c table q (touches_bounded c (reached trace)) none))
