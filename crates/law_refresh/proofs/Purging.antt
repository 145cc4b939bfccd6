-- A purge takes from a log what each view that is registered on the table has passed.
use Rattle.std.proofs.Common.{◌≡◌, ◌∙◌, sym, ap, refl, subst, arith, ℕ, ◌+◌, ◌<◌, ◌≤◌, Bool, true, false, cond, not, List, [], ◌∷◌, ◌++◌, map, Option, None, Some, inl, inr, nat_lt, ◌&&◌, true≢false}
use Rattle.std.proofs.lemmas.Option.{none-some, same_Some}
use Rattle.std.specs.List.{All, cons_option, enumerate_from, filter, filter_map}
use Rattle.std.specs.Option.{ForSome}
use Rattle.std.specs.Prelude.{max, flat_map}
use Rattle.std.proofs.lemmas.Bool.{and_from, lt-ltb, ltb-true, ltb-false, not-true}
use Rattle.std.proofs.lemmas.List.Elements.{filter-append}
use Rattle.std.proofs.lemmas.List.Concat.{flat_map-append}
use Rattle.wh_base.specs.Lists.{least_of, where_true}
use Rattle.wh_base.specs.declared.logs.LogFacts.{LogFacts}
use Rattle.wh_base.specs.declared.logs.LogRow.{LogRow}
use Rattle.wh_base.specs.declared.statements.Event.{Event}
use Rattle.def_history.specs.Catalog.{Catalog, Log, Noted, View, log_of}
use Rattle.def_history.specs.History.{noted_changes}
use Rattle.def_history.specs.Logs.{is_over, log_history, log_rows, purge_point, purged_log, registered_points, sequenced, sides_of}
use Rattle.def_journal.specs.Journal.{state_after, state_of}
use Rattle.def_journal.specs.State.{State}
use Rattle.law_delta.proofs.Applying.{filter_within}
use Rattle.law_lists.proofs.Each.{Each-passes}
use Rattle.law_refresh.proofs.History.{is_since, up_to_now}
use Rattle.law_refresh.proofs.Logging.{Left, move_left}
use Rattle.law_refresh.specs.Logged.{HasPassed, IsPurged}
use Rattle.law_trace.proofs.Growing.{Grows, changes_bounded, reached, trace_grows}
use Rattle.law_trace.proofs.Listed.{Each, all_from, each_filter, each_two, each_weaker}
use Rattle.law_trace.proofs.Stepping.{moves}
use Rattle.law_trace.proofs.Traces.{state_push}
use Rattle.law_trace.specs.Reached.{catalog_of}

-- ---- the least point

least_low : (n : ℕ) (ms : List ℕ) → (least_of n ms ≤ n) × Each (λ m. least_of n ms ≤ m) ms
least_low n [] = (omega arith, tt)
least_low n (m ∷ ms) = by (nat_lt m n) refl (λ k. least_low k ms)
  where
    by : (b : Bool) → nat_lt m n ≡ b → ((k : ℕ) → (least_of k ms ≤ k) × Each (λ m. least_of k ms ≤ m) ms) → (least_of (cond b m n) ms ≤ n) × ((least_of (cond b m n) ms ≤ m) × Each (λ k. least_of (cond b m n) ms ≤ k) ms)
    by true e low = (omega (arith, (low m).0, ltb-true m n e), ((low m).0, (low m).1))
    by false e low = ((low n).0, (omega (arith, (low n).0, ltb-false m n e), (low n).1))

abbrev pub least_point : ℕ → List ℕ → ℕ
least_point scn [] = scn
least_point scn (p ∷ ps) = least_of p ps

pub purge_point_is : (c : Catalog) (table : ℕ) → purge_point c table ≡ least_point c.scn (registered_points c table)
purge_point_is c table = refl

least_each : (scn : ℕ) (ps : List ℕ) → Each (λ p. least_point scn ps ≤ p) ps
least_each scn [] = tt
least_each scn (p ∷ ps) = least_low p ps

pub least_within : (scn : ℕ) (ps : List ℕ) → Each (λ p. p ≤ scn) ps → least_point scn ps ≤ scn
least_within scn [] h = omega arith
least_within scn (p ∷ ps) h = omega (arith, (least_low p ps).0, h.0)

-- what is at most each point of these views
points_of : (k : ℕ) (P : View → Bool) (vs : List View) → Each (λ p. k ≤ p) (filter_map (λ v. v.point) (filter P vs)) → Each (λ v. P v ≡ true → ForSome v.point (λ p. k ≤ p)) vs
points_of k P [] h = tt
points_of k P (v ∷ vs) h = by (P v) refl h (points_of k P vs)
  where
    one : (o : Option ℕ) (rest : List ℕ) → Each (λ p. k ≤ p) (cons_option o rest) → ForSome o (λ p. k ≤ p) × Each (λ p. k ≤ p) rest
    one None rest h = (λ p e. absurd (none-some p e), h)
    one (Some p) rest h = (λ q e. let same : p ≡ q = same_Some p q e in omega (arith, h.0), h.1)

    by : (b : Bool) → P v ≡ b → Each (λ p. k ≤ p) (filter_map (λ (w : View). w.point) (cond b (v ∷ filter P vs) (filter P vs)))
        → (Each (λ p. k ≤ p) (filter_map (λ (w : View). w.point) (filter P vs)) → Each (λ v. P v ≡ true → ForSome v.point (λ p. k ≤ p)) vs)
        → (P v ≡ true → ForSome v.point (λ p. k ≤ p)) × Each (λ v. P v ≡ true → ForSome v.point (λ p. k ≤ p)) vs
    by true e h more = let both : ForSome v.point (λ p. k ≤ p) × Each (λ p. k ≤ p) (filter_map (λ (w : View). w.point) (filter P vs)) = one v.point (filter_map (λ (w : View). w.point) (filter P vs)) h in (λ is. both.0, more both.1)
    by false e h more = (λ is. absurd (true≢false (sym is ∙ e)), more h)

-- each view that is registered on the table has passed the purge point
views_passed : (c : Catalog) (table : ℕ) → Each (λ v. (v.registered && is_over table v) ≡ true → ForSome v.point (λ p. purge_point c table ≤ p)) c.views
views_passed c table = points_of (purge_point c table) (λ v. v.registered && is_over table v) c.views (least_each c.scn (registered_points c table))

-- ---- the rows of a log later

numbered : LogFacts → ℕ → List LogRow → List LogRow
numbered f start rows = map (λ (p : ℕ × LogRow). record p.1 { seq = where_true f.sequence p.0 }) (enumerate_from start rows)

numbered_more : (f : LogFacts) (start : ℕ) (xs ys : List LogRow) → (more : List LogRow) × (numbered f start (xs ++ ys) ≡ numbered f start xs ++ more)
unfolding numbered
numbered_more f start [] ys = (numbered f start ys, refl)
numbered_more f start (x ∷ xs) ys =
    let rest : (more : List LogRow) × (numbered f (start + 1) (xs ++ ys) ≡ numbered f (start + 1) xs ++ more) = numbered_more f (start + 1) xs ys in
    (rest.0, ap (λ rows. record x { seq = where_true f.sequence start } ∷ rows) rest.1)

history_more : (c d : Catalog) (l : Log) → (news : List Noted) → Each (λ n. n.scn ≤ c.scn) c.changes → Each (λ n. n.scn ≤ d.scn) d.changes → d.changes ≡ c.changes ++ news
    → (more : List LogRow) × (log_history d l ≡ log_history c l ++ more)
unfolding numbered
history_more c d l news low high grown =
    let now : noted_changes d l.table l.born d.scn ≡ noted_changes c l.table l.born c.scn ++ filter (is_since l.table l.born) news =
    up_to_now l.table l.born d.scn d.changes high
    ∙ ap (filter (is_since l.table l.born)) grown
    ∙ filter-append (is_since l.table l.born) c.changes news
    ∙ ap (λ ns. ns ++ filter (is_since l.table l.born) news) (sym (up_to_now l.table l.born c.scn c.changes low)) in
    let before : List LogRow = flat_map (sides_of l.facts) (noted_changes c l.table l.born c.scn) in
    let after : List LogRow = flat_map (sides_of l.facts) (filter (is_since l.table l.born) news) in
    let rest : (more : List LogRow) × (numbered l.facts 1 (before ++ after) ≡ numbered l.facts 1 before ++ more) = numbered_more l.facts 1 before after in
    (rest.0, ap (λ ns. sequenced l.facts (flat_map (sides_of l.facts) ns)) now ∙ ap (sequenced l.facts) (flat_map-append (sides_of l.facts) (noted_changes c l.table l.born c.scn) (filter (is_since l.table l.born) news)) ∙ rest.1)

-- another purge point leaves the rows that the log ever had
purged_history : (d : Catalog) (l : Log) (from : ℕ) → log_history d (record l { facts = record l.facts { from = from } }) ≡ log_history d l
purged_history d l from = refl

-- the rows that a log holds later
rows_more : (c d : Catalog) (l m : Log) → (hist : List LogRow) × (log_history d m ≡ log_history c l ++ hist) → l.facts.from ≤ m.facts.from
    → (more : List LogRow) × (log_rows d m ≡ filter (λ r. nat_lt m.facts.from r.scn) (log_rows c l) ++ more)
rows_more c d l m h low = (
  filter (λ r. nat_lt m.facts.from r.scn) h.0,
  ap (filter (λ r. nat_lt m.facts.from r.scn)) h.1
      ∙ filter-append (λ r. nat_lt m.facts.from r.scn) (log_history c l) h.0
      ∙ ap (λ rows. rows ++ filter (λ r. nat_lt m.facts.from r.scn) h.0)
      (sym (filter_within (λ (r : LogRow). nat_lt m.facts.from r.scn) (λ r. nat_lt l.facts.from r.scn)
      (λ r e. lt-ltb l.facts.from r.scn (omega (arith, ltb-true m.facts.from r.scn e))) (log_history c l))),
)

-- the rows that go
gone_between : (c : Catalog) (l : Log) (to : ℕ) → Each (λ r. (l.facts.from < r.scn) × (r.scn ≤ to)) (filter (λ r. not (nat_lt to r.scn)) (log_rows c l))
gone_between c l to =
    each_weaker (λ r. (nat_lt l.facts.from r.scn ≡ true) × (not (nat_lt to r.scn) ≡ true)) (λ r. (l.facts.from < r.scn) × (r.scn ≤ to))
    (λ r both. (ltb-true l.facts.from r.scn both.0, ltb-false to r.scn (not-true (nat_lt to r.scn) both.1)))
    (filter (λ r. not (nat_lt to r.scn)) (log_rows c l))
    (each_two (λ r. nat_lt l.facts.from r.scn ≡ true) (λ r. not (nat_lt to r.scn) ≡ true) (filter (λ r. not (nat_lt to r.scn)) (log_rows c l))
    (each_filter (λ r. nat_lt l.facts.from r.scn ≡ true) (λ r. not (nat_lt to r.scn)) (log_rows c l) (Each-passes (λ r. nat_lt l.facts.from r.scn) (log_history c l)))
    (Each-passes (λ r. not (nat_lt to r.scn)) (log_rows c l)))

gone_passed : (c : Catalog) (l : Log) (to : ℕ) → to ≤ max l.facts.from (purge_point c l.table)
    → Each (λ v. v.registered ≡ true → is_over l.table v ≡ true → HasPassed (filter (λ r. not (nat_lt to r.scn)) (log_rows c l)) v) c.views
gone_passed c l to low =
    each_weaker (λ v. (v.registered && is_over l.table v) ≡ true → ForSome v.point (λ p. purge_point c l.table ≤ p))
    (λ v. v.registered ≡ true → is_over l.table v ≡ true → HasPassed (filter (λ r. not (nat_lt to r.scn)) (log_rows c l)) v)
    (λ v h registered over p e.
    let passed : purge_point c l.table ≤ p = h (and_from v.registered (is_over l.table v) registered over) p e in
    all_from (λ r. r.scn ≤ p) (filter (λ r. not (nat_lt to r.scn)) (log_rows c l))
    (each_weaker (λ r. (l.facts.from < r.scn) × (r.scn ≤ to)) (λ r. r.scn ≤ p) (λ r b. omega (arith, b.0, b.1)) (filter (λ r. not (nat_lt to r.scn)) (log_rows c l)) (gone_between c l to)))
    c.views (views_passed c l.table)

left_purged : (c d : Catalog) (l m : Log) (news : List Noted) → Each (λ n. n.scn ≤ c.scn) c.changes → Each (λ n. n.scn ≤ d.scn) d.changes → d.changes ≡ c.changes ++ news → Left c l m → IsPurged c d l m
left_purged c d l m news low high grown left =
    let more : (rest : List LogRow) × (log_history d l ≡ log_history c l ++ rest) = history_more c d l news low high grown in
    by left more
  where
    all : (to : ℕ) → to ≤ max l.facts.from (purge_point c l.table) → All (λ v. v.registered ≡ true → is_over l.table v ≡ true → HasPassed (filter (λ r. not (nat_lt to r.scn)) (log_rows c l)) v) c.views
    all to low = all_from (λ v. v.registered ≡ true → is_over l.table v ≡ true → HasPassed (filter (λ r. not (nat_lt to r.scn)) (log_rows c l)) v) c.views (gone_passed c l to low)

    at : (m : Log) → (rest : List LogRow) × (log_history d m ≡ log_history c l ++ rest) → l.facts.from ≤ m.facts.from → m.facts.from ≤ max l.facts.from (purge_point c l.table) → IsPurged c d l m
    at m more above below =
        let rows : (rest : List LogRow) × (log_rows d m ≡ filter (λ r. nat_lt m.facts.from r.scn) (log_rows c l) ++ rest) = rows_more c d l m more above in
        record { more = rows.0; rows = rows.1; passed = all m.facts.from below }

    by : Left c l m → (rest : List LogRow) × (log_history d l ≡ log_history c l ++ rest) → IsPurged c d l m
    by (inl is) more = subst (IsPurged c d l) (sym is) (at l more (omega arith) (omega arith))
    by (inr is) more = subst (IsPurged c d l) (sym is) (at (purged_log c l) (more.0, purged_history d l (max l.facts.from (purge_point c l.table)) ∙ more.1) (omega arith) (omega arith))

pub purged : (trace : List Event) (e : Event) (table : ℕ) (l m : Log) → log_of (catalog_of trace) table ≡ Some l → log_of (catalog_of (trace ++ e ∷ [])) table ≡ Some m
    → IsPurged (catalog_of trace) (catalog_of (trace ++ e ∷ [])) l m
purged trace e table l m was is =
    let c : Catalog = catalog_of trace in
    let d : Catalog = catalog_of (trace ++ e ∷ []) in
    let next : d ≡ (state_after (state_of trace) e).catalog = ap (λ (s : State). s.catalog) (state_push trace e) in
    let grows : Grows c d = trace_grows trace (e ∷ []) in
    left_purged c d l m grows.news (changes_bounded c (reached trace)) (changes_bounded d (reached (trace ++ e ∷ []))) grows.changes
    (move_left (state_of trace) e (state_after (state_of trace) e).catalog (moves (state_of trace) e).catalog table l m was (ap (λ d. log_of d table) (sym next) ∙ is))
