-- The logs of every trace are of tables and columns that are there; and the views that are registered have a point.
use Rattle.std.proofs.Common.{◌≡◌, ◌∙◌, sym, ap, refl, subst, arith, ℕ, zero, suc, ◌<◌, ◌≤◌, Bool, true, false, cond, not, List, [], ◌∷◌, ◌++◌, length, map, Option, None, Some, ◌==◌, ◌+◌, ◌&&◌, true≢false}
use Rattle.std.specs.List.{cons_option, filter, filter_map}
use Rattle.std.specs.Option.{ForSome}
use Rattle.std.specs.Prelude.{is_some}
use Rattle.std.proofs.lemmas.List.{length-append, length-map}
use Rattle.wh_base.specs.Lists.{same_text, where_true}
use Rattle.wh_base.specs.Tables.{column_number, def_at}
use Rattle.wh_base.specs.declared.statements.Event.{Event}
use Rattle.wh_base.specs.declared.statements.NewView.{NewView}
use Rattle.wh_base.specs.declared.tables.TableDef.{TableDef}
use Rattle.law_trace.proofs.Defining.{def_still}
use Rattle.def_history.specs.Catalog.{Catalog, Log, View, base_now, defs_now, log_of}
use Rattle.def_history.specs.Logs.{is_over, purge_point, purged_log, registered_points}
use Rattle.def_journal.specs.Committing.{after_block}
use Rattle.def_journal.specs.Journal.{state_after, state_of}
use Rattle.def_journal.specs.Refreshing.{change_view, refreshed_to}
use Rattle.def_journal.specs.State.{State}
use Rattle.def_journal.specs.Statements.{new_log}
use Rattle.law_refresh.proofs.Logging.{dues_logs, installed_logs}
use Rattle.law_refresh.proofs.Purging.{purged, least_within}
use Rattle.law_refresh.specs.Logged.{IsLog, LogLaws}
use Rattle.law_trace.proofs.Due.{KeepsDue, dues_keep, installs_keep, suspended}
use Rattle.law_trace.proofs.Growing.{trace_grows}
use Rattle.law_trace.proofs.Listed.{Each, all_from, each_append, each_every, each_filter, each_found, each_map, each_weaker}
use Rattle.law_trace.proofs.Moves.{Adds, Alters, Born, Commits, Creates, Declares, Drops, Forgets, Gone, Installs, Logs, MakesLogs, Move, Purged, Purges, PurgesLogs, Stays, MakesView, Over, Plain, Switches, Withdraws}
use Rattle.law_trace.proofs.Pointing.{trace_pointed}
use Rattle.law_trace.proofs.Stepping.{moves, within_places}
use Rattle.law_trace.proofs.Tabling.{table_laws}
use Rattle.law_trace.proofs.Traces.{by_events, state_push}
use Rattle.law_trace.specs.Reached.{catalog_of, still, stills}

-- ---- views

abbrev IsBuilt : View → Type 0
IsBuilt v = v.registered ≡ true → is_some v.point ≡ true

abbrev AllBuilt : Catalog → Type 0
AllBuilt c = Each IsBuilt c.views

built_changed : (c : Catalog) (n : ℕ) (f : View → View) → ((v : View) → IsBuilt v → IsBuilt (f v)) → AllBuilt c → AllBuilt (change_view n f c)
built_changed c n f keeps h = each_map IsBuilt IsBuilt (λ v. cond (v.def.view == n) (f v) v) (λ v. by v (v.def.view == n)) c.views h
  where
    by : (v : View) (b : Bool) → IsBuilt v → IsBuilt (cond b (f v) v)
    by v true at = keeps v at
    by v false at = at

due_built : KeepsDue AllBuilt
due_built = record { suspends = λ d n h. built_changed d n suspended (λ v at. at) h; refreshes = λ d n h. built_changed d n (refreshed_to d.scn) (λ v at is. refl) h }

new_built : (b : Bool) (scn : ℕ) → b ≡ true → is_some (where_true b scn) ≡ true
new_built true scn e = refl
new_built false scn e = absurd (true≢false (sym e))

nested_built : (c : Catalog) (v : NewView) (w : View) → MakesView c v w → IsBuilt w
nested_built c v w (Plain q star is) = subst IsBuilt (sym is) (new_built (not v.deferred) c.scn)
nested_built c v w (Over u q beneath star built is) = subst IsBuilt (sym is) (λ e. absurd (true≢false (sym e)))

move_built : (s : State) (x : Event) (d : Catalog) → Move s x d → AllBuilt s.catalog → AllBuilt d
move_built s x d (Stays is) h = subst AllBuilt (sym is) h
move_built s x d (Commits p ss same block is) h = subst AllBuilt (sym is) (dues_keep AllBuilt due_built (after_block s.catalog p) p.changes h)
move_built s x d (Creates t new fits is) h = subst AllBuilt (sym is) h
move_built s x d (Alters n a same change form cut is) h = subst AllBuilt (sym is) h
move_built s x d (Logs logs made is) h = subst AllBuilt (sym is) h
move_built s x d (Purges logs purge is) h = subst AllBuilt (sym is) h
move_built s x d (Forgets oldest more undo is) h = subst AllBuilt (sym is) h
move_built s x d (Adds v w new star is) h = subst AllBuilt (sym is) (each_append IsBuilt s.catalog.views (w ∷ []) h (nested_built s.catalog v w star, tt))
move_built s x d (Switches n f keeps is) h = subst AllBuilt (sym is) (built_changed s.catalog n f (λ v at is. ap is_some (keeps.point v) ∙ at (keeps.registered v is)) h)
move_built s x d (Installs b ps begun takes is) h = subst AllBuilt (sym is) (installs_keep AllBuilt (λ p. Unit {0}) (λ c p q h. built_changed c p.0 (refreshed_to p.1) (λ v at is. refl) h) s.catalog ps (each_every (λ p. Unit {0}) (λ p. tt) ps) h)
move_built s x d (Drops n free is) h = subst AllBuilt (sym is) (each_filter IsBuilt (λ w. not (w.def.view == n)) s.catalog.views h)
move_built s x d (Declares a new is) h = subst AllBuilt (sym is) h
move_built s x d (Withdraws name is) h = subst AllBuilt (sym is) h

trace_built : (trace : List Event) → AllBuilt (catalog_of trace)
trace_built = by_events (λ trace. AllBuilt (catalog_of trace)) tt step
  where
    step : (front : List Event) (e : Event) → AllBuilt (catalog_of front) → AllBuilt (catalog_of (front ++ e ∷ []))
    step front e h = subst (λ (s : State). AllBuilt s.catalog) (sym (state_push front e)) (move_built (state_of front) e (state_after (state_of front) e).catalog (moves (state_of front) e).catalog h)

-- ---- logs

pub def_later : (defs more : List TableDef) (n : ℕ) → n < length defs → def_at (defs ++ more) n ≡ def_at defs n
def_later [] more n low = absurd (omega arith)
def_later (d ∷ defs) more zero low = refl
def_later (d ∷ defs) more (suc n) low = def_later defs more n (omega arith)

-- the same as IsLog, by recursion
abbrev pub Fit : ℕ → List TableDef → Log → Type 0
Fit scn defs l = (l.born ≤ l.facts.from) × (l.facts.from ≤ scn) × (l.table < length defs) × Each (λ n. n < length (def_at defs l.table).columns) l.facts.columns

fit_later : (scn top : ℕ) (defs more : List TableDef) → scn ≤ top → (l : Log) → Fit scn defs l → Fit top (defs ++ more) l
fit_later scn top defs more low l h =
    let all : length (defs ++ more) ≡ length defs + length more = length-append defs more in
    (h.0, omega (arith, h.1), omega (arith, h.2), subst (λ (d : TableDef). Each (λ n. n < length d.columns) l.facts.columns) (sym (def_later defs more l.table h.2)) h.3)

abbrev AllFit : Catalog → Type 0
AllFit c = Each (Fit c.scn (stills c)) c.logs

places_fit : (d : TableDef) (names : List (List ℕ)) → Each (λ n. n < length d.columns) (filter_map (column_number d) names)
places_fit d [] = tt
places_fit d (name ∷ names) = by (column_number d name) refl (places_fit d names)
  where
    by : (o : Option ℕ) → column_number d name ≡ o → Each (λ n. n < length d.columns) (filter_map (column_number d) names) → Each (λ n. n < length d.columns) (cons_option o (filter_map (column_number d) names))
    by None e h = h
    by (Some n) e h = (within_places (λ c. same_text c.name name) d.columns n e, h)

made_fit : (c : Catalog) (logs : List Log) → length (stills c) ≡ length (base_now c) → MakesLogs c logs → AllFit c → Each (Fit (suc c.scn) (stills c)) logs
made_fit c logs many (Born n a there none made) h =
    let weaker : Each (Fit (suc c.scn) (stills c)) c.logs = each_weaker (Fit c.scn (stills c)) (Fit (suc c.scn) (stills c)) (λ l f. (f.0, omega (arith, f.1), f.2, f.3)) c.logs h in
    subst (Each (Fit (suc c.scn) (stills c))) (sym made)
    (each_append (Fit (suc c.scn) (stills c)) c.logs (new_log c n (def_at (defs_now c) n) a ∷ []) weaker
    ((omega arith, omega arith, omega arith, subst (λ (d : TableDef). Each (λ n. n < length d.columns) (filter_map (column_number (def_at (defs_now c) n)) a.columns)) (sym (def_still (defs_now c) n)) (places_fit (def_at (defs_now c) n) a.columns)), tt))
made_fit c logs many (Gone n made) h =
    let weaker : Each (Fit (suc c.scn) (stills c)) c.logs = each_weaker (Fit c.scn (stills c)) (Fit (suc c.scn) (stills c)) (λ l f. (f.0, omega (arith, f.1), f.2, f.3)) c.logs h in
    subst (Each (Fit (suc c.scn) (stills c))) (sym made) (each_filter (Fit (suc c.scn) (stills c)) (λ k. not (k.table == n)) c.logs weaker)

points_within : (scn : ℕ) (P : View → Bool) (vs : List View) → Each (λ v. ForSome v.point (λ p. p ≤ scn)) vs → Each (λ p. p ≤ scn) (filter_map (λ v. v.point) (filter P vs))
points_within scn P [] h = tt
points_within scn P (v ∷ vs) h = by (P v) (points_within scn P vs h.1)
  where
    one : (o : Option ℕ) (rest : List ℕ) → ForSome o (λ p. p ≤ scn) → Each (λ p. p ≤ scn) rest → Each (λ p. p ≤ scn) (cons_option o rest)
    one None rest f k = k
    one (Some p) rest f k = (f p refl, k)

    by : (b : Bool) → Each (λ p. p ≤ scn) (filter_map (λ (w : View). w.point) (filter P vs)) → Each (λ p. p ≤ scn) (filter_map (λ (w : View). w.point) (cond b (v ∷ filter P vs) (filter P vs)))
    by true k = one v.point (filter_map (λ (w : View). w.point) (filter P vs)) h.0 k
    by false k = k

purge_low : (c : Catalog) (table : ℕ) → Each (λ v. ForSome v.point (λ p. p ≤ c.scn)) c.views → purge_point c table ≤ c.scn
purge_low c table h = least_within c.scn (registered_points c table) (points_within c.scn (λ v. v.registered && is_over table v) c.views h)

purge_fit : (c : Catalog) (logs : List Log) → Each (λ v. ForSome v.point (λ p. p ≤ c.scn)) c.views → PurgesLogs c logs → AllFit c → Each (Fit c.scn (stills c)) logs
purge_fit c logs pointed (Purged n k found made) h =
    let fit : Fit c.scn (stills c) k = each_found (Fit c.scn (stills c)) (λ l. l.table == n) c.logs k h found in
    let low : purge_point c k.table ≤ c.scn = purge_low c k.table pointed in
    subst (Each (Fit c.scn (stills c))) (sym made)
    (each_map (Fit c.scn (stills c)) (Fit c.scn (stills c)) (λ l. cond (l.table == k.table) (purged_log c k) l)
    (λ l own. by (l.table == k.table) l own (omega (arith, fit.0), omega (arith, fit.1), fit.2, fit.3)) c.logs h)
  where
    by : (b : Bool) (l : Log) → Fit c.scn (stills c) l → Fit c.scn (stills c) (purged_log c k) → Fit c.scn (stills c) (cond b (purged_log c k) l)
    by true l own new = new
    by false l own new = own

-- the same logs, later
same_fit : (c d : Catalog) → c.scn ≤ d.scn → d.logs ≡ c.logs → (more : List TableDef) → stills d ≡ stills c ++ more → AllFit c → AllFit d
same_fit c d scn logs more defs h =
    subst (λ ds. Each (Fit d.scn ds) d.logs) (sym defs) (subst (Each (Fit d.scn (stills c ++ more))) (sym logs) (each_weaker (Fit c.scn (stills c)) (Fit d.scn (stills c ++ more)) (fit_later c.scn d.scn (stills c) more scn) c.logs h))

own_fit : (d : Catalog) (scn : ℕ) (defs : List TableDef) → scn ≤ d.scn → (more : List TableDef) → stills d ≡ defs ++ more → Each (Fit scn defs) d.logs → AllFit d
own_fit d scn defs low more same h = subst (λ ds. Each (Fit d.scn ds) d.logs) (sym same) (each_weaker (Fit scn defs) (Fit d.scn (defs ++ more)) (fit_later scn d.scn defs more low) d.logs h)

move_fit : (s : State) (x : Event) (d : Catalog) → s.catalog.scn ≤ d.scn → (more : List TableDef) → stills d ≡ stills s.catalog ++ more → Each (λ v. ForSome v.point (λ p. p ≤ s.catalog.scn)) s.catalog.views → Move s x d → AllFit s.catalog → AllFit d
move_fit s x d scn more defs pointed (Stays is) h = same_fit s.catalog d scn (ap (λ (c : Catalog). c.logs) is) more defs h
move_fit s x d scn more defs pointed (Commits p ss same block is) h = same_fit s.catalog d scn (ap (λ (c : Catalog). c.logs) is ∙ dues_logs s.catalog p) more defs h
move_fit s x d scn more defs pointed (Creates t new fits is) h = same_fit s.catalog d scn (ap (λ (c : Catalog). c.logs) is) more defs h
move_fit s x d scn more defs pointed (Alters n a same change form cut is) h = same_fit s.catalog d scn (ap (λ (c : Catalog). c.logs) is) more defs h
move_fit s x d scn more defs pointed (Logs logs made is) h =
    let high : d.scn ≡ suc s.catalog.scn = ap (λ (c : Catalog). c.scn) is in
    own_fit d (suc s.catalog.scn) (stills s.catalog) (omega arith) more defs
    (subst (Each (Fit (suc s.catalog.scn) (stills s.catalog))) (sym (ap (λ (c : Catalog). c.logs) is)) (made_fit s.catalog logs (length-map (defs_now s.catalog) still ∙ length-map (base_now s.catalog) (λ t. t.def)) made h))
move_fit s x d scn more defs pointed (Purges logs purge is) h =
    own_fit d s.catalog.scn (stills s.catalog) scn more defs
    (subst (Each (Fit s.catalog.scn (stills s.catalog))) (sym (ap (λ (c : Catalog). c.logs) is)) (purge_fit s.catalog logs pointed purge h))
move_fit s x d scn more defs pointed (Forgets oldest past undo is) h = same_fit s.catalog d scn (ap (λ (c : Catalog). c.logs) is) more defs h
move_fit s x d scn more defs pointed (Adds v w new star is) h = same_fit s.catalog d scn (ap (λ (c : Catalog). c.logs) is) more defs h
move_fit s x d scn more defs pointed (Switches n f keeps is) h = same_fit s.catalog d scn (ap (λ (c : Catalog). c.logs) is) more defs h
move_fit s x d scn more defs pointed (Installs b ps begun takes is) h = same_fit s.catalog d scn (ap (λ (c : Catalog). c.logs) is ∙ installed_logs s.catalog ps) more defs h
move_fit s x d scn more defs pointed (Drops n free is) h = same_fit s.catalog d scn (ap (λ (c : Catalog). c.logs) is) more defs h
move_fit s x d scn more defs pointed (Declares a new is) h = same_fit s.catalog d scn (ap (λ (c : Catalog). c.logs) is) more defs h
move_fit s x d scn more defs pointed (Withdraws name is) h = same_fit s.catalog d scn (ap (λ (c : Catalog). c.logs) is) more defs h

pub trace_fit : (trace : List Event) → AllFit (catalog_of trace)
trace_fit = by_events (λ trace. AllFit (catalog_of trace)) tt step
  where
    step : (front : List Event) (e : Event) → AllFit (catalog_of front) → AllFit (catalog_of (front ++ e ∷ []))
    step front e h =
        let next : catalog_of (front ++ e ∷ []) ≡ (state_after (state_of front) e).catalog = ap (λ (s : State). s.catalog) (state_push front e) in
        let later : (more : List TableDef) × (stills (catalog_of (front ++ e ∷ [])) ≡ stills (catalog_of front) ++ more) = table_laws.grown front (e ∷ []) in
        let scn : (catalog_of front).scn ≤ (catalog_of (front ++ e ∷ [])).scn = (trace_grows front (e ∷ [])).scn in
        subst AllFit (sym next)
        (move_fit (state_of front) e (state_after (state_of front) e).catalog (subst (λ (d : Catalog). (catalog_of front).scn ≤ d.scn) next scn) later.0 (sym (ap (λ (d : Catalog). stills d) next) ∙ later.1)
        (trace_pointed front) (moves (state_of front) e).catalog h)

is_log : (scn : ℕ) (defs : List TableDef) (l : Log) → Fit scn (map still defs) l → IsLog scn defs l
is_log scn defs l h =
    let many : length (map still defs) ≡ length defs = length-map defs still in
    record {
      born = h.0;
      from = h.1;
      there = omega (arith, h.2);
      columns = all_from (λ n. n < length (def_at defs l.table).columns) l.facts.columns (subst (λ (d : TableDef). Each (λ n. n < length d.columns) l.facts.columns) (def_still defs l.table) h.3);
    }

pub log_laws : LogLaws
log_laws =
    record {
      logs = λ trace.
          let c : Catalog = catalog_of trace in
          all_from (IsLog c.scn (defs_now c)) c.logs (each_weaker (Fit c.scn (stills c)) (IsLog c.scn (defs_now c)) (is_log c.scn (defs_now c)) c.logs (trace_fit trace));
      purged = purged;
      built = λ trace. all_from IsBuilt (catalog_of trace).views (trace_built trace);
    }

-- a log that is found is such a log
pub log_fits : (trace : List Event) (table : ℕ) (l : Log) → log_of (catalog_of trace) table ≡ Some l → IsLog (catalog_of trace).scn (defs_now (catalog_of trace)) l
log_fits trace table l found =
    let c : Catalog = catalog_of trace in
    is_log c.scn (defs_now c) l (each_found (Fit c.scn (stills c)) (λ k. k.table == table) c.logs l (trace_fit trace) found)
