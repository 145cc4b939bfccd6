-- Each change that is noted is an insert or a removal, so a table of a view that has moved in neither way is as it was at the view's point.
use Rattle.std.proofs.Common.{◌≡◌, ◌∙◌, sym, ap, refl, subst, arith, ℕ, zero, suc, ◌<◌, ◌≤◌, Bool, true, false, true≢false, List, [], ◌∷◌, ◌++◌, ◌+◌, length, map, Some, nat_lt, ◌==◌, ◌&&◌, ◌||◌}
use Rattle.std.specs.List.{list_any}
use Rattle.std.specs.Prelude.{Ok, unwrap_or}
use Rattle.std.proofs.lemmas.Bool.{ltb-false, ltb-true, or_parts}
use Rattle.wh_base.specs.Tables.{Base, Row, Table, is_insert, is_removal, row_at, rows_after, table_after, table_at}
use Rattle.wh_base.specs.declared.statements.Event.{Event}
use Rattle.wh_base.specs.declared.statements.Statement.{Statement}
use Rattle.wh_base.specs.declared.tables.Change.{Change}
use Rattle.wh_base.specs.declared.tables.TableDef.{TableDef}
use Rattle.def_effect.specs.Block.{Progress, effect}
use Rattle.def_history.specs.Catalog.{Catalog, View, base_at, base_now}
use Rattle.def_history.specs.History.{changes_of, kept_versions, maintained, noted_changes, within}
use Rattle.def_history.specs.Staleness.{known, point_of}
use Rattle.def_journal.specs.Committing.{after_block, do_dues, noted}
use Rattle.def_journal.specs.Journal.{state_after, state_of}
use Rattle.def_journal.specs.State.{State}
use Rattle.def_meaning.specs.Joined.{rows_at}
use Rattle.def_restrictions.specs.Restrictions.{moved}
use Rattle.law_trace.proofs.Counting.{each_at}
use Rattle.law_trace.proofs.Fitting.{trace_sound}
use Rattle.law_trace.proofs.Rising.{Comes, Goes, Sound, Step, Steps, Turns, sound_after, steps_made, weight}
use Rattle.law_trace.proofs.Basing.{asked_changes, block_keeps, each_with, made_of}
use Rattle.law_trace.proofs.Growing.{SamePast, dues_past, installed_past}
use Rattle.law_trace.proofs.Listed.{Each, each_append, each_filter, each_map}
use Rattle.law_trace.proofs.Moves.{Adds, Alters, Commits, Creates, Declares, Drops, Forgets, Installs, Logs, Move, Purges, Stays, Switches, Withdraws}
use Rattle.law_trace.proofs.Stepping.{moves}
use Rattle.law_trace.proofs.Traces.{by_events, state_push}
use Rattle.law_trace.proofs.Untouched.{untouched_laws}
use Rattle.law_trace.specs.Reached.{catalog_of, still_table}

-- ---- inserts and removals

abbrev pub IsEither : Change → Type 0
IsEither c = (is_insert c || is_removal c) ≡ true

step_either : (t : Table) (m : ℕ) (rows : List Row) (c : Change) → Step t m rows c → IsEither c
step_either t m rows c (Comes vs fits none is) = subst IsEither (sym is) refl
step_either t m rows c (Turns r vs has fits is) = subst IsEither (sym is) refl
step_either t m rows c (Goes r has is) = subst IsEither (sym is) refl

steps_either : (t : Table) (m : ℕ) (rows : List Row) (cs : List Change) → Steps t m rows cs → Each IsEither cs
steps_either t m rows [] steps = tt
steps_either t m rows (c ∷ cs) steps = (step_either t m rows c steps.0, steps_either t (m + weight c) (rows_after rows c) cs steps.1)

abbrev AreEither : Progress → Type 0
AreEither p = Each (λ c. IsEither c.change) p.changes

abbrev EitherSound : Progress → Type 0
EitherSound p = Each Sound p.base × AreEither p

block_either : (base : Base) (kept : ℕ) (ss : List Statement) (p : Progress) → effect base kept ss ≡ Ok p → Each Sound base → AreEither p
block_either base kept ss p same sound =
    (block_keeps kept EitherSound
    (λ q s a passes h.
    let own : Sound (table_at q.base a.table) = each_at Sound ((tt, tt), tt) q.base a.table h.0 in
    let steps : Steps (table_at q.base a.table) (table_at q.base a.table).given (table_at q.base a.table).rows (made_of q.base a) = steps_made kept q s a passes own in (
      each_with Sound q.base a.table (table_after (table_at q.base a.table) (made_of q.base a)) h.0 (λ is was. sound_after (table_at q.base a.table) (made_of q.base a) steps was),
      each_append (λ c. IsEither c.change) q.changes (asked_changes q.base a) h.1
          (each_map IsEither (λ c. IsEither c.change) (λ c. record { table = a.table; change = c }) (λ c e. e) (made_of q.base a)
          (steps_either (table_at q.base a.table) (table_at q.base a.table).given (table_at q.base a.table).rows (made_of q.base a) steps)),
    ))
    base ss p same (sound, tt)).1

abbrev NotedEither : Catalog → Type 0
NotedEither c = Each (λ n. IsEither n.change) c.changes

commit_either : (c : Catalog) (p : Progress) (ss : List Statement) → effect (base_now c) (kept_versions c) ss ≡ Ok p → Each Sound (base_now c) → NotedEither c → NotedEither (do_dues (after_block c p) p.changes).catalog
commit_either c p ss same sound h =
    let past : SamePast (after_block c p) (do_dues (after_block c p) p.changes).catalog = dues_past c p in
    subst (Each (λ n. IsEither n.change)) (sym past.changes)
    (each_append (λ n. IsEither n.change) c.changes (map (noted (suc c.scn)) p.changes) h
    (each_map (λ k. IsEither k.change) (λ n. IsEither n.change) (noted (suc c.scn)) (λ k e. e) p.changes (block_either (base_now c) (kept_versions c) ss p same sound)))

move_either : (s : State) (x : Event) (d : Catalog) → Each Sound (base_now s.catalog) → Move s x d → NotedEither s.catalog → NotedEither d
move_either s x d sound (Stays is) h = subst NotedEither (sym is) h
move_either s x d sound (Commits p ss same block is) h = subst NotedEither (sym is) (commit_either s.catalog p ss same sound h)
move_either s x d sound (Creates t new fits is) h = subst NotedEither (sym is) h
move_either s x d sound (Alters n a same change form cut is) h = subst NotedEither (sym is) h
move_either s x d sound (Logs logs made is) h = subst NotedEither (sym is) h
move_either s x d sound (Purges logs purge is) h = subst NotedEither (sym is) h
move_either s x d sound (Forgets oldest more undo is) h = subst NotedEither (sym is) h
move_either s x d sound (Adds v w new star is) h = subst NotedEither (sym is) h
move_either s x d sound (Switches n f keeps is) h = subst NotedEither (sym is) h
move_either s x d sound (Installs b ps begun takes is) h = subst NotedEither (sym is) (subst (Each (λ n. IsEither n.change)) (sym (installed_past s.catalog ps).changes) h)
move_either s x d sound (Drops n free is) h = subst NotedEither (sym is) h
move_either s x d sound (Declares a new is) h = subst NotedEither (sym is) h
move_either s x d sound (Withdraws name is) h = subst NotedEither (sym is) h

pub trace_either : (trace : List Event) → NotedEither (catalog_of trace)
trace_either = by_events (λ trace. NotedEither (catalog_of trace)) tt step
  where
    step : (front : List Event) (e : Event) → NotedEither (catalog_of front) → NotedEither (catalog_of (front ++ e ∷ []))
    step front e h =
        subst (λ (s : State). NotedEither s.catalog) (sym (state_push front e))
        (move_either (state_of front) e (state_after (state_of front) e).catalog (trace_sound front) (moves (state_of front) e).catalog h)

-- changes that are neither inserts nor removals are none
none_left : (xs : List Change) → Each IsEither xs → list_any is_insert xs ≡ false → list_any is_removal xs ≡ false → xs ≡ []
none_left [] h insert removal = refl
none_left (x ∷ xs) h insert removal =
    absurd (true≢false (sym h.0 ∙ ap (λ b. b || is_removal x) (or_parts (is_insert x) (list_any is_insert xs) insert).0 ∙ (or_parts (is_removal x) (list_any is_removal xs) removal).0))

pub none_noted : (trace : List Event) (table from to : ℕ) → list_any is_insert (changes_of (catalog_of trace) table from to) ≡ false
    → list_any is_removal (changes_of (catalog_of trace) table from to) ≡ false → changes_of (catalog_of trace) table from to ≡ []
none_noted trace table from to insert removal =
    let c : Catalog = catalog_of trace in
    none_left (changes_of c table from to)
    (each_map (λ n. IsEither n.change) IsEither (λ n. n.change) (λ n h. h) (noted_changes c table from to)
    (each_filter (λ n. IsEither n.change) (λ n. (n.table == table) && within from to n.scn) c.changes (trace_either trace))) insert removal

-- ---- a table that hasn't moved

-- a table that isn't there has no rows
pub table_past : (base : Base) (n : ℕ) → length base ≤ n → (table_at base n).rows ≡ []
table_past [] n low = refl
table_past (t ∷ base) zero low = absurd (omega arith)
table_past (t ∷ base) (suc n) low = table_past base n (omega arith)

same_seen : (now then : Base) (n : ℕ) → (table_at now n).rows ≡ (table_at then n).rows → (n < length then → still_table (table_at now n) ≡ still_table (table_at then n)) → rows_at now n ≡ rows_at then n
same_seen now then n rows whole = by (nat_lt n (length then)) refl
  where
    by : (b : Bool) → nat_lt n (length then) ≡ b → rows_at now n ≡ rows_at then n
    by true e = ap (λ (t : Table). map (row_at t) t.rows) (whole (ltb-true n (length then) e))
    by false e =
        let none : (table_at then n).rows ≡ [] = table_past then n (ltb-false n (length then) e) in
        ap (λ (rs : List Row). map (row_at (table_at now n)) rs) (rows ∙ none) ∙ sym (ap (λ (rs : List Row). map (row_at (table_at then n)) rs) none)

pub unmoved : (trace : List Event) (v : View) (p : ℕ) (t : ℕ × TableDef) → v.point ≡ Some p → moved (known (catalog_of trace) v t) ≡ false
    → rows_at (base_now (catalog_of trace)) t.0 ≡ rows_at (base_at (catalog_of trace) p) t.0
unmoved trace v p t built still =
    let c : Catalog = catalog_of trace in
    let point : point_of v ≡ p = ap (λ o. unwrap_or o 0) built in
    let still_then : moved (known c (record v { point = Some p }) t) ≡ false = subst (λ o. moved (known c (record v { point = o }) t) ≡ false) built still in
    let changes : List Change = changes_of c t.0 p c.scn in
    let kept : Bool = maintained c t.0 p c.scn in
    let rest : (list_any is_removal changes || kept) ≡ false = (or_parts (list_any is_insert changes) (list_any is_removal changes || kept) still_then).1 in
    let none : changes ≡ [] =
    none_noted trace t.0 p c.scn (or_parts (list_any is_insert changes) (list_any is_removal changes || kept) still_then).0 (or_parts (list_any is_removal changes) kept rest).0 in
    let same : kept ≡ false = (or_parts (list_any is_removal changes) kept rest).1 in
    same_seen (base_now c) (base_at c p) t.0 (untouched_laws.rows trace t.0 p none same) (untouched_laws.whole trace t.0 p none same)
