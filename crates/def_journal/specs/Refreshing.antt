-- A refresh: what is computed over its image, the rows that it reads, and its two parts, begin and install.
use Rattle.std.specs.List.{list_any}
use Rattle.std.specs.Prelude.{Bool, Err, List, None, Ok, Option, Result, Some, [], cond, false, filter, find, is_none, length, map, nat_eq, not, option_and_then, option_map, sum_by, true, unwrap_or, ℕ, ◌&&◌, ◌+◌, ◌==◌, ◌||◌, ◌∷◌}
use Rattle.wh_base.specs.Lists.{change_where, distinct, first_some, has_number, is_empty, option_case, option_nat_same, unless, where_true}
use Rattle.wh_base.specs.Tables.{Base, mark_of, part_intervals, table_at}
use Rattle.wh_base.specs.declared.queries.StarQuery.{StarQuery}
use Rattle.wh_base.specs.declared.replies.Refusal.{Refusal}
use Rattle.wh_base.specs.declared.replies.Refusal.TheVariants.{BeneathUnbuilt, FastRefused, NoSuchObject, NotNested, OnlyReading, Overtaken, PartitionRefused}
use Rattle.wh_base.specs.declared.replies.Restricted.{Restricted}
use Rattle.wh_base.specs.declared.statements.Method.{Method}
use Rattle.wh_base.specs.declared.statements.Method.TheVariants.{Complete, Fast, Force, Partition}
use Rattle.wh_base.specs.declared.statements.RefreshView.{RefreshView}
use Rattle.wh_base.specs.declared.tables.Change.{Change}
use Rattle.wh_base.specs.declared.tables.Part.{Part}
use Rattle.wh_base.specs.declared.values.Interval.{Interval}
use Rattle.wh_base.specs.declared.views.Restriction.{Restriction}
use Rattle.wh_base.specs.declared.views.ViewEntry.{ViewEntry}
use Rattle.def_effect.specs.Block.{is_live}
use Rattle.def_history.specs.Catalog.{Catalog, View, base_at, base_now, defs_now, is_nested, view_named, view_numbered}
use Rattle.def_history.specs.Staleness.{changes_after, facts_of, part_restriction, restriction, stale_intervals, touches_after}
use Rattle.def_journal.specs.State.{Begun, Session, State, Step, only_reads, refused, replied, with_catalog, with_session}
use Rattle.def_meaning.specs.Meaning.{stored}
use Rattle.def_meaning.specs.Ranges.{base_reads}
use Rattle.def_restrictions.specs.Definition.{has_extreme, selects_key, tracked}
use Rattle.def_restrictions.specs.Intervals.{intervals_meet}
use Rattle.def_restrictions.specs.Restrictions.{restricted}
use Rattle.wh_base.specs.declared.replies.Reply.TheVariants as reply

-- ---- rows read

-- The live rows of a table: their number.
abbrev pub rows_in : Base → ℕ → ℕ
rows_in base table = length (table_at base table).rows

-- The live rows of all tables of the query.
abbrev pub all_rows : Base → StarQuery → ℕ
all_rows base q = sum_by (rows_in base) q.tables

-- The live rows of all tables of the query but this one.
abbrev pub other_rows : Base → StarQuery → ℕ → ℕ
other_rows base q table = sum_by (λ n. cond (n == table) 0 (rows_in base n)) q.tables

-- The rows that these changes touched and that are live, each once: their number.
abbrev pub live_changed : Base → ℕ → List Change → ℕ
live_changed base table changes = length (filter (λ n. is_live base (table, n)) (distinct nat_eq (map (λ c. c.rowid) changes)))

-- The tables of the view with a change of a row after its point.
abbrev pub changed_tables : Catalog → View → List ℕ
changed_tables c v = filter (λ n. not (is_empty (changes_after c v n))) v.def.query.tables

-- A table other than the root has changed.
abbrev pub other_changed : Catalog → View → Bool
other_changed c v = list_any (λ n. not (n == v.def.query.root)) (changed_tables c v)

-- The view has MIN or MAX, and one of its tables had a delete or an update after the view's point.
abbrev pub extreme_met_removal : Catalog → View → Bool
extreme_met_removal c v = has_extreme v.def.query && list_any (λ k. k.removed) (facts_of c v).tables

-- READ where the root alone changed: the other tables, and for a join view the root's changed rows too.
abbrev pub root_reads : Catalog → View → ℕ
root_reads c v =
    let q = v.def.query in
    let base = base_now c in
    other_rows base q q.root + cond q.grouped 0 (live_changed base q.root (changes_after c v q.root))

-- READ of a fast refresh: nothing where no table changed; all rows where another table than the
-- root changed or MIN or MAX met a delete or update; else as said above.
abbrev pub fast_reads : Catalog → View → ℕ
fast_reads c v =
    cond (is_empty (changed_tables c v)) 0
    (cond (other_changed c v || extreme_met_removal c v) (all_rows (base_now c) v.def.query) (root_reads c v))

-- A partition refresh computes this partition anew: it meets a stale interval. Where the view selects the marker and not the key, its number was touched.
abbrev pub is_stale_part : Catalog → View → ℕ → Part × Interval → Bool
is_stale_part c v table p =
    cond (selects_key v.def) (list_any (intervals_meet p.1) (stale_intervals c v))
    (list_any (λ t. t.number == p.0.number) (touches_after c v table))

-- The live rows of the partitions that are computed anew: their number.
abbrev pub stale_part_rows : Catalog → View → ℕ → ℕ
stale_part_rows c v table =
    let t = table_at (base_now c) table in
    let stale = map (λ p. p.0.number) (filter (is_stale_part c v table) (part_intervals t)) in
    length (filter (λ r. has_number stale (mark_of t r.values)) t.rows)

-- READ of a partition refresh: nothing where nothing is stale, else the rows of the partitions computed anew and those of all other tables.
abbrev pub part_reads : Catalog → View → ℕ
part_reads c v =
    option_case (tracked v.def) 0 (λ t. cond (is_empty (stale_intervals c v)) 0 (stale_part_rows c v t.0 + other_rows (base_now c) v.def.query t.0))

-- READ of a complete refresh: what the base plan of the definition reads.
abbrev pub complete_reads : Catalog → View → ℕ
complete_reads c v = base_reads v.def.query (base_now c)

-- READ by the method used. FORCE is never a method used, since it becomes FAST or COMPLETE.
abbrev pub refresh_reads : Catalog → View → Method → ℕ
refresh_reads c v Fast = fast_reads c v
refresh_reads c v Complete = complete_reads c v
refresh_reads c v Partition = part_reads c v
refresh_reads c v Force = complete_reads c v

-- ---- what is computed over an image

-- The method used, the view's new entries, and the rows read.
pub record Computed : Type 0 where
  pub used : Method
  pub rows : List ViewEntry
  pub read : ℕ

-- By whatever method, the new entries are what the definition stores over the image's base rows.
abbrev pub computed_by : Catalog → View → Method → Computed
computed_by c v used = record { used = used; rows = stored v.def.query (base_now c); read = refresh_reads c v used }

-- The refusal with this code by a restriction, where there is one.
abbrev pub refusal_by : Catalog → (Restricted → Refusal) → Option Restriction → Option Refusal
refusal_by c code r = option_map (λ x. code (restricted (defs_now c) x)) r

-- A refresh by the method asked for: FAST is refused by the first of F1 to F13, PARTITION by the
-- first of F1 and P1 to P3; FORCE is FAST where no F holds, else COMPLETE.
abbrev pub computed : Catalog → View → Method → Result Computed Refusal
computed c v Fast = unless (refusal_by c FastRefused (restriction c v)) (computed_by c v Fast)
computed c v Partition = unless (refusal_by c PartitionRefused (part_restriction c v)) (computed_by c v Partition)
computed c v Complete = Ok (computed_by c v Complete)
computed c v Force = Ok (computed_by c v (cond (is_none (restriction c v)) Fast Complete))

-- ---- views over views

-- What a refresh of a list has computed of one of its views, as the image has it, and the point that the view gets by it.
pub record Listed : Type 0 where
  pub view : View
  pub point : ℕ
  pub computed : Computed

-- The point that the view with this number has once what was computed of the list so far is installed: of the list, else of the image; none where it isn't built.
abbrev pub point_beneath : Catalog → List Listed → ℕ → Option ℕ
point_beneath c done n =
    first_some (
    option_map (λ l. l.point) (find (λ l. l.view.def.view == n) done)
    ∷ option_and_then (λ v. v.point) (view_numbered c n)
    ∷ [])

-- The new point of a refreshed view: the SCN of the image; over a view, the point of the view beneath.
abbrev pub new_point : Catalog → List Listed → View → ℕ
new_point c done v = option_case v.def.beneath c.scn (λ n. unwrap_or (point_beneath c done n) 0)

-- The letter F or P, which a view over a view doesn't have.
abbrev pub asks_for_less : Option Method → Bool
asks_for_less (Some Fast) = true
asks_for_less (Some Partition) = true
asks_for_less m = false

-- The name of the view with this number.
abbrev pub name_numbered : Catalog → ℕ → List ℕ
name_numbered c n = option_case (view_numbered c n) [] (λ v. v.def.name)

-- The letter is F or P, and then: the view beneath, which has this number, isn't built.
abbrev pub nested_refusal : Catalog → List Listed → RefreshView → View → ℕ → Option Refusal
nested_refusal c done r v n =
    first_some (
    where_true (asks_for_less r.method) (NotNested v.def.name)
    ∷ where_true (is_none (point_beneath c done n)) (BeneathUnbuilt (name_numbered c n))
    ∷ [])

-- A view over a view is computed completely, of the rows of the view beneath; so it reads no base rows, and has what its definition stores at the point of that view.
abbrev pub computed_over : Catalog → List Listed → View → Computed
computed_over c done v = record { used = Complete; rows = stored v.def.query (base_at c (new_point c done v)); read = 0 }

-- The method asked for, else the view's own.
abbrev pub asked_method : RefreshView → View → Method
asked_method r v = unwrap_or r.method v.def.method

-- What a refresh computes of a view, where so much of its list was computed before; or its refusal.
abbrev pub computed_for : Catalog → List Listed → RefreshView → View → Result Computed Refusal
computed_for c done r v =
    option_case v.def.beneath (computed c v (asked_method r v)) (λ n. unless (nested_refusal c done r v n) (computed_over c done v))

-- ---- the view after it

-- An accepted refresh sets the view's point, registers the view and ends its suspension. A view over a view isn't registered.
abbrev pub refreshed_to : ℕ → View → View
refreshed_to scn v = record v { point = Some scn; registered = not (is_nested v); suspended = false }

-- The catalog with the view of this number changed.
abbrev pub change_view : ℕ → (View → View) → Catalog → Catalog
change_view n f c = record c { views = change_where (λ v. v.def.view == n) f c.views }

-- ---- the two parts of a refresh command

-- The begin keeps the image, and the number and point of the view with this name, in the session.
abbrev pub begin_refresh : State → Session → RefreshView → State
begin_refresh s x r =
    let v = view_named s.catalog r.name in
    with_session s (record x { begun = Some (record { view = option_map (λ w. w.def.view) v; point = option_and_then (λ w. w.point) v; image = s.catalog }) })

-- The session has no begun refresh any more.
abbrev pub ended : State → Session → State
ended s x = with_session s (record x { begun = None })

-- The view's point is no longer the one at the begin: another refresh was installed in between.
abbrev pub overtaken : List ℕ → Begun → View → Option Refusal
overtaken name b v = where_true (not (option_nat_same b.point v.point)) (Overtaken name b.point v.point)

-- The view as it is now takes the computed rows, unless it was overtaken. Its new point is that of the image. HOLDS is the number of its entries.
abbrev pub install_into : State → List ℕ → Begun → Computed → View → Step
install_into s name b x now = installed (overtaken name b now)
  where
    to : ℕ
    to = new_point b.image [] now

    installed : Option Refusal → Step
    installed (Some code) = refused s x.read code
    installed None =
        replied (with_catalog s (change_view now.def.view (refreshed_to to) s.catalog))
        (reply.Refresh (record { method = x.used; scn = to; read = x.read; holds = length x.rows }))

-- Refused by its restriction, having read nothing; or because the view was dropped since the begin, having read what it computed from; or installed.
abbrev pub install_computed : State → List ℕ → Begun → View → Result Computed Refusal → Step
install_computed s name b then (Err code) = refused s 0 code
install_computed s name b then (Ok x) =
    option_case (view_numbered s.catalog then.def.view) (refused s x.read (NoSuchObject name)) (install_into s name b x)

-- The view as the image of the begin has it.
abbrev pub begun_view : Begun → Option View
begun_view b = option_and_then (view_numbered b.image) b.view

-- Refused where the begin found no view, else computed over the image of the begin and installed.
abbrev pub install_begun : State → RefreshView → Begun → Step
install_begun s r b = option_case (begun_view b) (refused s 0 (NoSuchObject r.name)) (λ v. install_computed s r.name b v (computed_for b.image [] r v))

-- The install: in a READ ONLY transaction a refresh is refused before anything else.
abbrev pub install_refresh : State → Session → RefreshView → Step
install_refresh s x r =
    cond (only_reads x) (refused (ended s x) 0 OnlyReading)
    (option_case x.begun (refused s 0 (NoSuchObject r.name)) (install_begun (ended s x) r))
