-- SHOW VIEW, SHOW LOG, EXPLAIN MVIEW and VALIDATE over an image.
use Rattle.std.specs.Prelude.{Err, List, None, Ok, Option, Result, Some, [], cond, not, option_map, ℕ, ◌&&◌, ◌∷◌}
use Rattle.wh_base.specs.Lists.{first_of, first_some, is_empty, or_refuse, where_true, ◌>>=◌}
use Rattle.wh_base.specs.Tables.{def_at}
use Rattle.wh_base.specs.declared.replies.Reason.{Reason}
use Rattle.wh_base.specs.declared.replies.Refusal.{Refusal}
use Rattle.wh_base.specs.declared.replies.Refusal.TheVariants.{NoLog, NoSuchObject}
use Rattle.wh_base.specs.declared.replies.Reply.{Reply}
use Rattle.wh_base.specs.declared.replies.Reply.TheVariants.{Explain, Validate}
use Rattle.wh_base.specs.declared.views.Restriction.{Restriction}
use Rattle.wh_base.specs.declared.views.Restriction.TheVariants.{F12, P2}
use Rattle.def_dimensions.specs.Dimensions.{Dimension}
use Rattle.def_dimensions.specs.Relations.{broken, validate_reads}
use Rattle.def_effect.specs.Block.{the_table}
use Rattle.def_history.specs.Catalog.{Catalog, Log, View, base_now, defs_now, dimension_named, is_nested, log_of, view_named}
use Rattle.def_history.specs.Logs.{log_rows}
use Rattle.def_history.specs.Staleness.{content_rows, facts_of, form_of_view, shown_intervals, view_state}
use Rattle.def_journal.specs.State.{State, Step, refused, replied}
use Rattle.def_restrictions.specs.Definition.{is_insert_only, selects_key}
use Rattle.def_restrictions.specs.Restrictions.{check_p1, check_p2, is_aggregate, log_says, restricted}
use Rattle.wh_base.specs.declared.replies.Reply.TheVariants as reply
use Rattle.wh_base.specs.declared.replies.Reason.TheVariants as reason
use Rattle.wh_base.specs.declared.replies.Code.TheVariants as code
use Rattle.wh_base.specs.declared.replies.Place.TheVariants as place
use Rattle.wh_base.specs.declared.views.Requirement.TheVariants as requirement

-- The view's point, state, marks, stale intervals and rows.
abbrev pub show_view : Catalog → View → Reply
show_view c v =
    reply.View (record {
      view = v.def.name;
      point = v.point;
      state = view_state c v;
      registered = v.registered;
      suspended = v.suspended;
      intervals = shown_intervals c v;
      rows = content_rows c v;
    })

-- The log's birth, its purge point and its rows.
abbrev pub show_log : Catalog → Log → Reply
show_log c l = reply.Log (record { table = (def_at (defs_now c) l.table).name; born = l.born; from = l.facts.from; rows = log_rows c l })

-- ---- EXPLAIN MVIEW

-- A restriction as the reason of a line.
abbrev pub refresh_reason : Catalog → Restriction → Reason
refresh_reason c r = reason.Refresh (restricted (defs_now c) r)

-- REFRESH_FAST_AFTER_INSERT: the first of F3 to F9 that holds.
abbrev pub after_insert : Catalog → View → Option Reason
after_insert c v = option_map (refresh_reason c) (form_of_view c v)

-- F13 where the view is insert-only; it prints alone, without a table.
abbrev pub insert_only_reason : View → Option Reason
insert_only_reason v = where_true (is_aggregate v.def && is_insert_only v.def) (reason.Refresh (record { code = code.F13; place = place.View }))

-- REFRESH_FAST_AFTER_ONETAB_DML: as after an insert, then F13.
abbrev pub after_one_table : Catalog → View → Option Reason
after_one_table c v = first_some (after_insert c v ∷ insert_only_reason v ∷ [])

-- F12 with the first table of an aggregate view of which the log has no SEQUENCE.
abbrev pub unsequenced : Catalog → View → Option Reason
unsequenced c v =
    option_map (refresh_reason c) (first_of (λ k. where_true (is_aggregate v.def && log_says k (λ f. not f.sequence)) (F12 k.table)) (facts_of c v).tables)

-- REFRESH_FAST_AFTER_ANY_DML: as after changes of one table, then F12.
abbrev pub after_any : Catalog → View → Option Reason
after_any c v = first_some (after_one_table c v ∷ unsequenced c v ∷ [])

-- REFRESH_FAST_PCT: P1 or P2.
abbrev pub by_parts : Catalog → View → Option Reason
by_parts c v = option_map (refresh_reason c) (first_some (check_p1 v.def ∷ check_p2 v.def ∷ []))

-- REWRITE_FULL_TEXT_MATCH: E9 where rewrite isn't enabled for the view.
abbrev pub not_enabled : View → Option Reason
not_enabled v = where_true (not v.def.rewrite) (reason.Rewrite requirement.E9)

-- REWRITE_PARTIAL_TEXT_MATCH and REWRITE_GENERAL: E9 again, then E7 where the definition has HAVING.
abbrev pub rewritten : View → Option Reason
rewritten v = first_some (not_enabled v ∷ where_true (not (is_empty v.def.query.having)) (reason.Rewrite requirement.E7) ∷ [])

-- REWRITE_PCT: as these, then P1, and P2 also where only the marker is selected.
abbrev pub rewritten_by_parts : Catalog → View → Option Reason
rewritten_by_parts c v =
    first_some (rewritten v ∷ option_map (refresh_reason c) (first_some (check_p1 v.def ∷ where_true (not (selects_key v.def)) P2 ∷ [])) ∷ [])

-- A view over a view is neither refreshed by logs or partitions nor matched by its text.
abbrev pub unless_nested : View → Option Reason → Option Reason
unless_nested v r = cond (is_nested v) (Some reason.Nested) r

-- The nine lines in order; a line without a reason says Y.
abbrev pub explain_view : Catalog → View → Reply
explain_view c v =
    Explain (record {
      view = v.def.name;
      lines =
          None
          ∷ unless_nested v (after_insert c v)
          ∷ unless_nested v (after_one_table c v)
          ∷ unless_nested v (after_any c v)
          ∷ unless_nested v (by_parts c v)
          ∷ unless_nested v (not_enabled v)
          ∷ unless_nested v (rewritten v)
          ∷ rewritten v
          ∷ rewritten_by_parts c v
          ∷ [];
    })

-- ---- VALIDATE

-- The rows that break a declared relation of the dimension. Each of its tables is read once.
abbrev pub validated : Catalog → Dimension → Reply
validated c d =
    let base = base_now c in
    Validate (record { dimension = d.name; scn = c.scn; read = validate_reads base d; broken = broken base d })

-- ---- what is named is there, or the refusal

-- The reply of what was found, or the refusal, having read nothing.
abbrev pub shown : {A : Type 0} → State → Result A Refusal → (A → Reply) → Step
shown s (Err code) give = refused s 0 code
shown s (Ok x) give = replied s (give x)

-- The view with this name, or NoSuchObject.
abbrev pub the_view : Catalog → List ℕ → Result View Refusal
the_view c name = or_refuse (view_named c name) (NoSuchObject name)

-- The log of the table with this name: the table has to be there, and to have a log.
abbrev pub the_log : Catalog → List ℕ → Result Log Refusal
the_log c name = do
  n ← the_table (base_now c) name
  or_refuse (log_of c n) (NoLog name)

-- The dimension with this name, or NoSuchObject.
abbrev pub the_dimension : Catalog → List ℕ → Result Dimension Refusal
the_dimension c name = or_refuse (dimension_named c name) (NoSuchObject name)
