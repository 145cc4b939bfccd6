-- What a view holds, and how far it is behind the base rows.
use Rattle.std.specs.List.{list_any}
use Rattle.std.specs.Prelude.{Bool, List, Option, [], map, option_map, unwrap_or, ℕ}
use Rattle.wh_base.specs.Lists.{option_case}
use Rattle.wh_base.specs.Tables.{is_insert, is_removal}
use Rattle.wh_base.specs.declared.tables.Change.{Change}
use Rattle.wh_base.specs.declared.tables.TableDef.{TableDef}
use Rattle.wh_base.specs.declared.tables.Touch.{Touch}
use Rattle.wh_base.specs.declared.values.Interval.{Interval}
use Rattle.wh_base.specs.declared.values.Value.{Value}
use Rattle.wh_base.specs.declared.views.Restriction.{Restriction}
use Rattle.wh_base.specs.declared.views.ViewEntry.{ViewEntry}
use Rattle.wh_base.specs.declared.views.ViewState.{ViewState}
use Rattle.wh_base.specs.declared.views.ViewState.TheVariants.{Fresh, Partly, Stale, Unbuilt}
use Rattle.def_history.specs.Catalog.{Catalog, View, base_at, log_of}
use Rattle.def_history.specs.History.{changes_of, maintained, touches_of}
use Rattle.def_meaning.specs.Meaning.{in_order, stored}
use Rattle.def_restrictions.specs.Definition.{table_defs, tracked}
use Rattle.def_restrictions.specs.Intervals.{union_of}
use Rattle.def_restrictions.specs.Restrictions.{Facts, Known, first_part_restriction, first_restriction, form_restriction, state_by}

-- The view's point; 0 stands for none.
abbrev pub point_of : View → ℕ
point_of v = unwrap_or v.point 0

-- What the view stores: its definition over the base state at its point, and nothing where it isn't built. It is never computed from older content.
abbrev pub content : Catalog → View → List ViewEntry
content c v = option_case v.point [] (λ p. stored v.def.query (base_at c p))

-- The rows of the view as SHOW VIEW lists them: in the order of an answer without ORDER BY.
abbrev pub content_rows : Catalog → View → List (List Value)
content_rows c v = in_order [] (map (λ e. e.row) (content c v))

-- The changes of a table's rows after the view's point, up to now.
abbrev pub changes_after : Catalog → View → ℕ → List Change
changes_after c v table = changes_of c table (point_of v) c.scn

-- The touches of a table's partitions after the view's point, up to now.
abbrev pub touches_after : Catalog → View → ℕ → List Touch
touches_after c v table = touches_of c table (point_of v) c.scn

-- There was an ADD, DROP, TRUNCATE, SPLIT or MERGE of a partition of the table after the view's point.
abbrev pub maintained_after : Catalog → View → ℕ → Bool
maintained_after c v table = maintained c table (point_of v) c.scn

-- ---- what is known of a view by the history

-- What the restrictions ask of one table of the view, found by searching the history. A removal is a delete or an update.
abbrev pub known : Catalog → View → ℕ × TableDef → Known
known c v t =
    record {
      table = t.0;
      def = t.1;
      log = option_map (λ l. l.facts) (log_of c t.0);
      inserted = list_any is_insert (changes_after c v t.0);
      removed = list_any is_removal (changes_after c v t.0);
      maintained = maintained_after c v t.0;
    }

-- What the restrictions ask of the view, with its tables in tree order.
abbrev pub facts_of : Catalog → View → Facts
facts_of c v = record { def = v.def; point = v.point; registered = v.registered; tables = map (known c v) (table_defs v.def) }

-- Why the view can't be refreshed by its logs: the first of F1 to F13 that holds, or none.
abbrev pub restriction : Catalog → View → Option Restriction
restriction c v = first_restriction (facts_of c v)

-- Why the view can't be refreshed by partitions: the first of F1 and P1 to P3 that holds, or none.
abbrev pub part_restriction : Catalog → View → Option Restriction
part_restriction c v = first_part_restriction (facts_of c v)

-- UNBUILT, FRESH, PARTLY or STALE.
abbrev pub view_state : Catalog → View → ViewState
view_state c v = state_by (facts_of c v)

-- What refuses a CREATE MATERIALIZED VIEW .. REFRESH FAST: the first of F3 to F9 that holds, by the definition and the logs as they are.
abbrev pub form_of_view : Catalog → View → Option Restriction
form_of_view c v = form_restriction v.def (map (known c v) (table_defs v.def))

-- ---- what is stale

-- The keys at which the view may be stale: the union of the intervals of the partitions of its tracked table that were touched after its point,
-- as intervals that are disjoint, do not adjoin and ascend. Each partition counts with its interval at the moment of its touch, and a SPLIT or
-- MERGE touches both the partitions that end and the new ones.
abbrev pub stale_intervals : Catalog → View → List Interval
stale_intervals c v = option_case (tracked v.def) [] (λ t. union_of (map (λ touch. touch.interval) (touches_after c v t.0)))

-- SHOW VIEW lists them where the view is PARTLY, and none in any other state.
abbrev pub shown_intervals : Catalog → View → List Interval
shown_intervals c v = of_state (view_state c v)
  where
    of_state : ViewState → List Interval
    of_state Unbuilt = []
    of_state Fresh = []
    of_state Partly = stale_intervals c v
    of_state Stale = []
