-- The restrictions of a refresh, and the state of a view, by what is known of the view and of each of its tables.
-- What is known may come from the history or from marks that are kept beside the tables; the rules are the same.
use Rattle.std.specs.List.{list_any}
use Rattle.std.specs.Prelude.{Bool, List, None, Option, [], cond, false, find, is_none, length, map, nat_lt, not, option_map, unwrap_or, zip, ℕ, ◌&&◌, ◌||◌, ◌∷◌}
use Rattle.wh_base.specs.Lists.{count_from, first_of, first_some, has_number, is_empty, option_case, where_true}
use Rattle.wh_base.specs.Tables.{column_name, def_at}
use Rattle.wh_base.specs.declared.columns.ColPart.TheVariants.{RowId}
use Rattle.wh_base.specs.declared.logs.LogFacts.{LogFacts}
use Rattle.wh_base.specs.declared.replies.Restricted.{Restricted}
use Rattle.wh_base.specs.declared.tables.TableDef.{TableDef}
use Rattle.wh_base.specs.declared.views.RefreshFacts.{RefreshFacts}
use Rattle.wh_base.specs.declared.views.Restriction.{Restriction}
use Rattle.wh_base.specs.declared.views.Restriction.TheVariants.{F1, F10, F11, F12, F13, F2, F3, F4, F5, F6, F7, F8, F9, P1, P2, P3}
use Rattle.wh_base.specs.declared.views.TableFacts.{TableFacts}
use Rattle.wh_base.specs.declared.views.ViewDef.{ViewDef}
use Rattle.wh_base.specs.declared.views.ViewState.{ViewState}
use Rattle.wh_base.specs.declared.views.ViewState.TheVariants.{Fresh, Partly, Stale, Unbuilt}
use Rattle.def_restrictions.specs.Definition.{has_average_alone, is_insert_only, is_tracked, selects_column, selects_key, selects_mark, table_defs, tracked, used_places}
use Rattle.wh_base.specs.declared.replies.Code.TheVariants as code
use Rattle.wh_base.specs.declared.replies.Place.TheVariants as place

-- what is known of a table of the view: its log, where it has one, and whether an insert, a delete or update (a removal), or
-- partition maintenance came after the view's point
pub record Known : Type 0 where
  pub table : ℕ
  pub def : TableDef
  pub log : Option LogFacts
  pub inserted : Bool
  pub removed : Bool
  pub maintained : Bool

-- what is known of a view: its definition, its point (None where it isn't built), whether it is registered, and its tables
-- in tree order
pub record Facts : Type 0 where
  pub def : ViewDef
  pub point : Option ℕ
  pub registered : Bool
  pub tables : List Known

-- a change or partition maintenance came after the point
abbrev pub moved : Known → Bool
moved k = k.inserted || (k.removed || k.maintained)

-- ---- what is known by marks: for each table the SCN of the last insert, removal and maintenance, 0 where there is none.
-- What is marked came after the point where its mark is above it

abbrev pub known_by_marks : ℕ → (ℕ × TableDef) × TableFacts → Known
known_by_marks point p =
    record {
      table = p.0.0;
      def = p.0.1;
      log = p.1.log;
      inserted = nat_lt point p.1.inserted;
      removed = nat_lt point p.1.removed;
      maintained = nat_lt point p.1.maintained;
    }

-- what is known of a view by the marks of its tables
abbrev pub facts_by_marks : ViewDef → RefreshFacts → Facts
facts_by_marks d f =
    record { def = d; point = f.point; registered = f.registered; tables = map (known_by_marks (unwrap_or f.point 0)) (zip (table_defs d) f.tables) }

-- ---- F1 to F13: why a view can't be refreshed by its logs

-- a view is an aggregate view where its definition is grouped, else a join view
abbrev pub is_aggregate : ViewDef → Bool
is_aggregate d = d.query.grouped

-- the table has a log, and the test holds of it
abbrev pub log_says : Known → (LogFacts → Bool) → Bool
log_says k test = option_case k.log false test

-- F3: the table has no log
abbrev pub check_f3 : Known → Option Restriction
check_f3 k = where_true (is_none k.log) (F3 k.table)

-- F4: the table's log has no ROWID
abbrev pub check_f4 : Known → Option Restriction
check_f4 k = where_true (log_says k (λ f. not f.rowid)) (F4 k.table)

-- the first column of the table, in declared order, that the definition uses and its log lacks
abbrev pub unlogged : ViewDef → Known → Option ℕ
unlogged d k =
    find (λ c. has_number (used_places d.query k.table k.def) c && log_says k (λ f. not (has_number f.columns c))) (count_from 0 (length k.def.columns))

-- F5, asked of aggregate views: the table's log lacks a column that the definition uses
abbrev pub check_f5 : ViewDef → Known → Option Restriction
check_f5 d k = cond (is_aggregate d) (option_map (F5 k.table) (unlogged d k)) None

-- F6, asked of aggregate views: the table's log has no new values
abbrev pub check_f6 : ViewDef → Known → Option Restriction
check_f6 d k = where_true (is_aggregate d && log_says k (λ f. not f.new_values)) (F6 k.table)

-- F7, asked of aggregate views: AVG(e) is selected and COUNT(e) isn't
abbrev pub check_f7 : ViewDef → Option Restriction
check_f7 d = where_true (is_aggregate d && has_average_alone d.query) F7

-- F8, asked of join views: the ROWID of the table isn't selected
abbrev pub check_f8 : ViewDef → Known → Option Restriction
check_f8 d k = where_true (not (is_aggregate d) && not (selects_column d.query (record { table = k.table; part = RowId }))) (F8 k.table)

-- F9: the definition has HAVING
abbrev pub check_f9 : ViewDef → Option Restriction
check_f9 d = where_true (not (is_empty d.query.having)) F9

-- the first of F3 to F9, which don't ask what came after the point; CREATE with REFRESH FAST asks these alone
abbrev pub form_restriction : ViewDef → List Known → Option Restriction
form_restriction d tables =
    first_some (
    first_of check_f3 tables
    ∷ first_of check_f4 tables
    ∷ first_of (check_f5 d) tables
    ∷ first_of (check_f6 d) tables
    ∷ check_f7 d
    ∷ first_of (check_f8 d) tables
    ∷ check_f9 d
    ∷ [])

-- F10: the table's log begins above the view's point
abbrev pub check_f10 : ℕ → Known → Option Restriction
check_f10 point k = where_true (log_says k (λ f. nat_lt point f.from)) (F10 k.table)

-- F11: the table had partition maintenance after the point
abbrev pub check_f11 : Known → Option Restriction
check_f11 k = where_true k.maintained (F11 k.table)

-- F12, asked of aggregate views: the table had an insert and also a removal after the point, and its log has no SEQUENCE
abbrev pub check_f12 : ViewDef → Known → Option Restriction
check_f12 d k = where_true (is_aggregate d && (k.inserted && (k.removed && log_says k (λ f. not f.sequence)))) (F12 k.table)

-- F13, asked of aggregate views: the view is insert-only and the table had a removal after the point
abbrev pub check_f13 : ViewDef → Known → Option Restriction
check_f13 d k = where_true (is_aggregate d && (is_insert_only d && k.removed)) (F13 k.table)

-- F1: the view isn't built
abbrev pub check_f1 : Facts → Option Restriction
check_f1 f = where_true (is_none f.point) F1

-- why the view can't be refreshed by its logs: the first of F1 to F13 by number, then by table in tree order, then by
-- column in declared order; None where it can
abbrev pub first_restriction : Facts → Option Restriction
first_restriction f =
    first_some (
    check_f1 f
    ∷ where_true (not f.registered) F2
    ∷ form_restriction f.def f.tables
    ∷ first_of (check_f10 (unwrap_or f.point 0)) f.tables
    ∷ first_of check_f11 f.tables
    ∷ first_of (check_f12 f.def) f.tables
    ∷ first_of (check_f13 f.def) f.tables
    ∷ [])

-- ---- F1 and P1 to P3: why a view can't be refreshed by partitions

-- P1: no table of the view is partitioned
abbrev pub check_p1 : ViewDef → Option Restriction
check_p1 d = where_true (is_none (tracked d)) P1

-- P2: neither the partition key nor the PMARKER of the tracked table is selected
abbrev pub check_p2 : ViewDef → Option Restriction
check_p2 d = where_true (not (selects_key d || selects_mark d)) P2

-- P3: another table than the tracked one had a change or partition maintenance after the point
abbrev pub check_p3 : ViewDef → Known → Option Restriction
check_p3 d k = where_true (not (is_tracked d k.table) && moved k) (P3 k.table)

-- why the view can't be refreshed by partitions: the first of F1 and P1 to P3; None where it can
abbrev pub first_part_restriction : Facts → Option Restriction
first_part_restriction f = first_some (check_f1 f ∷ check_p1 f.def ∷ check_p2 f.def ∷ first_of (check_p3 f.def) f.tables ∷ [])

-- ---- the state of a view

-- nothing came to any table after the point
abbrev pub is_fresh : Facts → Bool
is_fresh f = not (list_any moved f.tables)

-- UNBUILT where the view has no point, FRESH where nothing came after it, PARTLY where the view can be refreshed by
-- partitions, else STALE
abbrev pub state_by : Facts → ViewState
state_by f = cond (is_none f.point) Unbuilt (cond (is_fresh f) Fresh (cond (is_none (first_part_restriction f)) Partly Stale))

-- ---- how a restriction prints

-- F1, F2, F7, F9, P1 and P2 print no table; F5 prints table and column; the others print the table
abbrev pub restricted : List TableDef → Restriction → Restricted
restricted defs F1 = record { code = code.F1; place = place.View }
restricted defs F2 = record { code = code.F2; place = place.View }
restricted defs (F3 t) = record { code = code.F3; place = place.Table (def_at defs t).name }
restricted defs (F4 t) = record { code = code.F4; place = place.Table (def_at defs t).name }
restricted defs (F5 t c) = record { code = code.F5; place = place.Column (def_at defs t).name (column_name (def_at defs t) c) }
restricted defs (F6 t) = record { code = code.F6; place = place.Table (def_at defs t).name }
restricted defs F7 = record { code = code.F7; place = place.View }
restricted defs (F8 t) = record { code = code.F8; place = place.Table (def_at defs t).name }
restricted defs F9 = record { code = code.F9; place = place.View }
restricted defs (F10 t) = record { code = code.F10; place = place.Table (def_at defs t).name }
restricted defs (F11 t) = record { code = code.F11; place = place.Table (def_at defs t).name }
restricted defs (F12 t) = record { code = code.F12; place = place.Table (def_at defs t).name }
restricted defs (F13 t) = record { code = code.F13; place = place.Table (def_at defs t).name }
restricted defs P1 = record { code = code.P1; place = place.View }
restricted defs P2 = record { code = code.P2; place = place.View }
restricted defs (P3 t) = record { code = code.P3; place = place.Table (def_at defs t).name }
