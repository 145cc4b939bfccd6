-- A commit: the effect of its block, the partitions that it touches, and the refresh of the ON COMMIT views over it.
use Rattle.std.specs.List.{enumerate_from, list_any}
use Rattle.std.specs.Prelude.{Bool, Err, List, None, Ok, Option, Result, Some, [], cond, false, filter, flat_map, fold, is_some, map, not, option_to_list, true, ℕ, ◌&&◌, ◌++◌, ◌+◌, ◌==◌, ◌∷◌}
use Rattle.wh_base.specs.Lists.{has_number}
use Rattle.wh_base.specs.Tables.{Base, Table, TableChange, mark_of, part_intervals}
use Rattle.wh_base.specs.declared.replies.Refreshed.{Refreshed}
use Rattle.wh_base.specs.declared.replies.Refreshed.TheVariants.{By, Suspended}
use Rattle.wh_base.specs.declared.replies.Refusal.TheVariants.{OnlyReading}
use Rattle.wh_base.specs.declared.replies.Reply.TheVariants.{Commit}
use Rattle.wh_base.specs.declared.replies.Restricted.{Restricted}
use Rattle.wh_base.specs.declared.replies.ViewLine.{ViewLine}
use Rattle.wh_base.specs.declared.statements.Block.{Block}
use Rattle.wh_base.specs.declared.statements.Method.{Method}
use Rattle.wh_base.specs.declared.statements.Method.TheVariants.{Complete, Fast, Force, Partition}
use Rattle.wh_base.specs.declared.tables.Change.{Change}
use Rattle.wh_base.specs.declared.tables.Part.{Part}
use Rattle.wh_base.specs.declared.values.Interval.{Interval}
use Rattle.wh_base.specs.declared.values.Value.{Value}
use Rattle.wh_base.specs.declared.views.Restriction.{Restriction}
use Rattle.def_effect.specs.Block.{Progress, Stopped, effect}
use Rattle.def_history.specs.Catalog.{Catalog, Noted, Touched, View, base_now, defs_now}
use Rattle.def_history.specs.History.{kept_versions}
use Rattle.def_history.specs.Staleness.{restriction}
use Rattle.def_journal.specs.Refreshing.{change_view, refresh_reads, refreshed_to}
use Rattle.def_journal.specs.State.{Session, State, Step, only_reads, refused, refused_at, replied, with_base, with_catalog}
use Rattle.def_restrictions.specs.Restrictions.{restricted}

-- The view's definition has a table with a row changed by this commit.
abbrev pub changed_by : List TableChange → View → Bool
changed_by changes v = list_any (λ c. has_number v.def.query.tables c.table) changes

-- The view is refreshed at this commit: it is ON COMMIT, built, not suspended, and has a changed table.
abbrev pub is_due : List TableChange → View → Bool
is_due changes v = v.def.on_commit && (is_some v.point && (not v.suspended && changed_by changes v))

-- How far the refreshes at a commit have come: the catalog that they leave, the lines that the reply prints, and the rows read.
pub record Dues : Type 0 where
  pub catalog : Catalog
  pub lines : List ViewLine
  pub read : ℕ

-- The line of a view in the reply.
abbrev pub due_line : View → Refreshed → ViewLine
due_line v done = record { view = v.def.name; done = done }

-- The view can't be refreshed by its logs: it is suspended, and the commit stands.
abbrev pub suspend : Dues → View → Restricted → Dues
suspend d v r =
    record {
      catalog = change_view v.def.view (λ w. record w { suspended = true }) d.catalog;
      lines = d.lines ++ due_line v (Suspended r) ∷ [];
      read = d.read;
    }

-- The view is refreshed by this method to the SCN of the commit.
abbrev pub refresh_due : Dues → View → Method → Dues
refresh_due d v used =
    record {
      catalog = change_view v.def.view (refreshed_to d.catalog.scn) d.catalog;
      lines = d.lines ++ due_line v (By used) ∷ [];
      read = d.read + refresh_reads d.catalog v used;
    }

-- A FAST view is refreshed by its logs or suspended, a FORCE view is refreshed by its logs or
-- completely, a COMPLETE one completely. PARTITION is no method of a definition.
abbrev pub do_due : Dues → View → Dues
do_due d v = by v.def.method (restriction d.catalog v)
  where
    by : Method → Option Restriction → Dues
    by Fast None = refresh_due d v Fast
    by Fast (Some r) = suspend d v (restricted (defs_now d.catalog) r)
    by Force None = refresh_due d v Fast
    by Force (Some r) = refresh_due d v Complete
    by Complete r = refresh_due d v Complete
    by Partition r = refresh_due d v Complete

-- The views that are due, in the order of creation.
abbrev pub do_dues : Catalog → List TableChange → Dues
do_dues c changes = fold do_due (record { catalog = c; lines = []; read = 0 }) (filter (is_due changes) c.views)

-- ---- touched partitions

-- The values of the changed row, old and new.
abbrev pub sides : Change → List (List Value)
sides c = option_to_list c.old ++ option_to_list c.new

-- The partitions that have the old or the new values of a changed row, with their intervals.
abbrev pub touched_parts : Table → List Change → List (Part × Interval)
touched_parts t changes =
    filter (λ p. list_any (λ vs. mark_of t vs == p.0.number) (flat_map sides changes)) (part_intervals t)

-- The touch of a partition at this SCN.
abbrev pub part_touch : ℕ → ℕ → Bool → Part × Interval → Touched
part_touch scn table by_maintenance p =
    record { table = table; touch = record { interval = p.1; number = p.0.number; scn = scn }; by_maintenance = by_maintenance }

-- The changes of one table.
abbrev pub changes_in : List TableChange → ℕ → List Change
changes_in changes table = map (λ c. c.change) (filter (λ c. c.table == table) changes)

-- The partitions that a commit touches, each once, table by table.
abbrev pub commit_touches : ℕ → Base → List TableChange → List Touched
commit_touches scn base changes =
    flat_map (λ p. map (part_touch scn p.0 false) (touched_parts p.1 (changes_in changes p.0))) (enumerate_from 0 base)

-- ---- the commit

-- The change with the SCN of its commit.
abbrev pub noted : ℕ → TableChange → Noted
noted scn c = record { scn = scn; table = c.table; change = c.change }

-- The catalog with the block's changes at the next SCN. A block that changes nothing is a commit too.
abbrev pub after_block : Catalog → Progress → Catalog
after_block c p =
    let d = with_base c p.base in
    record d { changes = c.changes ++ map (noted d.scn) p.changes; touches = c.touches ++ commit_touches d.scn p.base p.changes }

-- COMMITTED: SCN after the commit, ROWS the number of changes, where the two of a moved row count once, READ the rows of its scans and
-- of its refreshes.
abbrev pub committed : State → Progress → Step
committed s p =
    let d = do_dues (after_block s.catalog p) p.changes in
    replied (with_catalog s d.catalog)
    (Commit (record { scn = d.catalog.scn; rows = p.rows; read = p.scanned + d.read; views = d.lines }))

-- The block's first refusal, or the commit.
abbrev pub commit_result : State → Result Progress Stopped → Step
commit_result s (Err stopped) = refused_at s stopped
commit_result s (Ok p) = committed s p

-- The commit step: the block's effect over the base state of now. A READ ONLY transaction refuses it.
abbrev pub commit : State → Session → Block → Step
commit s x b =
    cond (only_reads x) (refused s 0 OnlyReading)
    (commit_result s (effect (base_now s.catalog) (kept_versions s.catalog) b.statements))
