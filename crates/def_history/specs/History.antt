-- What happened to a table between two SCNs, and which row versions are kept.
use Rattle.std.specs.List.{list_any}
use Rattle.std.specs.Prelude.{Bool, List, filter, flat_map, length, map, nat_le, nat_lt, not, ℕ, ◌&&◌, ◌++◌, ◌==◌, ◌||◌}
use Rattle.wh_base.specs.Lists.{distinct}
use Rattle.wh_base.specs.Tables.{Base}
use Rattle.wh_base.specs.declared.tables.Change.{Change}
use Rattle.wh_base.specs.declared.tables.Touch.{Touch}
use Rattle.def_effect.specs.Block.{is_live, same_place}
use Rattle.def_history.specs.Catalog.{Catalog, Noted, Touched}

-- The SCN is above `from` and at most `to`.
abbrev pub within : ℕ → ℕ → ℕ → Bool
within from to scn = nat_lt from scn && nat_le scn to

-- The changes of a table by commits with an SCN above `from` and at most `to`, in the order made, each with its SCN.
abbrev pub noted_changes : Catalog → ℕ → ℕ → ℕ → List Noted
noted_changes c table from to = filter (λ n. (n.table == table) && within from to n.scn) c.changes

-- The same without the SCN.
abbrev pub changes_of : Catalog → ℕ → ℕ → ℕ → List Change
changes_of c table from to = map (λ n. n.change) (noted_changes c table from to)

-- The touches of a table's partitions in this range, by commits and by maintenance.
abbrev pub noted_touches : Catalog → ℕ → ℕ → ℕ → List Touched
noted_touches c table from to = filter (λ t. (t.table == table) && within from to t.touch.scn) c.touches

-- The SCN, interval and number of each partition of the table that was touched in this range.
abbrev pub touches_of : Catalog → ℕ → ℕ → ℕ → List Touch
touches_of c table from to = map (λ t. t.touch) (noted_touches c table from to)

-- There was an ADD, DROP, TRUNCATE, SPLIT or MERGE of a partition of the table in this range.
abbrev pub maintained : Catalog → ℕ → ℕ → ℕ → Bool
maintained c table from to = list_any (λ t. t.by_maintenance) (noted_touches c table from to)

-- ---- row versions

-- The rows, each by its table and its rowid, that got this rowid by a SPLIT or MERGE at this SCN.
abbrev pub renumbered_at : Catalog → ℕ → List (ℕ × ℕ)
renumbered_at c scn = map (λ n. (n.table, n.rowid)) (filter (λ n. n.scn == scn) c.renumbered)

-- The rows, each by its table and its rowid, that the commit at this SCN changed, or that got this rowid at it.
abbrev pub changed_at : Catalog → ℕ → List (ℕ × ℕ)
changed_at c scn = map (λ n. (n.table, n.change.rowid)) (filter (λ n. n.scn == scn) c.changes) ++ renumbered_at c scn

-- The row is one of these.
abbrev pub is_among : List (ℕ × ℕ) → ℕ × ℕ → Bool
is_among ps p = list_any (same_place p) ps

-- A row version begins at a commit that inserted or updated the row, and at a SPLIT or MERGE that gave it a new rowid, if the
-- row is live after it: the versions that begin at this base state, each as the SCN and the row.
abbrev pub versions_begun : Catalog → ℕ × Base → List (ℕ × (ℕ × ℕ))
versions_begun c p = map (λ r. (p.0, r)) (filter (is_live p.1) (distinct same_place (changed_at c p.0)))

-- All row versions that were ever made.
abbrev pub versions : Catalog → List (ℕ × (ℕ × ℕ))
versions c = flat_map (versions_begun c) c.past

-- The version has ended at or before this SCN: a commit after the version's begin changed the row, or the row went with its
-- partition or got another rowid.
abbrev pub ended_by : Catalog → ℕ → ℕ × (ℕ × ℕ) → Bool
ended_by c scn v = list_any (λ p. within v.0 scn p.0 && (is_among (changed_at c p.0) v.1 || not (is_live p.1 v.1))) c.past

-- The versions that haven't ended, or ended above this SCN, in all tables: their number.
abbrev pub versions_kept_above : Catalog → ℕ → ℕ
versions_kept_above c oldest = length (filter (λ v. not (ended_by c oldest v)) (versions c))

-- The row versions that are kept: those that AS OF with an SCN from the oldest on may have to show.
abbrev pub kept_versions : Catalog → ℕ
kept_versions c = versions_kept_above c c.oldest
