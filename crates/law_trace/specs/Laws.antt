-- Why the newest rows and the images that sessions took are enough: what each event of a trace leaves as it was.
use Rattle.std.specs.List.{All, AllPairs, list_any}
use Rattle.std.specs.Option.{ForSome}
use Rattle.std.specs.Prelude.{filter, map, Err, Ok, [], length, ◌+◌, ◌≡◌, ◌≢◌, ◌<◌, ◌≤◌, List, None, Some, false, fold, ℕ, ◌++◌, ◌∷◌, true}
use Rattle.wh_base.specs.Tables.{Base, table_at, with_table}
use Rattle.wh_base.specs.Parts.{entry_bearer}
use Rattle.wh_base.specs.declared.statements.Block.{Block}
use Rattle.wh_base.specs.declared.statements.Command.TheVariants as commands
use Rattle.wh_base.specs.declared.statements.Event.{Event}
use Rattle.wh_base.specs.declared.tables.TableDef.{TableDef}
use Rattle.wh_base.specs.Lists.{distinct}
use Rattle.def_effect.specs.Partitions.{Altering}
use Rattle.def_journal.specs.Statements.{altered}
use Rattle.def_effect.specs.Block.{is_live, same_place, Progress, Stopped, effect, enabled, max_rows, max_versions, new_versions}
use Rattle.def_history.specs.Catalog.{Catalog, View, base_at, base_now, defs_now, is_nested, names_taken, view_numbered}
use Rattle.def_history.specs.History.{changes_of, kept_versions, maintained, touches_of}
use Rattle.def_history.specs.Staleness.{content}
use Rattle.def_journal.specs.Journal.{state_after, state_of}
use Rattle.def_journal.specs.Refreshing.{begun_view}
use Rattle.def_journal.specs.State.{Begun, State, only_reads, session_of, with_base}
use Rattle.def_meaning.specs.Meaning.{stored}
use Rattle.law_trace.specs.Rows.{Fits, HasParents, IsDefined, IsGiven, IsOlder, IsUnique}
use Rattle.law_trace.specs.Reached.{HasBegun, HasOpened, IsSameView, Precedes, asks_below_zero, catalog_of, changes_versions, is_of, still_table, stills}

-- What a session keeps is changed by its own events alone, whatever the state.
pub record SessionLaws : Type 0 where
  pub event : (s : State) (e : Event) (n : ℕ) → is_of n e ≡ false → session_of (state_after s e) n ≡ session_of s n
  pub events : (s : State) (events : List Event) (n : ℕ) → list_any (is_of n) events ≡ false
      → session_of (fold state_after s events) n ≡ session_of s n
  pub traces : (trace more : List Event) (n : ℕ) → list_any (is_of n) more ≡ false
      → session_of (state_of (trace ++ more)) n ≡ session_of (state_of trace) n

-- The past of the base state only grows, at its new end.
pub record BaseLaws : Type 0 where
  -- neither the SCN nor the least one that AS OF may ask for ever falls
  pub grown : (trace more : List Event) → (catalog_of trace).scn ≤ (catalog_of (trace ++ more)).scn
  pub oldest : (trace more : List Event) → (catalog_of trace).oldest ≤ (catalog_of (trace ++ more)).oldest
  -- what the base state was at an SCN that was reached stays
  pub stays : (trace more : List Event) (p : ℕ) → p ≤ (catalog_of trace).scn → base_at (catalog_of (trace ++ more)) p ≡ base_at (catalog_of trace) p
  -- the SCNs of the past fall from the latest on, and none is above the SCN of now
  pub falls : (trace : List Event) → AllPairs (λ p q. q.0 < p.0) (catalog_of trace).past
  pub bounded : (trace : List Event) → All (λ p. p.0 ≤ (catalog_of trace).scn) (catalog_of trace).past
  -- the first of the past is the base state of now
  pub newest : (trace : List Event) → (scn : ℕ) × (older : List (ℕ × Base)) × ((catalog_of trace).past ≡ (scn, base_now (catalog_of trace)) ∷ older)

-- The changes and touches up to an SCN that was reached stay.
pub record ChangeLaws : Type 0 where
  pub changes : (trace more : List Event) (table from p : ℕ) → p ≤ (catalog_of trace).scn
      → changes_of (catalog_of (trace ++ more)) table from p ≡ changes_of (catalog_of trace) table from p
  pub touches : (trace more : List Event) (table from p : ℕ) → p ≤ (catalog_of trace).scn
      → touches_of (catalog_of (trace ++ more)) table from p ≡ touches_of (catalog_of trace) table from p
  pub maintenance : (trace more : List Event) (table from p : ℕ) → p ≤ (catalog_of trace).scn
      → maintained (catalog_of (trace ++ more)) table from p ≡ maintained (catalog_of trace) table from p
  -- their SCNs never fall, and none is above that of now
  pub rising : (trace : List Event) → AllPairs (λ m n. m.scn ≤ n.scn) (catalog_of trace).changes
  pub bounded : (trace : List Event) → All (λ n. n.scn ≤ (catalog_of trace).scn) (catalog_of trace).changes
  pub touched_rising : (trace : List Event) → AllPairs (λ t u. t.touch.scn ≤ u.touch.scn) (catalog_of trace).touches
  pub touched : (trace : List Event) → All (λ t. t.touch.scn ≤ (catalog_of trace).scn) (catalog_of trace).touches

-- A view's number is its own for ever, and all of its definition but `rewrite` stays.
pub record ViewLaws : Type 0 where
  -- the numbers of the views ascend, from 1 at least up to how many were made at most
  pub ascending : (trace : List Event) → AllPairs (λ v w. v.def.view < w.def.view) (catalog_of trace).views
  pub first : (trace : List Event) → All (λ v. 1 ≤ v.def.view) (catalog_of trace).views
  pub last : (trace : List Event) → All (λ v. v.def.view ≤ (catalog_of trace).views_made) (catalog_of trace).views
  pub made : (trace more : List Event) → (catalog_of trace).views_made ≤ (catalog_of (trace ++ more)).views_made
  -- the names of the views differ
  pub named : (trace : List Event) → AllPairs (λ v w. v.def.name ≢ w.def.name) (catalog_of trace).views
  -- no point is above the SCN
  pub points : (trace : List Event) → All (λ v. ForSome v.point (λ p. p ≤ (catalog_of trace).scn)) (catalog_of trace).views
  -- a view that is there before and after is the same view
  pub same : (trace more : List Event) (n : ℕ) (v w : View) → view_numbered (catalog_of trace) n ≡ Some v
      → view_numbered (catalog_of (trace ++ more)) n ≡ Some w → IsSameView v.def w.def
  -- a number that was given and that no view has is never a view's again
  pub gone : (trace more : List Event) (n : ℕ) → n ≤ (catalog_of trace).views_made → view_numbered (catalog_of trace) n ≡ None
      → view_numbered (catalog_of (trace ++ more)) n ≡ None

-- Views over views.
pub record NestLaws : Type 0 where
  -- a view over a view is never registered, so no purge waits for it
  pub registered : (trace : List Event) → All (λ v. is_nested v ≡ true → v.registered ≡ false) (catalog_of trace).views
  -- the view beneath is there as long as one stands over it
  pub beneath : (trace : List Event) → All (λ v. ForSome v.def.beneath (λ n. (u : View) × (view_numbered (catalog_of trace) n ≡ Some u))) (catalog_of trace).views

-- What a session keeps from a begin or from SET TRANSACTION READ ONLY is the catalog of a front of the trace, so the catalog of now keeps all
-- that was past then.
pub record ImageLaws : Type 0 where
  pub begun : (trace : List Event) (n : ℕ) (b : Begun) → (session_of (state_of trace) n).begun ≡ Some b → HasBegun trace n b
  pub opened : (trace : List Event) (n : ℕ) (image : Catalog) → (session_of (state_of trace) n).reading ≡ Some image → HasOpened trace n image
  pub begun_before : (trace : List Event) (n : ℕ) (b : Begun) → (session_of (state_of trace) n).begun ≡ Some b → Precedes b.image (catalog_of trace)
  pub opened_before : (trace : List Event) (n : ℕ) (image : Catalog) → (session_of (state_of trace) n).reading ≡ Some image → Precedes image (catalog_of trace)

-- Tables only come, and no definition of a table changes but for its row movement, which ALTER TABLE switches.
pub record TableLaws : Type 0 where
  pub grown : (trace more : List Event) → (later : List TableDef) × (stills (catalog_of (trace ++ more)) ≡ stills (catalog_of trace) ++ later)
  -- the names of all tables, views and dimensions differ
  pub named : (trace : List Event) → AllPairs (λ a b. a ≢ b) (names_taken (catalog_of trace))

-- A refresh that a session has begun, whose view is still there: the base state at the SCN of its image is that of the image, the image has
-- the view with the same query, and so the entries computed over the image are what the view stores at that SCN.
pub record Stands (now : Catalog) (b : Begun) (w : View) : Type 0 where
  pub then : View
  pub found : begun_view b ≡ Some then
  pub same : IsSameView then.def w.def
  pub base : base_at now b.image.scn ≡ base_now b.image
  pub content : stored w.def.query (base_at now b.image.scn) ≡ stored then.def.query (base_now b.image)

pub record InstallLaws : Type 0 where
  -- what a view stores stays until its point changes
  pub lasts : (trace more : List Event) (n : ℕ) (v w : View) → view_numbered (catalog_of trace) n ≡ Some v
      → view_numbered (catalog_of (trace ++ more)) n ≡ Some w → w.point ≡ v.point → content (catalog_of (trace ++ more)) w ≡ content (catalog_of trace) v
  pub stands : (trace : List Event) (n k : ℕ) (b : Begun) (w : View) → (session_of (state_of trace) n).begun ≡ Some b → b.view ≡ Some k
      → view_numbered (catalog_of trace) k ≡ Some w → Stands (catalog_of trace) b w
  -- of each view of the image that is still there, one of a list or one over a view among them: what it stores at an SCN of the image it still does
  pub each : (trace : List Event) (n k p : ℕ) (b : Begun) (v w : View) → (session_of (state_of trace) n).begun ≡ Some b → view_numbered b.image k ≡ Some v
      → view_numbered (catalog_of trace) k ≡ Some w → p ≤ b.image.scn → stored w.def.query (base_at (catalog_of trace) p) ≡ stored v.def.query (base_at b.image p)

-- What holds of the rows of every table.
pub record RowLaws : Type 0 where
  -- the rowids ascend, from 1 at least up to how many were given at most
  pub older : (trace : List Event) → All (λ t. AllPairs IsOlder t.rows) (base_now (catalog_of trace))
  pub given : (trace : List Event) → All (λ t. All (IsGiven t.given) t.rows) (base_now (catalog_of trace))
  -- the keys hold: no two rows have the same value in a key
  pub keys : (trace : List Event) → All (λ t. All (IsUnique t) t.def.keys) (base_now (catalog_of trace))
  -- the enabled foreign keys hold
  pub parents : (trace : List Event) → All (λ t. All (HasParents (base_now (catalog_of trace)) t) (enabled t.def)) (base_now (catalog_of trace))
  -- each row fits its table, and no table has too many
  pub fits : (trace : List Event) → All (λ t. All (λ r. Fits t r.values) t.rows) (base_now (catalog_of trace))
  pub few : (trace : List Event) → All (λ t. length t.rows ≤ max_rows) (base_now (catalog_of trace))
  -- the definitions are right
  pub defined : (trace : List Event) → All (IsDefined (defs_now (catalog_of trace))) (defs_now (catalog_of trace))

-- A table changes by commits and by ALTER TABLE alone: where neither is noted after an SCN, the table is as it was then.
pub record UntouchedLaws : Type 0 where
  -- a table that came later has no rows
  pub rows : (trace : List Event) (table p : ℕ) → changes_of (catalog_of trace) table p (catalog_of trace).scn ≡ []
      → maintained (catalog_of trace) table p (catalog_of trace).scn ≡ false → (table_at (base_now (catalog_of trace)) table).rows ≡ (table_at (base_at (catalog_of trace) p) table).rows
  -- one that was there is the same in all its parts but for its row movement
  pub whole : (trace : List Event) (table p : ℕ) → changes_of (catalog_of trace) table p (catalog_of trace).scn ≡ []
      → maintained (catalog_of trace) table p (catalog_of trace).scn ≡ false → table < length (base_at (catalog_of trace) p)
      → still_table (table_at (base_now (catalog_of trace)) table) ≡ still_table (table_at (base_at (catalog_of trace) p) table)

-- How many row versions are kept is known by counting those that each block makes.
pub record VersionLaws : Type 0 where
  -- an accepted block adds those that it makes
  pub block : (trace : List Event) (e : Event) (b : Block) (p : Progress) → e.command ≡ commands.Block b → only_reads (session_of (state_of trace) (entry_bearer e.entry)) ≡ false
      → effect (base_now (catalog_of trace)) (kept_versions (catalog_of trace)) b.statements ≡ Ok p → (catalog_of trace).oldest ≤ (catalog_of trace).scn
      → kept_versions (catalog_of (trace ++ e ∷ [])) ≡ kept_versions (catalog_of trace) + new_versions p.base p.changes
  -- a block that is refused leaves them, and so does one in a READ ONLY transaction
  pub stopped : (trace : List Event) (e : Event) (b : Block) (stop : Stopped) → e.command ≡ commands.Block b
      → effect (base_now (catalog_of trace)) (kept_versions (catalog_of trace)) b.statements ≡ Err stop → kept_versions (catalog_of (trace ++ e ∷ [])) ≡ kept_versions (catalog_of trace)
  pub reading : (trace : List Event) (e : Event) (b : Block) → e.command ≡ commands.Block b → only_reads (session_of (state_of trace) (entry_bearer e.entry)) ≡ true
      → kept_versions (catalog_of (trace ++ e ∷ [])) ≡ kept_versions (catalog_of trace)
  -- every event but blocks, SPLIT, MERGE and PURGE UNDO leaves them, refused or not: also CREATE TABLE and the other forms of ALTER TABLE
  pub others : (trace : List Event) (e : Event) → changes_versions e.command ≡ false → (catalog_of trace).oldest ≤ (catalog_of trace).scn
      → kept_versions (catalog_of (trace ++ e ∷ [])) ≡ kept_versions (catalog_of trace)
  -- the oldest SCN that AS OF may ask for was reached, where no PURGE UNDO asks for one below zero, as none that is read does
  pub oldest : (trace : List Event) → list_any asks_below_zero trace ≡ false → (catalog_of trace).oldest ≤ (catalog_of trace).scn
  -- ALTER TABLE adds the rows that it gave new rowids and that are there, each once
  pub altered_rows : (trace : List Event) (n : ℕ) (a : Altering) → (catalog_of trace).oldest ≤ (catalog_of trace).scn
      → kept_versions (altered (catalog_of trace) n a)
      ≡ length (filter (is_live (with_table (base_now (catalog_of trace)) n a.table)) (distinct same_place (map (λ rowid. (n, rowid)) a.renumbered))) + kept_versions (catalog_of trace)
  -- a new base state without a change of a row leaves them
  pub based : (trace : List Event) (base : Base) → (catalog_of trace).oldest ≤ (catalog_of trace).scn → kept_versions (with_base (catalog_of trace) base) ≡ kept_versions (catalog_of trace)
  -- nothing but the past of the base state, the changes, the rowids that SPLIT and MERGE gave and the oldest SCN counts
  pub same : (c d : Catalog) → d.past ≡ c.past → d.changes ≡ c.changes → d.renumbered ≡ c.renumbered → d.oldest ≡ c.oldest → kept_versions d ≡ kept_versions c
  -- there are never more than there may be
  pub few : (trace : List Event) → kept_versions (catalog_of trace) ≤ max_versions
