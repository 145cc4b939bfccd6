-- A log that notes the changes of its table holds the rows of the definition of a log.
use Rattle.std.specs.Prelude.{◌≡◌, ◌<◌, ◌≤◌, All, List, [], flat_map, length, ℕ, ◌++◌, ◌∷◌}
use Rattle.wh_base.specs.declared.logs.LogFacts.{LogFacts}
use Rattle.def_history.specs.Catalog.{Catalog, Log, Noted}
use Rattle.def_history.specs.History.{noted_changes}
use Rattle.def_history.specs.Logs.{log_history, log_rows, sequenced, sides_of}
use Rattle.wh_log.specs.Held.{Held}
use Rattle.wh_log.specs.Log.{after, begun, between, noted_at, purged, with_noted}

-- The log noted these changes, in this order: it holds the rows of their sides that are above FROM, and it numbered them all.
pub record HasNoted (log : Held) (changes : List Noted) : Type 0 where
  pub rows : log.rows ≡ after log.facts.from (sequenced log.facts (flat_map (sides_of log.facts) changes))
  pub numbered : log.numbered ≡ length (flat_map (sides_of log.facts) changes)

pub record Laws : Type 0 where
  -- at its birth it noted nothing
  pub begins : (facts : LogFacts) → HasNoted (begun facts) []
  -- to note a change is to have noted one more
  pub notes : (log : Held) (changes : List Noted) (n : Noted) → HasNoted log changes → log.facts.from < n.scn → HasNoted (with_noted log (noted_at n.scn n.change)) (changes ++ n ∷ [])
  -- a purge takes nothing back
  pub purges : (log : Held) (changes : List Noted) (to : ℕ) → HasNoted log changes → HasNoted (purged log to) changes
  -- nor does a reservation
  pub reserves : (log : Held) (changes : List Noted) (room : ℕ) → HasNoted log changes → HasNoted (record log { room = room }) changes
  -- the log of a table that noted the changes of the table since its birth holds the rows of the definition
  pub holds : (c : Catalog) (l : Log) (log : Held) → log.facts ≡ l.facts → HasNoted log (noted_changes c l.table l.born c.scn) → log.rows ≡ log_rows c l
  -- and from FROM on a suffix misses none of them, purged or not
  pub suffixes : (c : Catalog) (l : Log) (log : Held) (from to : ℕ) → log.facts ≡ l.facts → HasNoted log (noted_changes c l.table l.born c.scn) → l.facts.from ≤ from
      → between from to log.rows ≡ between from to (log_history c l)
  -- no row of the log has a higher SCN than all changes noted
  pub latest : (log : Held) (changes : List Noted) (scn : ℕ) → HasNoted log changes → All (λ n. n.scn ≤ scn) changes → All (λ r. r.scn ≤ scn) log.rows
  -- a change has two sides at the most
  pub two : (facts : LogFacts) (n : Noted) → length (sides_of facts n) ≤ 2
