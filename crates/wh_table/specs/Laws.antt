-- What the calls of a table mean for the table of the definitions that it is at an SCN.
use Rattle.std.specs.List.{All}
use Rattle.std.specs.Prelude.{◌≡◌, ◌<◌, ◌≤◌, List, Some, [], cond, length, nat_le, slice_get, true, ℕ, ◌∷◌}
use Rattle.wh_base.specs.Tables.{rows_shown, table_after, with_table}
use Rattle.wh_base.specs.declared.values.Value.{Value}
use Rattle.def_meaning.specs.Joined as meaning
use Rattle.wh_segment.specs.Versions.{is_live}
use Rattle.wh_segment.specs.declared.version.Version.{Version}
use Rattle.wh_table.specs.Kept.{LivesIn, tables_at, with_change}
use Rattle.wh_table.specs.Stored.{IsStored, Stored, base_seen, deleted, deletion, inserted, insertion, last_scn, live_count, rows_living, seen, update, updated}

-- At each SCN from that of the change on, the table of the definitions is the one after the change, and at each before it the one that it was.
pub record Laws : Type 0 where
  pub inserts : (s : Stored) (scn : ℕ) (values : List Value) (at : ℕ) → IsStored s → last_scn s.versions ≤ scn
      → seen at (inserted scn values s) ≡ cond (nat_le scn at) (table_after (seen at s) (insertion s values ∷ [])) (seen at s)
  pub deletes : (s : Stored) (scn place : ℕ) (v : Version) (at : ℕ) → IsStored s → last_scn s.versions ≤ scn → slice_get s.versions place ≡ Some v → is_live v ≡ true
      → seen at (deleted scn place s) ≡ cond (nat_le scn at) (table_after (seen at s) (deletion s place ∷ [])) (seen at s)
  pub updates : (s : Stored) (scn place : ℕ) (values : List Value) (v : Version) (at : ℕ) → IsStored s → last_scn s.versions ≤ scn → slice_get s.versions place ≡ Some v → is_live v ≡ true
      → seen at (updated scn place values s) ≡ cond (nat_le scn at) (table_after (seen at s) (update s place values ∷ [])) (seen at s)
  -- a change of a table is one of the base state
  pub changes : (change : Stored → Stored) (tables : List Stored) (at n : ℕ) (s : Stored) → slice_get tables n ≡ Some s
      → base_seen at (with_change n change tables) ≡ with_table (base_seen at tables) n (seen at (change s))
  -- from the last change on the rows are those that live now
  pub settles : (s : Stored) (at : ℕ) → last_scn s.versions ≤ at → length (rows_living at s) ≡ live_count s
  -- the rows at the places of tables, by ascending rowid, are those of the base state that they are
  pub shows : (tables : List Stored) (at n : ℕ) → All IsStored tables → rows_shown (tables_at at tables) n ≡ meaning.rows_at (base_seen at tables) n
  -- a change at an SCN isn't there in the base state of an SCN below
  pub inserts_later : (tables : List Stored) (scn at n : ℕ) (values : List Value) → All IsStored tables → All (λ s. last_scn s.versions ≤ scn) tables → at < scn
      → base_seen at (with_change n (inserted scn values) tables) ≡ base_seen at tables
  pub deletes_later : (tables : List Stored) (scn at n place : ℕ) → All IsStored tables → All (λ s. last_scn s.versions ≤ scn) tables → LivesIn tables n place → at < scn
      → base_seen at (with_change n (deleted scn place) tables) ≡ base_seen at tables
  pub updates_later : (tables : List Stored) (scn at n place : ℕ) (values : List Value) → All IsStored tables → All (λ s. last_scn s.versions ≤ scn) tables → LivesIn tables n place → at < scn
      → base_seen at (with_change n (updated scn place values) tables) ≡ base_seen at tables
  -- from the last change on the table is the same
  pub rests : (s : Stored) (from to : ℕ) → last_scn s.versions ≤ from → from ≤ to → seen from s ≡ seen to s
