-- What the calls of a segment mean for the rows that are there at an SCN.
use Rattle.std.specs.Prelude.{◌≡◌, ◌≤◌, List, None, Some, [], cond, is_some, map, nat_le, slice_get, slice_set, true, unwrap_or, ℕ, ◌++◌, ◌∷◌}
use Rattle.wh_base.specs.Lists.{where_true}
use Rattle.wh_base.specs.declared.values.Value.{Value}
use Rattle.wh_segment.specs.Versions.{born_at, ended_at, is_live, purged, rows_at, visible_at}
use Rattle.wh_segment.specs.declared.version.Version.{Version}

pub record Laws : Type 0 where
  -- a version is visible exactly where its place has a row
  pub visible : (vs : List Version) (place at : ℕ) → visible_at vs place at ≡ is_some (unwrap_or (slice_get (rows_at at vs) place) None)
  -- an appended version adds its row from its SCN on, and nothing before
  pub appends : (vs : List Version) (scn rowid part : ℕ) (values : List Value) (at : ℕ)
      → rows_at at (vs ++ born_at scn rowid part values ∷ []) ≡ rows_at at vs ++ where_true (nat_le scn at) (record { rowid = rowid; mark = part; values = values }) ∷ []
  -- an ended version takes its row away from that SCN on, and changes nothing before
  pub ends : (vs : List Version) (place scn at : ℕ) (v : Version) → slice_get vs place ≡ Some v → is_live v ≡ true
      → rows_at at (ended_at place scn vs) ≡ cond (nat_le scn at) (slice_set (rows_at at vs) place None) (rows_at at vs)
  -- a purge changes no row at its SCN or after it
  pub purges : (vs : List Version) (to at : ℕ) → to ≤ at → rows_at at (purged to vs) ≡ rows_at at vs
  -- and each place keeps its rowid and its partition
  pub keeps : (vs : List Version) (to : ℕ) → map {B = ℕ × ℕ} (λ v. (v.rowid, v.part)) (purged to vs) ≡ map (λ v. (v.rowid, v.part)) vs
