-- The laws of a segment.
use Rattle.std.proofs.Common.{◌≡◌, ◌∙◌, sym, ap, refl, Bool, true, false, cond, List, [], ◌∷◌, ◌++◌, ◌<◌, ◌≤◌, Some, None, Option, ℕ, zero, suc, map, nat_le, nat_lt, slice_get, slice_set, is_some, unwrap_or, ◌&&◌, arith}
use Rattle.std.proofs.Math.Bool.{and-false, and-true}
use Rattle.std.proofs.lemmas.Bool.{leb-true, leb-false, le-leb, lt-leb}
use Rattle.wh_base.specs.Lists.{option_case, where_true}
use Rattle.wh_base.specs.declared.tables.RowAt.{RowAt}
use Rattle.wh_base.specs.declared.values.Value.{Value}
use Rattle.wh_segment.specs.Laws.{Laws}
use Rattle.wh_segment.specs.Versions.{born_at, ended, ended_at, is_live, is_past, is_visible, lives_on, purged, removed, row_at, rows_at, visible_at}
use Rattle.wh_segment.specs.declared.version.Version.{Version}

-- a row stands where its version is visible
row_there : (at : ℕ) (v : Version) → is_visible at v ≡ is_some (row_at at v)
row_there at v = by v.values (nat_le v.born at && lives_on at v)
  where
    by : (values : Option (List Value)) (b : Bool)
        → (is_some values && b) ≡ is_some {T = RowAt} (option_case values None (λ ws. where_true (is_some values && b) (record { rowid = v.rowid; mark = v.part; values = ws })))
    by None b = refl
    by (Some ws) true = refl
    by (Some ws) false = refl

visible_law : (vs : List Version) (place at : ℕ) → visible_at vs place at ≡ is_some (unwrap_or (slice_get (rows_at at vs) place) None)
visible_law [] place at = refl
visible_law (v ∷ vs) zero at = row_there at v
visible_law (v ∷ vs) (suc place) at = visible_law vs place at

appends_law : (vs : List Version) (scn rowid part : ℕ) (values : List Value) (at : ℕ)
    → rows_at at (vs ++ born_at scn rowid part values ∷ []) ≡ rows_at at vs ++ where_true (nat_le scn at) (record { rowid = rowid; mark = part; values = values }) ∷ []
appends_law [] scn rowid part values at = ap (λ b. where_true b (record { rowid = rowid; mark = part; values = values }) ∷ []) (and-true (nat_le scn at))
appends_law (v ∷ vs) scn rowid part values at = ap (λ rows. row_at at v ∷ rows) (appends_law vs scn rowid part values at)

not_yet : (scn at : ℕ) (b : Bool) → nat_le scn at ≡ b → nat_lt at scn ≡ cond b false true
not_yet scn at true e = let since : scn ≤ at = leb-true scn at e in lt-leb (suc at) scn (omega arith)
not_yet scn at false e = let before : at < scn = leb-false scn at e in le-leb (suc at) scn (omega arith)

-- an ended version has its row before that SCN alone
row_ended : (scn at : ℕ) (v : Version) → is_live v ≡ true → row_at at (ended scn v) ≡ cond (nat_le scn at) None (row_at at v)
row_ended scn at v live = by v.died v.values live (nat_le scn at) refl
  where
    by : (died : Option ℕ) (values : Option (List Value)) → is_live (record v { died = died; values = values }) ≡ true → (b : Bool) → nat_le scn at ≡ b
        → row_at at (record v { died = Some scn; values = values }) ≡ cond b None (row_at at (record v { died = died; values = values }))
    by (Some d) values f b e = cc
    by None None f b e = cc
    by None (Some ws) f true e =
        ap (λ c. where_true (nat_le v.born at && c) (record { rowid = v.rowid; mark = v.part; values = ws })) (not_yet scn at true e)
        ∙ ap (λ c. where_true c (record { rowid = v.rowid; mark = v.part; values = ws })) (and-false (nat_le v.born at))
    by None (Some ws) f false e = ap (λ c. where_true (nat_le v.born at && c) (record { rowid = v.rowid; mark = v.part; values = ws })) (not_yet scn at false e)

set_law : (vs : List Version) (place scn at : ℕ) (v : Version) → slice_get vs place ≡ Some v → is_live v ≡ true
    → rows_at at (slice_set vs place (ended scn v)) ≡ cond (nat_le scn at) (slice_set (rows_at at vs) place None) (rows_at at vs)
set_law [] place scn at v e live = cc
set_law (w ∷ vs) zero scn at v e live =
    let same : v ≡ w = cc in
    ap (λ row. row ∷ rows_at at vs) (row_ended scn at v live ∙ ap (λ u. cond (nat_le scn at) None (row_at at u)) same) ∙ by (nat_le scn at)
  where
    by : (b : Bool) → cond b None (row_at at w) ∷ rows_at at vs ≡ cond b (None ∷ rows_at at vs) (row_at at w ∷ rows_at at vs)
    by true = refl
    by false = refl
set_law (w ∷ vs) (suc place) scn at v e live = ap (λ rows. row_at at w ∷ rows) (set_law vs place scn at v e live) ∙ by (nat_le scn at)
  where
    by : (b : Bool) → row_at at w ∷ cond b (slice_set (rows_at at vs) place None) (rows_at at vs) ≡ cond b (row_at at w ∷ slice_set (rows_at at vs) place None) (row_at at w ∷ rows_at at vs)
    by true = refl
    by false = refl

ends_law : (vs : List Version) (place scn at : ℕ) (v : Version) → slice_get vs place ≡ Some v → is_live v ≡ true
    → rows_at at (ended_at place scn vs) ≡ cond (nat_le scn at) (slice_set (rows_at at vs) place None) (rows_at at vs)
ends_law vs place scn at v e live = ap (λ o. rows_at at (option_case o vs (λ w. slice_set vs place (ended scn w)))) e ∙ set_law vs place scn at v e live

-- a removed version had no row any more
row_purged : (to at : ℕ) (v : Version) → to ≤ at → row_at at (cond (is_past to v) (removed v) v) ≡ row_at at v
row_purged to at v h = by v.died v.values
  where
    gone : (d : ℕ) (ws : List Value) (b : Bool) → nat_le d to ≡ b
        → row_at at (cond b (removed (record v { died = Some d; values = Some ws })) (record v { died = Some d; values = Some ws })) ≡ row_at at (record v { died = Some d; values = Some ws })
    gone d ws true e =
        let dead : d ≤ to = leb-true d to e in
        let past : nat_lt at d ≡ false = lt-leb (suc at) d (omega arith) in
        sym (ap (λ c. where_true (nat_le v.born at && c) (record { rowid = v.rowid; mark = v.part; values = ws })) past
        ∙ ap (λ c. where_true c (record { rowid = v.rowid; mark = v.part; values = ws })) (and-false (nat_le v.born at)))
    gone d ws false e = refl

    by : (died : Option ℕ) (values : Option (List Value))
        → row_at at (cond (is_past to (record v { died = died; values = values })) (removed (record v { died = died; values = values })) (record v { died = died; values = values }))
        ≡ row_at at (record v { died = died; values = values })
    by died None = refl
    by None (Some ws) = refl
    by (Some d) (Some ws) = gone d ws (nat_le d to) refl

purges_law : (vs : List Version) (to at : ℕ) → to ≤ at → rows_at at (purged to vs) ≡ rows_at at vs
purges_law [] to at h = refl
purges_law (v ∷ vs) to at h = λ i. row_purged to at v h i ∷ purges_law vs to at h i

keeps_law : (vs : List Version) (to : ℕ) → map {B = ℕ × ℕ} (λ v. (v.rowid, v.part)) (purged to vs) ≡ map (λ v. (v.rowid, v.part)) vs
keeps_law [] to = refl
keeps_law (v ∷ vs) to = λ i. by (is_past to v) i ∷ keeps_law vs to i
  where
    by : (b : Bool) → ◌≡◌ {A = ℕ × ℕ} ((cond b (removed v) v).rowid, (cond b (removed v) v).part) (v.rowid, v.part)
    by true = refl
    by false = refl

pub lawful : Laws
lawful = record {
  visible = visible_law;
  appends = appends_law;
  ends = ends_law;
  purges = purges_law;
  keeps = keeps_law;
}
