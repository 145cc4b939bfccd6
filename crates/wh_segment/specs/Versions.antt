-- The versions of rows by their places, and what each call makes of them.
use Rattle.std.specs.Prelude.{Bool, List, None, Option, Some, [], false, is_none, is_some, map, nat_le, nat_lt, slice_get, slice_set, true, ℕ, ◌&&◌, ◌++◌, ◌∷◌}
use Rattle.wh_base.specs.Lists.{change_where, option_case, where_true}
use Rattle.wh_base.specs.Tables.{Places}
use Rattle.wh_base.specs.declared.tables.RowAt.{RowAt}
use Rattle.wh_base.specs.declared.values.Value.{Value}
use Rattle.wh_segment.specs.declared.version.Version.{Version}

-- a version of a row from an SCN on
abbrev pub born_at : ℕ → ℕ → ℕ → List Value → Version
born_at scn rowid part values = record { rowid = rowid; part = part; born = scn; died = None; values = Some values }

-- it isn't dead at an SCN
abbrev pub lives_on : ℕ → Version → Bool
lives_on scn v = option_case v.died true (λ died. nat_lt scn died)

-- it is neither ended nor removed
abbrev pub is_live : Version → Bool
is_live v = is_none v.died && is_some v.values

-- the row is there at an SCN with these values: it was born at that SCN or before, and didn't die at it or before; a removed one is never there
abbrev pub is_visible : ℕ → Version → Bool
is_visible scn v = is_some v.values && (nat_le v.born scn && lives_on scn v)

-- it died at an SCN or before, and isn't removed
abbrev pub is_past : ℕ → Version → Bool
is_past scn v = is_some v.values && option_case v.died false (λ died. nat_le died scn)

abbrev pub ended : ℕ → Version → Version
ended scn v = record v { died = Some scn }

abbrev pub removed : Version → Version
removed v = record v { values = None }

-- the versions with the one at a place ended
abbrev pub ended_at : ℕ → ℕ → List Version → List Version
ended_at place scn vs = option_case (slice_get vs place) vs (λ v. slice_set vs place (ended scn v))

-- the versions with the one at a place ended, and at the end its successor with these values
abbrev pub replaced_at : ℕ → ℕ → List Value → List Version → List Version
replaced_at place scn values vs = option_case (slice_get vs place) vs (λ v. slice_set vs place (ended scn v) ++ born_at scn v.rowid v.part values ∷ [])

-- the versions without the values of those that died at an SCN or before
abbrev pub purged : ℕ → List Version → List Version
purged to vs = change_where (is_past to) removed vs

-- the version at a place is visible at an SCN
abbrev pub visible_at : List Version → ℕ → ℕ → Bool
visible_at vs place scn = option_case (slice_get vs place) false (is_visible scn)

-- the row that a version has at an SCN
abbrev pub row_at : ℕ → Version → Option RowAt
row_at scn v = option_case v.values None (λ values. where_true (is_visible scn v) (record { rowid = v.rowid; mark = v.part; values = values }))

-- the rows at their places, as they are at an SCN
abbrev pub rows_at : ℕ → List Version → Places
rows_at scn vs = map (row_at scn) vs

-- what the version at a place becomes, where it died at an SCN or before and isn't removed
abbrev pub removed_at : ℕ → List Version → ℕ → Option Version
removed_at to vs place = option_case (slice_get vs place) None (λ v. where_true (is_past to v) (removed v))
