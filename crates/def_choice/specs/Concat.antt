-- When a view that is stale in part may answer a query for its fresh keys, with the base rows for the stale ones.
use Rattle.std.specs.Prelude.{Bool, [], false, is_none, not, true, ◌&&◌}
use Rattle.wh_base.specs.Lists.{has_number, is_empty, option_case}
use Rattle.wh_base.specs.declared.queries.StarQuery.{StarQuery}
use Rattle.wh_base.specs.declared.statements.Level.{Level}
use Rattle.wh_base.specs.declared.views.Class.TheVariants.{Concat}
use Rattle.wh_base.specs.declared.views.ViewState.{ViewState}
use Rattle.wh_base.specs.declared.views.ViewState.TheVariants.{Fresh, Partly, Stale, Unbuilt}
use Rattle.def_choice.specs.Eligible.{Eligible, Failing, Standing, asks_freshness, form_failure, holds_e8, holds_e9}
use Rattle.def_history.specs.Catalog.{Catalog, View, defs_now}
use Rattle.def_history.specs.Staleness.{view_state}
use Rattle.def_restrictions.specs.Definition.{selects_key, tracked}
use Rattle.def_rewriting.specs.Reaching.{reach}

abbrev pub is_partly : ViewState → Bool
is_partly Unbuilt = false
is_partly Fresh = false
is_partly Partly = true
is_partly Stale = false

-- The table that the view tracks by partitions is one of the query's.
abbrev pub tracks_table_of : StarQuery → View → Bool
tracks_table_of q v = option_case (tracked v.def) false (λ t. has_number q.tables t.0)

-- An aggregate view that is PARTLY with its partition key selected, and the query has the tracked table.
abbrev pub serves_in_part : Catalog → StarQuery → View → Bool
serves_in_part c q v = (v.def.query.grouped && is_partly (view_state c v)) && (selects_key v.def && tracks_table_of q v)

-- E1 to E7 and E9 hold, no table is joined back, and E8 is asked and fails.
abbrev pub fails_e8_alone : Catalog → StarQuery → Level → Bool → View → Bool
fails_e8_alone c q level enabled v =
    let w = reach (defs_now c) c.dimensions level q v.def.query in
    (is_none (form_failure c q level v w) && is_empty w.back) && (holds_e9 q enabled v && not (holds_e8 c q level w.back v))

-- The view may answer so. Under STALE_TOLERATED E8 never fails, so none does there.
abbrev pub concat_holds : Catalog → StarQuery → Level → Bool → View → Bool
concat_holds c q level enabled v = asks_freshness level && (fails_e8_alone c q level enabled v && serves_in_part c q v)

-- A view that fails, and may answer so, has the class CONCAT.
abbrev pub or_concat : Bool → Standing → Standing
or_concat may (Eligible class back) = Eligible class back
or_concat false (Failing e) = Failing e
or_concat true (Failing e) = Eligible Concat []
