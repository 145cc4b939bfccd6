-- Whether a view may answer a query now, and with which class; or the first of E1 to E9 that fails.
-- In this crate `q` is the query, `text` has the tokens of its text, `level` is the session's
-- integrity level, `enabled` says whether the session has rewrite enabled, and `back` has the tables joined back.
use Rattle.std.specs.List.{list_all}
use Rattle.std.specs.Prelude.{Bool, List, None, Option, Some, [], cond, false, is_none, is_some, nat_le, not, option_and_then, true, ℕ, ◌&&◌, ◌||◌, ◌∷◌}
use Rattle.wh_base.specs.Lists.{first_some, is_empty, option_case, where_true}
use Rattle.wh_base.specs.declared.columns.ColRef.{ColRef}
use Rattle.wh_base.specs.declared.queries.Item.{Item}
use Rattle.wh_base.specs.declared.queries.StarQuery.{StarQuery}
use Rattle.wh_base.specs.declared.statements.Level.{Level}
use Rattle.wh_base.specs.declared.statements.Level.TheVariants.{Enforced, StaleTolerated, Trusted}
use Rattle.wh_base.specs.declared.tables.TableDef.{TableDef}
use Rattle.wh_base.specs.declared.views.Back.{Back}
use Rattle.wh_base.specs.declared.views.Class.{Class}
use Rattle.wh_base.specs.declared.views.Class.TheVariants.{Full, General, JoinBack, Partial}
use Rattle.wh_base.specs.declared.views.Reach.{Reach}
use Rattle.wh_base.specs.declared.views.Requirement.{Requirement}
use Rattle.wh_base.specs.declared.views.Serving.{Serving}
use Rattle.wh_base.specs.declared.views.Serving.TheVariants.{Fails, Serves}
use Rattle.wh_base.specs.declared.views.ViewDef.{ViewDef}
use Rattle.wh_base.specs.declared.views.ViewState.{ViewState}
use Rattle.wh_base.specs.declared.views.ViewState.TheVariants.{Fresh, Partly, Stale, Unbuilt}
use Rattle.def_history.specs.Catalog.{Catalog, View, defs_now, is_nested}
use Rattle.def_history.specs.Staleness.{stale_intervals, view_state}
use Rattle.wh_base.specs.declared.tokens.Token.{Token}
use Rattle.def_meaning.specs.Ranges.{misses}
use Rattle.def_restrictions.specs.Definition.{is_tracked, selects_column, selects_key, tracked_key}
use Rattle.def_rewriting.specs.Compatible.{compatible, failing, linked}
use Rattle.def_rewriting.specs.Matching.{FullText, NoText, PartialText, TextMatch, match_text}
use Rattle.def_rewriting.specs.Reaching.{reach}
use Rattle.def_rewriting.specs.Rollup.{computable, origin}
use Rattle.wh_base.specs.declared.queries.Item.TheVariants as item
use Rattle.wh_base.specs.declared.views.Requirement.TheVariants as requirement

-- ---- E8 and E9

-- The table that the view tracks by partitions isn't joined back.
abbrev pub leaves_tracked : ViewDef → List Back → Bool
leaves_tracked v back = list_all (λ b. not (is_tracked v b.table)) back

-- The view is FRESH. Or it is PARTLY with its partition key selected, the query's interval of that key misses every stale interval,
-- and the tracked table isn't joined back: a row of the view could else meet a row that has moved to another partition since.
abbrev pub is_fresh_enough : Catalog → StarQuery → List Back → View → Bool
is_fresh_enough c q back v = by (view_state c v)
  where
    misses_all : ColRef → Bool
    misses_all key = list_all (λ i. misses q key i) (stale_intervals c v)

    by : ViewState → Bool
    by Unbuilt = false
    by Fresh = true
    by Partly = selects_key v.def && (option_case (tracked_key v.def) false misses_all && leaves_tracked v.def back)
    by Stale = false

-- STALE_TOLERATED doesn't ask how fresh a view is.
abbrev pub asks_freshness : Level → Bool
asks_freshness Enforced = true
asks_freshness Trusted = true
asks_freshness StaleTolerated = false

-- The view is fresh enough, or the level doesn't ask.
abbrev pub holds_e8 : Catalog → StarQuery → Level → List Back → View → Bool
holds_e8 c q level back v = not (asks_freshness level) || is_fresh_enough c q back v

-- The view is built and enabled for rewrite, the session has rewrite enabled, and the query has no AS OF.
abbrev pub holds_e9 : StarQuery → Bool → View → Bool
holds_e9 q enabled v = is_some v.point && (v.def.rewrite && (enabled && is_none q.as_of))

-- ---- text matches

-- The item is a column that the view selects: that very column.
abbrev pub is_selected : StarQuery → Item → Bool
is_selected v (item.Col c) = selects_column v c
is_selected v (item.Agg a) = false

-- The item is a column that the view selects, or an aggregate that the view's aggregates give.
abbrev pub item_given : List TableDef → StarQuery → StarQuery → Item → Bool
item_given defs q v (item.Col c) = selects_column v c
item_given defs q v (item.Agg a) = is_some (origin defs (linked q v) v a)

-- What a partial text match needs: the view has no HAVING, query and view are both grouped or both not, and each item is given.
abbrev pub partial_holds : List TableDef → StarQuery → StarQuery → Bool
partial_holds defs q v =
    is_empty v.having
    && cond q.grouped (v.grouped && list_all (item_given defs q v) q.items) (not v.grouped && list_all (is_selected v) q.items)

-- The text that a query may match: that of the definition. A view over a view has none, since its text isn't over the base tables.
abbrev pub own_text : View → Option (List Token)
own_text v = cond (is_nested v) None (Some v.def.tokens)

-- The class of a text match: FULL, or PARTIAL where it holds.
abbrev pub text_class : List TableDef → StarQuery → List Token → View → Option Class
text_class defs q text v = option_and_then (λ given. of_match (match_text text given)) (own_text v)
  where
    of_match : TextMatch → Option Class
    of_match FullText = Some Full
    of_match PartialText = where_true (partial_holds defs q v.def.query) Partial
    of_match NoText = None

-- ---- the first that fails

-- The first of E8 and E9 that fails, for a plan that joins these tables back.
abbrev pub time_failure : Catalog → StarQuery → Level → Bool → List Back → View → Option Requirement
time_failure c q level enabled back v = first_some (failing requirement.E8 (holds_e8 c q level back v) ∷ failing requirement.E9 (holds_e9 q enabled v) ∷ [])

-- The place of a requirement in the order in which they are told.
abbrev pub requirement_place : Requirement → ℕ
requirement_place requirement.E1 = 1
requirement_place requirement.E2 = 2
requirement_place requirement.E3 = 3
requirement_place requirement.E4 = 4
requirement_place requirement.E5 = 5
requirement_place requirement.E6 = 6
requirement_place requirement.E7 = 7
requirement_place requirement.E8 = 8
requirement_place requirement.E9 = 9

-- The one of two that failed which is told first.
abbrev pub earlier_failure : Option Requirement → Option Requirement → Option Requirement
earlier_failure None f = f
earlier_failure (Some e) None = Some e
earlier_failure (Some e) (Some f) = Some (cond (nat_le (requirement_place e) (requirement_place f)) e f)

-- The first among E1 to E7 that fails.
abbrev pub form_failure : Catalog → StarQuery → Level → View → Reach → Option Requirement
form_failure c q level v r =
    let defs = defs_now c in
    let d = v.def.query in
    earlier_failure (compatible defs level q d) (earlier_failure r.failed (failing requirement.E7 (computable defs q d)))

-- What a view can do for a query: answer it, with its class and the tables joined back, or not, with the requirement that fails first.
pub data Standing : Type 0 where
  Eligible : Class → List Back → Standing
  Failing : Requirement → Standing

-- Eligible, unless a requirement has failed.
abbrev pub standing_unless : Option Requirement → Class → List Back → Standing
standing_unless None class back = Eligible class back
standing_unless (Some e) class back = Failing e

-- GENERAL where no table is joined back, else JOINBACK.
abbrev pub general_class : List Back → Class
general_class [] = General
general_class (b ∷ bs) = JoinBack

-- Without a text match all of E1 to E9 are asked.
abbrev pub general_standing : Catalog → StarQuery → Level → Bool → View → Standing
general_standing c q level enabled v =
    let w = reach (defs_now c) c.dimensions level q v.def.query in
    standing_unless (first_some (form_failure c q level v w ∷ time_failure c q level enabled w.back v ∷ [])) (general_class w.back) w.back

-- With a text match E8 and E9 alone are asked, and no table is joined back.
abbrev pub standing : Catalog → StarQuery → List Token → Level → Bool → View → Standing
standing c q text level enabled v =
    option_case (text_class (defs_now c) q text v) (general_standing c q level enabled v) (λ class. standing_unless (time_failure c q level enabled [] v) class [])

-- The class of a view that is eligible.
abbrev pub class_of : Standing → Option Class
class_of (Eligible class back) = Some class
class_of (Failing e) = None

-- What is told of a view that stands so.
abbrev pub serving_of : Standing → Serving
serving_of (Eligible class back) = Serves class
serving_of (Failing e) = Fails e

-- The tables joined back.
abbrev pub back_of : Standing → List Back
back_of (Eligible class back) = back
back_of (Failing e) = []
