-- Which views are candidates, by what their image stores.
use Rattle.std.proofs.Common.{◌≡◌, ◌∙◌, sym, ap, refl, cond, not, true, false, Bool, ℕ, ◌&&◌, ◌||◌, List, [], ◌∷◌, Option, None, Some, is_none, is_some, length, option_and_then}
use Rattle.std.proofs.Math.Bool.{and_assoc}
use Rattle.std.specs.List.{list_all}
use Rattle.wh_base.specs.Lists.{first_some, option_case, where_true}
use Rattle.wh_base.specs.declared.queries.StarQuery.{StarQuery}
use Rattle.wh_base.specs.declared.statements.Level.{Level}
use Rattle.wh_base.specs.declared.tables.TableDef.{TableDef}
use Rattle.wh_base.specs.declared.views.Back.{Back}
use Rattle.wh_base.specs.declared.views.Class.{Class}
use Rattle.wh_base.specs.declared.views.Class.TheVariants.{Full, Partial}
use Rattle.wh_base.specs.declared.views.Reach.{Reach}
use Rattle.wh_base.specs.declared.views.Requirement.{Requirement}
use Rattle.wh_base.specs.declared.views.Requirement.TheVariants as requirement
use Rattle.wh_base.specs.declared.views.ViewState.{ViewState}
use Rattle.wh_base.specs.declared.views.ViewState.TheVariants.{Fresh, Partly, Stale, Unbuilt}
use Rattle.def_choice.specs.Choice.{Candidate, candidate, class_is_built}
use Rattle.def_choice.specs.Concat.{concat_holds, or_concat}
use Rattle.def_choice.specs.Eligible.{Eligible, Failing, Standing, asks_freshness, back_of, class_of, form_failure, general_class, holds_e8, holds_e9, leaves_tracked, own_text, partial_holds, standing, standing_unless, time_failure}
use Rattle.def_history.specs.Catalog.{Catalog, View, defs_now}
use Rattle.def_history.specs.Staleness.{content, point_of, stale_intervals}
use Rattle.def_meaning.specs.Ranges.{misses}
use Rattle.def_restrictions.specs.Definition.{selects_key, table_defs, tracked_key}
use Rattle.def_rewriting.specs.Compatible.{failing}
use Rattle.def_rewriting.specs.Matching.{FullText, NoText, PartialText, TextMatch, match_text}
use Rattle.def_rewriting.specs.Reaching.{reach}
use Rattle.wh_image.specs.Standing.{StandsFor}
use Rattle.wh_base.specs.declared.tokens.Token.{Token}
use Rattle.wh_rewrite.proofs.Fresh.{IsOverTables, IsWhole, state_is}
use Rattle.wh_rewrite.specs.Served.{is_fresh, is_full_match, is_full_text, is_still, seen_state, serves, state_since}
use Rattle.wh_table.specs.Stored.{Stored}
use Rattle.wh_view.specs.Kept.{AllKept, Kept}

-- the candidate that a view is by a standing
abbrev candidate_of : Standing → View → ℕ → Option Candidate
candidate_of s v size = option_and_then (λ class. where_true (class_is_built class) (record { view = v; class = class; back = back_of s; size = size })) (class_of s)

abbrev full : View → ℕ → Candidate
full v size = record { view = v; class = Full; back = []; size = size }

-- ---- the text

abbrev class_by : List TableDef → StarQuery → View → TextMatch → Option Class
class_by defs q v FullText = Some Full
class_by defs q v PartialText = where_true (partial_holds defs q v.def.query) Partial
class_by defs q v NoText = None

-- a view over tables may be matched by the text of its query
text_is : (v : View) → IsOverTables v → own_text v ≡ Some v.def.tokens
text_is v over = ap (λ o. cond (is_some o) None (Some v.def.tokens)) over

-- without a text match no class is built
general : (failed : Option Requirement) (back : List Back) (v : View) (size : ℕ) → candidate_of (standing_unless failed (general_class back) back) v size ≡ None
general (Some e) back v size = refl
general None [] v size = refl
general None (b ∷ bs) v size = refl

-- nor is the class for fresh keys alone
not_in_part : (may : Bool) (s : Standing) (v : View) (size : ℕ) → candidate_of (or_concat may s) v size ≡ candidate_of s v size
not_in_part may (Eligible class back) v size = refl
not_in_part true (Failing e) v size = refl
not_in_part false (Failing e) v size = refl

-- what fails by the time
abbrev standing_by : Option Class → Option Requirement → List Back → Option Requirement → Standing
standing_by class failed back time = option_case class (standing_unless failed (general_class back) back) (λ k. standing_unless time k [])

no_match : (b : Bool) (v : View) (size : ℕ) → where_true (b && false) (full v size) ≡ None
no_match true v size = refl
no_match false v size = refl

by_partial : (b : Bool) (failed : Option Requirement) (back : List Back) (time : Option Requirement) (v : View) (size : ℕ) → candidate_of (standing_by (where_true b Partial) failed back time) v size ≡ None
by_partial true failed back None v size = refl
by_partial true failed back (Some e) v size = refl
by_partial false failed back time v size = general failed back v size

by_match : (defs : List TableDef) (q : StarQuery) (v : View) (m : TextMatch) (failed : Option Requirement) (back : List Back) (time : Option Requirement) (size : ℕ) → candidate_of (standing_by (class_by defs q v m) failed back time) v size ≡ where_true (is_none time && is_full_match m) (full v size)
by_match defs q v FullText failed back None size = refl
by_match defs q v FullText failed back (Some e) size = refl
by_match defs q v PartialText failed back time size = by_partial (partial_holds defs q v.def.query) failed back time v size ∙ sym (no_match (is_none time) v size)
by_match defs q v NoText failed back time size = general failed back v size ∙ sym (no_match (is_none time) v size)

-- ---- the time

time_is : (fresh enabled : Bool) → is_none (first_some (failing requirement.E8 fresh ∷ failing requirement.E9 enabled ∷ [])) ≡ (enabled && fresh)
time_is true true = refl
time_is true false = refl
time_is false true = refl
time_is false false = refl

abbrev enough_by : Catalog → StarQuery → View → ViewState → Bool
enough_by c q v Unbuilt = false
enough_by c q v Fresh = true
enough_by c q v Partly = selects_key v.def && (option_case (tracked_key v.def) false (λ key. list_all (λ i. misses q key i) (stale_intervals c v)) && leaves_tracked v.def [])
enough_by c q v Stale = false

enough_seen : (c : Catalog) (q : StarQuery) (v : View) (unbuilt still : Bool) → enough_by c q v (cond unbuilt Unbuilt (state_since still)) ≡ is_fresh (cond unbuilt Unbuilt (state_since still))
enough_seen c q v true still = refl
enough_seen c q v false true = refl
enough_seen c q v false false = refl

module _ (scn : ℕ) (tables : List Stored) (views : AllKept) (c : Catalog) (stands : StandsFor scn tables views c) (q : StarQuery) (text : List Token) (level : Level) (enabled : Bool) where
  e8_is : (v : View) → IsWhole v → holds_e8 c q level [] v ≡ (not (asks_freshness level) || is_fresh (seen_state tables v))
  e8_is v whole =
      ap (λ s. not (asks_freshness level) || enough_by c q v s) (state_is scn tables views c stands v whole)
      ∙ ap (λ b. not (asks_freshness level) || b) (enough_seen c q v (is_none v.point) (list_all (is_still tables (point_of v)) (table_defs v.def)))

  candidate_by : (v : View) → IsOverTables v
      → candidate class_is_built c q text level enabled v ≡ where_true (is_none (time_failure c q level enabled [] v) && is_full_text text v.def.tokens) (full v (length (content c v)))
  candidate_by v over =
      let w : Reach = reach (defs_now c) c.dimensions level q v.def.query in
      let failed : Option Requirement = first_some (form_failure c q level v w ∷ time_failure c q level enabled w.back v ∷ []) in
      let time : Option Requirement = time_failure c q level enabled [] v in
      not_in_part (concat_holds c q level enabled v) (standing c q text level enabled v) v (length (content c v))
      ∙ ap (λ given. candidate_of (standing_by (option_and_then (λ ts. class_by (defs_now c) q v (match_text text ts)) given) failed w.back time) v (length (content c v))) (text_is v over)
      ∙ by_match (defs_now c) q v (match_text text v.def.tokens) failed w.back time (length (content c v))

  -- a view that is kept is a candidate exactly where it serves
  pub candidate_is : (k : Kept) → k.entries ≡ content c k.view → IsWhole k.view → IsOverTables k.view
      → candidate class_is_built c q text level enabled k.view ≡ where_true (serves tables q text level enabled k) (full k.view (length k.entries))
  candidate_is k same whole over =
      candidate_by k.view over
      ∙ ap (λ b. where_true (b && is_full_text text k.view.def.tokens) (full k.view (length (content c k.view)))) (time_is (holds_e8 c q level [] k.view) (holds_e9 q enabled k.view))
      ∙ ap (λ b. where_true ((holds_e9 q enabled k.view && b) && is_full_text text k.view.def.tokens) (full k.view (length (content c k.view)))) (e8_is k.view whole)
      ∙ ap (λ b. where_true b (full k.view (length (content c k.view)))) (and_assoc (holds_e9 q enabled k.view) (not (asks_freshness level) || is_fresh (seen_state tables k.view)) (is_full_text text k.view.def.tokens))
      ∙ ap (λ es. where_true (serves tables q text level enabled k) (full k.view (length es))) (sym same)
