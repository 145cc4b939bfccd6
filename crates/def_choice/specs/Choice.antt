-- The plan that is chosen for a query, its rows, and the base rows that it reads.
use Rattle.std.specs.Ordering.{nat_cmp, ordering_then}
use Rattle.std.specs.Prelude.{Bool, List, Option, [], filter_map, length, map, nat_abs, option_and_then, false, true, ℕ}
use Rattle.std.specs.declared.cmp.Ordering.{Ordering}
use Rattle.wh_base.specs.Lists.{least_by, option_case, where_true}
use Rattle.wh_base.specs.Tables.{Base}
use Rattle.wh_base.specs.declared.queries.StarQuery.{StarQuery}
use Rattle.wh_base.specs.declared.statements.Level.{Level}
use Rattle.wh_base.specs.declared.values.Value.{Value}
use Rattle.wh_base.specs.declared.views.Back.{Back}
use Rattle.wh_base.specs.declared.views.Class.{Class}
use Rattle.wh_base.specs.declared.views.Class.TheVariants.{Concat, Full, General, JoinBack, Partial}
use Rattle.wh_base.specs.declared.views.Plan.{Plan}
use Rattle.wh_base.specs.declared.views.Verdict.{Verdict}
use Rattle.wh_base.specs.declared.views.ViewPlan.{ViewPlan}
use Rattle.def_choice.specs.Concat.{concat_holds, or_concat}
use Rattle.def_choice.specs.Eligible.{Standing, back_of, class_of, serving_of, standing}
use Rattle.def_history.specs.Catalog.{Catalog, View, base_at, base_now, defs_now, view_numbered}
use Rattle.def_history.specs.Staleness.{content, point_of, stale_intervals}
use Rattle.wh_base.specs.declared.tokens.Token.{Token}
use Rattle.def_meaning.specs.Meaning.{in_order, meaning}
use Rattle.def_meaning.specs.Ranges.{base_reads}
use Rattle.def_restrictions.specs.Definition.{tracked_key}
use Rattle.def_rewriting.specs.Classes.{class_reads, class_rows}
use Rattle.wh_base.specs.declared.views.Plan.TheVariants as plan

-- ---- choice

-- FULL before PARTIAL before GENERAL before JOINBACK before CONCAT.
abbrev pub class_rank : Class → ℕ
class_rank Full = 0
class_rank Partial = 1
class_rank General = 2
class_rank JoinBack = 3
class_rank Concat = 4

-- The classes that are built so far. A view of another class doesn't serve a query yet. The definitions below take such a test
-- as `built`; with every class built the choice is whole.
abbrev pub class_is_built : Class → Bool
class_is_built Full = true
class_is_built Partial = false
class_is_built General = false
class_is_built JoinBack = false
class_is_built Concat = false

-- Every class.
abbrev pub every_class : Class → Bool
every_class class = true

-- What the view can do for the query, for its fresh keys alone too.
abbrev pub full_standing : Catalog → StarQuery → List Token → Level → Bool → View → Standing
full_standing c q text level enabled v = or_concat (concat_holds c q level enabled v) (standing c q text level enabled v)

-- A view that is eligible, with its class, the tables joined back, and the number of its entries.
pub record Candidate : Type 0 where
  pub view : View
  pub class : Class
  pub back : List Back
  pub size : ℕ

-- The view as a candidate, where it is eligible with a class that is built.
abbrev pub candidate : (Class → Bool) → Catalog → StarQuery → List Token → Level → Bool → View → Option Candidate
candidate built c q text level enabled v =
    let s = full_standing c q text level enabled v in
    option_and_then (λ class. where_true (built class) (record { view = v; class = class; back = back_of s; size = length (content c v) })) (class_of s)

-- The first class goes first, and in a class the view with the fewest entries.
abbrev pub candidate_cmp : Candidate → Candidate → Ordering
candidate_cmp a b = ordering_then (nat_cmp (class_rank a.class) (class_rank b.class)) (nat_cmp a.size b.size)

-- The first of the candidates; of equals the one created earliest.
abbrev pub best : (Class → Bool) → Catalog → StarQuery → List Token → Level → Bool → Option Candidate
best built c q text level enabled = least_by candidate_cmp (filter_map (candidate built c q text level enabled) c.views)

-- The plan over this view; it prints the view's point.
abbrev pub view_plan : Candidate → Plan
view_plan x = plan.View (record { class = x.class; view = x.view.def.view; name = x.view.def.name; point = point_of x.view; back = x.back })

-- The whole choice over the classes that are handed in as built: the best view, and BASE exactly where no view is eligible with one of them.
abbrev pub choice : (Class → Bool) → Catalog → StarQuery → List Token → Level → Bool → Plan
choice built c q text level enabled = option_case (best built c q text level enabled) plan.Base view_plan

-- ---- rows

-- The SCN that the query asks about: that of AS OF, else that of now.
abbrev pub asked_scn : Catalog → StarQuery → ℕ
asked_scn c q = option_case q.as_of c.scn nat_abs

-- The base state at that SCN.
abbrev pub base_then : Catalog → StarQuery → Base
base_then c q = base_at c (asked_scn c q)

-- The rows of a plan over this view, not yet in order.
abbrev pub view_rows : Catalog → StarQuery → ViewPlan → View → List (List Value)
view_rows c q p v = class_rows (defs_now c) (base_now c) q v.def.query (tracked_key v.def) (stale_intervals c v) p.class p.back (content c v)

-- The rows of a plan: under BASE the query's meaning over the base rows, else what the view's entries give, in the query's order.
abbrev pub plan_meaning : Catalog → StarQuery → Plan → List (List Value)
plan_meaning c q plan.Base = meaning q (base_then c q)
plan_meaning c q (plan.View p) = in_order q.order (option_case (view_numbered c p.view) [] (view_rows c q p))

-- ---- reads

-- The base rows that a plan over this view reads: their number.
abbrev pub view_reads : Catalog → StarQuery → ViewPlan → View → ℕ
view_reads c q p v = class_reads (base_now c) q (tracked_key v.def) (stale_intervals c v) p.class p.back

-- READ of a plan: what the base plan reads, or the plan over the view.
abbrev pub plan_reads : Catalog → StarQuery → Plan → ℕ
plan_reads c q plan.Base = base_reads q (base_then c q)
plan_reads c q (plan.View p) = option_case (view_numbered c p.view) 0 (view_reads c q p)

-- ---- EXPLAIN REWRITE

-- The view's name with its class, built or not, or with the requirement that fails first.
abbrev pub verdict : Catalog → StarQuery → List Token → Level → Bool → View → Verdict
verdict c q text level enabled v =
    record { view = v.def.name; serving = serving_of (full_standing c q text level enabled v) }

-- One for each view, in the order of creation.
abbrev pub verdicts : Catalog → StarQuery → List Token → Level → Bool → List Verdict
verdicts c q text level enabled = map (verdict c q text level enabled) c.views
