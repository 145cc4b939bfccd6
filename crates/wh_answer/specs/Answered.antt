-- What a session computes over an image of a catalog.
use Rattle.std.specs.Prelude.{◌≡◌, ◌≤◌, Bool, Err, IsSome, List, None, Ok, Result, Some, [], find, map, ℕ}
use Rattle.wh_base.specs.Lists.{option_case}
use Rattle.wh_base.specs.Tables.{Base}
use Rattle.wh_base.specs.declared.queries.RawQuery.{RawQuery}
use Rattle.wh_base.specs.declared.queries.StarQuery.{StarQuery}
use Rattle.wh_base.specs.declared.replies.PlanLine.TheVariants.{BasePlan, ViewAt}
use Rattle.wh_base.specs.declared.replies.Refusal.{Refusal}
use Rattle.wh_base.specs.declared.replies.Reply.{Reply}
use Rattle.wh_base.specs.declared.replies.Reply.TheVariants as reply
use Rattle.wh_base.specs.declared.statements.Asked.{Asked}
use Rattle.wh_base.specs.declared.statements.Event.{Event}
use Rattle.wh_base.specs.declared.statements.Level.TheVariants.{Enforced}
use Rattle.wh_base.specs.declared.statements.ShowStatement.TheVariants.{ShowView}
use Rattle.wh_base.specs.declared.views.Plan.{Plan}
use Rattle.wh_base.specs.declared.views.Plan.TheVariants as plan
use Rattle.wh_base.specs.declared.views.ViewEntry.{ViewEntry}
use Rattle.wh_base.specs.declared.views.ViewPlan.{ViewPlan}
use Rattle.def_choice.specs.Choice.{class_is_built}
use Rattle.def_history.specs.Catalog.{Catalog, View, base_now, defs_now}
use Rattle.def_journal.specs.Answers.{answer, select, star_at}
use Rattle.def_journal.specs.Explaining.{show_view, the_view}
use Rattle.def_journal.specs.State.{Session, State, image_of, new_session, replied}
use Rattle.def_journal.specs.Steps.{show_step}
use Rattle.def_meaning.specs.Meaning.{in_order, meaning}
use Rattle.def_meaning.specs.Ranges.{base_reads}
use Rattle.def_resolve.specs.Resolve.{resolve}
use Rattle.wh_answer.specs.Over.{IsImageOf}
use Rattle.wh_evaluate.specs.Shown.{CanEvaluate, Shows}
use Rattle.wh_table.specs.Kept.{no_key, no_part, tables_at}
use Rattle.wh_table.specs.Stored.{Stored}
use Rattle.law_trace.specs.Reached.{catalog_of}
use Rattle.wh_view.specs.Kept.{AllKept, Kept, is_numbered}

-- ---- queries over the tables of an image

-- How many rows the base plan of a query reads at the most: those of 64 tables with 262,144 rows each, of which a query names each once.
abbrev pub most_reads : ℕ
most_reads = 16777216

-- The query can be evaluated over the tables at this SCN. They show the base state of the catalog, and the base plan reads few of its rows.
pub record CanAnswer (scn : ℕ) (tables : List Stored) (c : Catalog) (q : StarQuery) : Type 0 where
  pub known : CanEvaluate (tables_at scn tables) (map no_key tables) (map no_part tables) q
  pub shown : Shows (tables_at scn tables) (map no_key tables) (map no_part tables) (base_now c)
  pub few : base_reads q (base_now c) ≤ most_reads

-- What is known of an image that is the catalog of a trace: each query that resolves over the tables of the catalog can be evaluated over
-- it, and so can the query of each of its views.
pub record IsKnown (scn : ℕ) (tables : List Stored) (views : AllKept) : Type 0 where
  pub asked : (trace : List Event) (raw : RawQuery) (q : StarQuery) → IsImageOf trace scn tables views → resolve (defs_now (catalog_of trace)) raw ≡ Ok q
      → CanAnswer scn tables (catalog_of trace) q
  pub kept : (trace : List Event) (n : ℕ) (k : Kept) → IsImageOf trace scn tables views → find (is_numbered n) views.views ≡ Some k
      → CanAnswer scn tables (catalog_of trace) k.view.def.query

-- ---- SELECT

-- A refusal that read nothing.
abbrev pub refusal : Refusal → Reply
refusal code = reply.Refuse (record { code = code; at = None; read = 0 })

-- A session under ENFORCED. Of a session only the level, and whether rewrite is enabled, count for its answers.
abbrev pub enforced : Bool → Session
enforced enabled = record (new_session 0) { rewrite = enabled }

-- The reply to a SELECT under ENFORCED: the first refusal of its query, or the answer.
abbrev pub selected : Catalog → Bool → Asked → Reply
selected c enabled a = answered (star_at c a.query)
  where
    answered : Result StarQuery Refusal → Reply
    answered (Err code) = refusal code
    answered (Ok q) = answer class_is_built c (enforced enabled) a q

-- The answer from the base rows.
abbrev pub base_answer : ℕ → StarQuery → Base → Reply
base_answer scn q base = reply.Answer (record { scn = scn; plan = BasePlan; read = base_reads q base; rows = meaning q base })

-- The answer from what a view stores. It reads no base row.
abbrev pub view_answer : ℕ → StarQuery → ViewPlan → List ViewEntry → Reply
view_answer scn q p entries =
    reply.Answer (record { scn = scn; plan = ViewAt p.class p.name p.point []; read = 0; rows = in_order q.order (map (λ e. e.row) entries) })

-- What the view with this number stores.
abbrev pub entries_of : AllKept → ℕ → List ViewEntry
entries_of views n = option_case (find (is_numbered n) views.views) [] (λ k. k.entries)

-- The view of a plan is there.
abbrev pub HasView : AllKept → Plan → Type 0
HasView views plan.Base = Unit {0}
HasView views (plan.View p) = IsSome (find (is_numbered p.view) views.views)

-- The answer by a plan, over views and a base state at an SCN.
abbrev pub answer_by : ℕ → AllKept → StarQuery → Base → Plan → Reply
answer_by scn views q base plan.Base = base_answer scn q base
answer_by scn views q base (plan.View p) = view_answer scn q p (entries_of views p.view)

-- ---- SHOW VIEW

-- The reply to SHOW VIEW of the view with this name, or that there is none.
abbrev pub shown_view : Catalog → List ℕ → Reply
shown_view c name = of_view (the_view c name)
  where
    of_view : Result View Refusal → Reply
    of_view (Err code) = refusal code
    of_view (Ok v) = show_view c v

-- ---- steps

-- The step of a SELECT under ENFORCED gives this reply and leaves the state.
pub record Selects : Type 0 where
  pub step : (s : State) (x : Session) (a : Asked) → x.level ≡ Enforced → select s x a ≡ replied s (selected (image_of s x) x.rewrite a)

-- So does the step of SHOW VIEW.
pub record ShowsViews : Type 0 where
  pub step : (s : State) (c : Catalog) (name : List ℕ) → show_step s c (ShowView name) ≡ replied s (shown_view c name)
