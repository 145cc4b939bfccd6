-- CREATE of a view over a view, and what stands over a view that is dropped.
use Rattle.std.specs.Prelude.{Bool, None, Option, Result, cond, false, is_none, not, option_and_then, option_map, true, ◌&&◌}
use Rattle.wh_base.specs.Lists.{head, or_refuse, where_true}
use Rattle.wh_base.specs.declared.queries.RawQuery.{RawQuery}
use Rattle.wh_base.specs.declared.queries.StarQuery.{StarQuery}
use Rattle.wh_base.specs.declared.replies.Refusal.{Refusal}
use Rattle.wh_base.specs.declared.replies.Refusal.TheVariants.{BeneathUnbuilt, NotNested, StillUsed}
use Rattle.wh_base.specs.declared.statements.Method.{Method}
use Rattle.wh_base.specs.declared.statements.Method.TheVariants.{Fast}
use Rattle.wh_base.specs.declared.statements.NewView.{NewView}
use Rattle.def_history.specs.Catalog.{Catalog, View, view_named, views_over}
use Rattle.def_nest.specs.Compose.{compose}
use Rattle.def_resolve.specs.Names.{lone_name}

-- The view beneath a definition: one whose name is all that stands in FROM.
abbrev pub view_beneath : Catalog → RawQuery → Option View
view_beneath c q = option_and_then (view_named c) (lone_name q)

-- The method is FAST.
abbrev pub is_fast : Method → Bool
is_fast Fast = true
is_fast m = false

-- A view over a view has neither REFRESH FAST nor ON COMMIT.
abbrev pub may_be_over : NewView → Bool
may_be_over s = not (is_fast s.method) && not s.on_commit

-- The composed definition over this view, or NotNested, whatever is wrong with it.
abbrev pub nested_query : NewView → View → Result StarQuery Refusal
nested_query s v = or_refuse (cond (may_be_over s) (compose s.asked.query v.def) None) (NotNested s.name)

-- BUILD IMMEDIATE needs a view beneath that is built.
abbrev pub unbuilt_beneath : NewView → View → Option Refusal
unbuilt_beneath s v = where_true (not s.deferred && is_none v.point) (BeneathUnbuilt v.def.name)

-- A view can't be dropped while a view stands over it; the earliest is named.
abbrev pub drop_refusal : Catalog → View → Option Refusal
drop_refusal c v = option_map (λ w. StillUsed w.def.name) (head (views_over c v.def.view))
