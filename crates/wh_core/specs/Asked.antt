-- What a statement on a view asks for, found in an image.
use Rattle.std.specs.List.{find, list_any}
use Rattle.std.specs.Prelude.{Bool, List, None, Option, Result, [], length, map, nat_le, option_map, ℕ, ◌||◌, ◌+◌, ◌∷◌}
use Rattle.wh_base.specs.Lists.{first_some, same_text, unless_then, where_true}
use Rattle.wh_base.specs.Tables.{def_at}
use Rattle.wh_base.specs.declared.queries.StarQuery.{StarQuery}
use Rattle.wh_base.specs.declared.replies.Counted.TheVariants.{Views}
use Rattle.wh_base.specs.declared.replies.Refusal.{Refusal}
use Rattle.wh_base.specs.declared.replies.Refusal.TheVariants.{NameTaken, TooManyObjects}
use Rattle.wh_base.specs.declared.statements.NewView.{NewView}
use Rattle.wh_base.specs.declared.views.ViewDef.{ViewDef}
use Rattle.def_effect.specs.Define.{max_objects}
use Rattle.def_resolve.specs.Resolve.{resolve}
use Rattle.wh_table.specs.Kept.{defs_of}
use Rattle.wh_table.specs.Stored.{Stored}
use Rattle.wh_view.specs.Kept.{AllKept, is_named}

-- a table or a view has this name
abbrev pub is_taken : List Stored → AllKept → List ℕ → Bool
is_taken tables views name = list_any (λ s. same_text name s.def.name) tables || list_any (λ k. same_text name k.view.def.name) views.views

-- the number of the view with this name
abbrev pub number_of : List ℕ → AllKept → Option ℕ
number_of name views = option_map (λ k. k.view.def.view) (find (is_named name) views.views)

-- a new view's name is taken, or there are too many views
abbrev pub view_refusal : List Stored → AllKept → NewView → Option Refusal
view_refusal tables views s =
    first_some (where_true (is_taken tables views s.name) (NameTaken s.name) ∷ where_true (nat_le max_objects (length views.views)) (TooManyObjects Views) ∷ [])

-- the star form of a new view's query, or the view's refusal
abbrev pub asked_star : List Stored → AllKept → NewView → Result StarQuery Refusal
asked_star tables views s = unless_then (view_refusal tables views s) (resolve (defs_of tables) s.asked.query)

-- the definition of a new view over tables with this query
abbrev pub asked_def : List Stored → AllKept → NewView → StarQuery → ViewDef
asked_def tables views s q =
    record {
      view = views.made + 1;
      name = s.name;
      query = q;
      tables = map (def_at (defs_of tables)) q.tables;
      tokens = s.asked.tokens;
      method = s.method;
      on_commit = s.on_commit;
      rewrite = s.rewrite;
      beneath = None;
    }
