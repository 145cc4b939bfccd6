-- What is looked up in the catalog is found in the image.
use Rattle.std.proofs.Common.{◌≡◌, ◌∙◌, ap, ℕ, false, List, [], ◌++◌, map, None, ◌==◌}
use Rattle.std.proofs.lemmas.List.{append-nil}
use Rattle.std.proofs.lemmas.List.Folds.{list_any-append}
use Rattle.std.specs.List.{find, list_any}
use Rattle.std.specs.Prelude.{option_map, ◌||◌}
use Rattle.wh_base.specs.Lists.{has_text, option_nat_is, same_text}
use Rattle.wh_base.specs.declared.tables.TableDef.{TableDef}
use Rattle.def_history.specs.Catalog.{Catalog, View, defs_now, names_taken, view_named, view_numbered, views_over}
use Rattle.wh_image.proofs.Listed.{any_map, each_from, each_weaker, filter_none, find_map, map_map}
use Rattle.wh_image.specs.Laws.{Lookups}
use Rattle.wh_image.specs.Standing.{StandsFor}
use Rattle.wh_table.specs.Kept.{defs_of}
use Rattle.wh_table.specs.Stored.{Stored, seen}
use Rattle.wh_view.specs.Kept.{AllKept, Kept, is_named, is_numbered}

pub definitions : (scn : ℕ) (tables : List Stored) (views : AllKept) (c : Catalog) → StandsFor scn tables views c → defs_now c ≡ defs_of tables
definitions scn tables views c h = ap (λ base. map (λ t. t.def) base) h.base_is ∙ map_map (seen scn) (λ t. t.def) tables

named : (scn : ℕ) (tables : List Stored) (views : AllKept) (c : Catalog) (name : List ℕ) → StandsFor scn tables views c
    → view_named c name ≡ option_map (λ k. k.view) (find (is_named name) views.views)
named scn tables views c name h = ap (find (λ v. same_text v.def.name name)) h.views_are ∙ find_map (λ (k : Kept). k.view) (λ v. same_text v.def.name name) views.views

numbered : (scn : ℕ) (tables : List Stored) (views : AllKept) (c : Catalog) (n : ℕ) → StandsFor scn tables views c
    → view_numbered c n ≡ option_map (λ k. k.view) (find (is_numbered n) views.views)
numbered scn tables views c n h = ap (find (λ v. v.def.view == n)) h.views_are ∙ find_map (λ (k : Kept). k.view) (λ v. v.def.view == n) views.views

names : (scn : ℕ) (tables : List Stored) (views : AllKept) (c : Catalog) → StandsFor scn tables views c
    → names_taken c ≡ map (λ s. s.def.name) tables ++ map (λ k. k.view.def.name) views.views
names scn tables views c h =
    let of_tables : map (λ d. d.name) (defs_now c) ≡ map (λ s. s.def.name) tables =
    ap (map (λ (d : TableDef). d.name)) (definitions scn tables views c h) ∙ map_map (λ (s : Stored). s.def) (λ d. d.name) tables in
    let of_views : map (λ v. v.def.name) c.views ≡ map (λ k. k.view.def.name) views.views =
    ap (map (λ (v : View). v.def.name)) h.views_are ∙ map_map (λ (k : Kept). k.view) (λ v. v.def.name) views.views in
    (λ i. of_tables i ++ (of_views i ++ map (λ d. d.name) (h.dimensions i)))
    ∙ ap (λ ns. map (λ (s : Stored). s.def.name) tables ++ ns) (append-nil (map (λ (k : Kept). k.view.def.name) views.views))

taken : (scn : ℕ) (tables : List Stored) (views : AllKept) (c : Catalog) (name : List ℕ) → StandsFor scn tables views c
    → has_text (names_taken c) name ≡ (list_any (λ s. same_text name s.def.name) tables || list_any (λ k. same_text name k.view.def.name) views.views)
taken scn tables views c name h =
    ap (list_any (same_text name)) (names scn tables views c h)
    ∙ list_any-append (same_text name) (map (λ (s : Stored). s.def.name) tables) (map (λ (k : Kept). k.view.def.name) views.views)
    ∙ (λ i. any_map (λ (s : Stored). s.def.name) (same_text name) tables i || any_map (λ (k : Kept). k.view.def.name) (same_text name) views.views i)

over : (scn : ℕ) (tables : List Stored) (views : AllKept) (c : Catalog) (n : ℕ) → StandsFor scn tables views c → views_over c n ≡ []
over scn tables views c n h =
    filter_none (λ (v : View). option_nat_is v.def.beneath n) c.views
    (each_weaker (λ (v : View). v.def.beneath ≡ None) (λ (v : View). option_nat_is v.def.beneath n ≡ false) (λ v none. ap (λ o. option_nat_is o n) none) c.views
    (each_from (λ (v : View). v.def.beneath ≡ None) c.views h.over_tables))

pub lookups : Lookups
lookups = record { definitions = definitions; named = named; numbered = numbered; names = names; taken = taken; over = over }
