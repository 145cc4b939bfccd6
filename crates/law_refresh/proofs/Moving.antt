-- Row movement tells nothing of a view: its restrictions by its tables' definitions are those by the definitions of now.
use Rattle.std.proofs.Common.{◌≡◌, ◌∙◌, ap, refl, Bool, true, false, cond, not, List, [], ◌∷◌, map, ℕ, Option, None, Some, ◌==◌, ◌&&◌, ◌||◌}
use Rattle.std.specs.List.{find, list_all, list_any}
use Rattle.std.specs.Prelude.{is_none, unwrap_or, zip}
use Rattle.wh_base.specs.Columns.{expr_columns}
use Rattle.wh_base.specs.declared.columns.Agg.{Agg}
use Rattle.wh_base.specs.declared.columns.Agg.TheVariants.{Avg, Count, CountAll, Max, Min, Sum}
use Rattle.wh_base.specs.declared.views.Restriction.TheVariants.{F1, F13, F2}
use Rattle.wh_base.specs.declared.views.ViewDef.{ViewDef}
use Rattle.wh_base.specs.Lists.{first_of, first_some, is_empty, option_case, where_true}
use Rattle.wh_base.specs.Tables.{never_null_part}
use Rattle.wh_base.specs.declared.columns.ColPart.{ColPart}
use Rattle.wh_base.specs.declared.columns.ColPart.TheVariants.{Col, Mark, RowId}
use Rattle.wh_base.specs.declared.columns.ColRef.{ColRef}
use Rattle.wh_base.specs.declared.tables.TableDef.{TableDef}
use Rattle.wh_base.specs.declared.views.Restriction.{Restriction}
use Rattle.def_history.specs.Catalog.{Catalog, View}
use Rattle.def_history.specs.Staleness.{known, restriction}
use Rattle.def_restrictions.specs.Definition.{has_extreme, is_insert_only, selects_agg, sum_alone, view_never_null}
use Rattle.def_meaning.specs.Accumulated.{selected_aggs}
use Rattle.def_restrictions.specs.Restrictions.{Known, check_f10, check_f11, check_f12, check_f13, check_f3, check_f4, check_f5, check_f6, check_f7, check_f8, check_f9}
use Rattle.law_trace.specs.Reached.{still}

-- the view with the definitions of its tables but for their row movement
abbrev pub stilled : View → View
stilled v = record v { def = record v.def { tables = map still v.def.tables } }

null_still : (d : TableDef) (part : ColPart) → never_null_part (still d) part ≡ never_null_part d part
null_still d (Col n) = refl
null_still d RowId = refl
null_still d Mark = refl

never_null : (c : ColRef) (ns : List ℕ) (ds : List TableDef)
    → option_case (find (λ (t : ℕ × TableDef). t.0 == c.table) (zip ns (map still ds))) false (λ t. never_null_part t.1 c.part) ≡ option_case (find (λ (t : ℕ × TableDef). t.0 == c.table) (zip ns ds)) false (λ t. never_null_part t.1 c.part)
never_null c [] ds = refl
never_null c (n ∷ ns) [] = refl
never_null c (n ∷ ns) (d ∷ ds) = by (n == c.table) (never_null c ns ds)
  where
    by : (b : Bool)
        → option_case (find (λ (t : ℕ × TableDef). t.0 == c.table) (zip ns (map still ds))) false (λ t. never_null_part t.1 c.part) ≡ option_case (find (λ (t : ℕ × TableDef). t.0 == c.table) (zip ns ds)) false (λ t. never_null_part t.1 c.part)
        → option_case (cond b (Some (n, still d)) (find (λ (t : ℕ × TableDef). t.0 == c.table) (zip ns (map still ds)))) false (λ t. never_null_part t.1 c.part) ≡ option_case (cond b (Some (n, d)) (find (λ (t : ℕ × TableDef). t.0 == c.table) (zip ns ds))) false (λ t. never_null_part t.1 c.part)
    by true h = null_still d c.part
    by false h = h

module _ (c : Catalog) (v : View) where
  null_same : (col : ColRef) → view_never_null (stilled v).def col ≡ view_never_null v.def col
  null_same col = never_null col v.def.query.tables v.def.tables

  sum_same : (a : Agg) → sum_alone (stilled v).def a ≡ sum_alone v.def a
  sum_same CountAll = refl
  sum_same (Count e) = refl
  sum_same (Sum e) = λ i. not (selects_agg v.def.query (Count e)) && not (list_all (λ col. null_same col i) (expr_columns e) && selects_agg v.def.query CountAll)
  sum_same (Avg e) = refl
  sum_same (Min e) = refl
  sum_same (Max e) = refl

  insert_only_same : is_insert_only (stilled v).def ≡ is_insert_only v.def
  insert_only_same =
      λ i. (has_extreme v.def.query && not (is_empty v.def.query.conditions)) || (list_any (λ a. sum_same a i) (selected_aggs v.def.query) || not (selects_agg v.def.query CountAll))

  checks_same : (F G : Known → Option Restriction) → ((n : ℕ) (d : TableDef) → F (known c (stilled v) (n, still d)) ≡ G (known c v (n, d))) → (ns : List ℕ) (ds : List TableDef)
      → first_of F (map (known c (stilled v)) (zip ns (map still ds))) ≡ first_of G (map (known c v) (zip ns ds))
  checks_same F G k [] ds = refl
  checks_same F G k (n ∷ ns) [] = refl
  checks_same F G k (n ∷ ns) (d ∷ ds) =
      ap (λ o. first_some (o ∷ map F (map (known c (stilled v)) (zip ns (map still ds))))) (k n d)
      ∙ by (map F (map (known c (stilled v)) (zip ns (map still ds)))) (map G (map (known c v) (zip ns ds))) (G (known c v (n, d))) (checks_same F G k ns ds)
    where
      by : (xs ys : List (Option Restriction)) (o : Option Restriction) → first_some xs ≡ first_some ys → first_some (o ∷ xs) ≡ first_some (o ∷ ys)
      by xs ys None h = h
      by xs ys (Some r) h = refl

  abbrev ns : List ℕ
  ns = v.def.query.tables

  abbrev ds : List TableDef
  ds = v.def.tables

  pub restriction_same : restriction c (stilled v) ≡ restriction c v
  restriction_same =
      let d : ViewDef = v.def in
      let e : ViewDef = (stilled v).def in
      let f3 = checks_same check_f3 check_f3 (λ n d. refl) ns ds in
      let f4 = checks_same check_f4 check_f4 (λ n d. refl) ns ds in
      let f5 = checks_same (check_f5 e) (check_f5 d) (λ n d. refl) ns ds in
      let f6 = checks_same (check_f6 e) (check_f6 d) (λ n d. refl) ns ds in
      let f8 = checks_same (check_f8 e) (check_f8 d) (λ n d. refl) ns ds in
      let f10 = checks_same (check_f10 (unwrap_or v.point 0)) (check_f10 (unwrap_or v.point 0)) (λ n d. refl) ns ds in
      let f11 = checks_same check_f11 check_f11 (λ n d. refl) ns ds in
      let f12 = checks_same (check_f12 e) (check_f12 d) (λ n d. refl) ns ds in
      let f13 = checks_same (check_f13 e) (check_f13 d) (λ n t. ap (λ b. where_true (d.query.grouped && (b && (known c v (n, t)).removed)) (F13 n)) insert_only_same) ns ds in
      λ i. first_some (
      where_true (is_none v.point) F1
      ∷ where_true (not v.registered) F2
      ∷ first_some (f3 i ∷ f4 i ∷ f5 i ∷ f6 i ∷ check_f7 d ∷ f8 i ∷ check_f9 d ∷ [])
      ∷ f10 i
      ∷ f11 i
      ∷ f12 i
      ∷ f13 i
      ∷ [])
