-- From what eligibility says to the meaning.
use Rattle.std.proofs.Common.{◌≡◌, ◌∙◌, sym, ap, subst, refl, ℕ, Bool, true, false, cond, not, List, [], ◌∷◌, ◌++◌, map, length, Option, Some, None}
use Rattle.std.specs.Prelude.{◌&&◌, ◌||◌, ◌==◌, filter, is_none, is_some, option_and_then, option_map}
use Rattle.std.specs.List.{list_all, list_any, position_or_len}
use Rattle.std.proofs.lemmas.Bool.Decides.{Decides-int_eq}
use Rattle.std.proofs.lemmas.Bool.{eq-eqb, and_parts, not-true}
use Rattle.std.proofs.Math.Bool.{or-true}
use Rattle.std.proofs.lemmas.Option.{same_Some}
use Rattle.wh_base.specs.Columns.{same_agg_by, same_item}
use Rattle.wh_base.specs.Lists.{first_of, first_some, has_number, is_empty, option_case, where_true}
use Rattle.wh_base.specs.Tables.{Base}
use Rattle.wh_base.specs.declared.columns.Agg.{Agg}
use Rattle.wh_base.specs.declared.columns.Agg.TheVariants.{Avg, Count, CountAll, Max, Min, Sum}
use Rattle.wh_base.specs.declared.columns.ColPart.TheVariants.{Col}
use Rattle.wh_base.specs.declared.columns.ColRef.{ColRef}
use Rattle.wh_base.specs.declared.columns.Expr.{Expr}
use Rattle.wh_base.specs.declared.columns.Expr.TheVariants as expr
use Rattle.wh_base.specs.declared.queries.Item.{Item}
use Rattle.wh_base.specs.declared.queries.Item.TheVariants as item
use Rattle.wh_base.specs.declared.queries.StarQuery.{StarQuery}
use Rattle.wh_base.specs.declared.statements.Level.{Level}
use Rattle.wh_base.specs.declared.tables.TableDef.{TableDef}
use Rattle.wh_base.specs.declared.views.Back.{Back}
use Rattle.wh_base.specs.declared.views.Class.{Class}
use Rattle.wh_base.specs.declared.views.Class.TheVariants.{Full, Partial}
use Rattle.wh_base.specs.declared.views.Restriction.TheVariants.{P3}
use Rattle.wh_base.specs.declared.views.ViewEntry.{ViewEntry}
use Rattle.wh_base.specs.declared.views.ViewState.{ViewState}
use Rattle.wh_base.specs.declared.views.ViewState.TheVariants.{Fresh, Partly, Stale, Unbuilt}
use Rattle.wh_base.specs.declared.tokens.Token.{Token}
use Rattle.def_choice.specs.Eligible.{Eligible, asks_freshness, form_failure, general_class, general_standing, holds_e8, holds_e9, is_fresh_enough, is_selected, item_given, leaves_tracked, earlier_failure, own_text, partial_holds, standing, standing_unless, text_class, time_failure}
use Rattle.def_history.specs.Catalog.{Catalog, View, base_at, base_now, defs_now}
use Rattle.def_history.specs.Staleness.{content, facts_of, known, stale_intervals}
use Rattle.def_meaning.specs.Joined.{rows_at}
use Rattle.def_meaning.specs.Meaning.{in_order, meaning, stored}
use Rattle.def_meaning.specs.Ranges.{misses}
use Rattle.def_restrictions.specs.Definition.{is_tracked, selects_column, selects_key, table_defs, tracked, tracked_key}
use Rattle.def_restrictions.specs.Restrictions.{check_f1, check_p1, check_p2, check_p3, first_part_restriction, is_fresh, moved}
use Rattle.def_rewriting.specs.Compatible.{compatible, failing, linked, may_rely}
use Rattle.def_rewriting.specs.Matching.{FullText, NoText, PartialText, TextMatch, match_text}
use Rattle.def_rewriting.specs.Classes.{class_rows}
use Rattle.def_rewriting.specs.PlanRows.{extended_rows, general_rows, text_rows}
use Rattle.def_rewriting.specs.Reaching.{layout, reach}
use Rattle.def_rewriting.specs.Rollup.{AveragesOf, CountsOf, GreatestOf, LeastOf, SumsOf, agg_place, both_places, computable, counts_all, equal_expr, item_is_agg, origin}
use Rattle.law_lists.proofs.Each.{Each-both, Each-from_all, Each-from_none, Each-of_mapped, Each-map, Each-of_map}
use Rattle.law_lists.proofs.Options.{none_where, none_first, none_each, was_none}
use Rattle.law_lists.proofs.Columns.{position_there}
use Rattle.wh_base.proofs.SameItems.{same_part-Decides}
use Rattle.law_lists.proofs.Numbers.{differs_turned}
use Rattle.def_resolve.proofs.Trees.{where_is}
use Rattle.law_rewrite.specs.Words.{Each}
use Rattle.law_rewrite.specs.Fine.{IsColumn}
use Rattle.law_rewrite.specs.Outside.{is_outside}
use Rattle.law_rewrite.specs.Standing.{SameParts, StarsKept, TextsKept, ViewKept}
use Rattle.law_rewrite.specs.Texts.{ItemGiven, SameFrom}
use Rattle.law_rewrite.proofs.Reached.{itself_times}
use Rattle.law_rewrite.proofs.Assembled.{eligible_plan}
use Rattle.law_rewrite.proofs.Matched.{text_means}
use Rattle.law_rewrite.proofs.Mixed.{partly_means, stored_same}
use Rattle.law_rewrite.proofs.Still.{still_means}
use Rattle.wh_base.specs.declared.views.Requirement.{Requirement}
use Rattle.wh_base.specs.declared.views.Requirement.TheVariants as requirement

pub holds_of : (e : Requirement) (b : Bool) → failing e b ≡ None → b ≡ true
holds_of e true h = refl
holds_of e false h = cc

pub eligible_is : (o : Option Requirement) (class class' : Class) (back back' : List Back) → standing_unless o class back ≡ Eligible class' back' → (o ≡ None) × ((class ≡ class') × (back ≡ back'))
eligible_is None class class' back back' h = (refl, (cc, cc))
eligible_is (Some n) class class' back back' h = cc

pub earlier_none : (a b : Option Requirement) → earlier_failure a b ≡ None → (a ≡ None) × (b ≡ None)
earlier_none None b h = (refl, h)
earlier_none (Some m) None h = cc
earlier_none (Some m) (Some n) h = cc

module _ (c : Catalog) (level : Level) (asks : asks_freshness level ≡ true) (q : StarQuery) (v : View) (p : ℕ) (built : v.point ≡ Some p) (stars : StarsKept c level q v p) (kept : ViewKept c v p) where
  abbrev then : Base
  then = base_at c p

  abbrev now : Base
  now = base_now c

  abbrev query : StarQuery
  query = v.def.query

  -- how far the view's tables are as they were
  data Current (back : List Back) : Type 0 where
    AllSame : Each (λ n. rows_at then n ≡ rows_at now n) query.tables → Current back
    PartSame : (n k : ℕ) → leaves_tracked v.def back ≡ true → ((m : ℕ) → is_tracked v.def m ≡ false → (m == n) ≡ false)
        → list_all (λ i. misses q (record { table = n; part = Col k }) i) (stale_intervals c v) ≡ true
        → Each (λ m. (m == n) ≡ false → rows_at then m ≡ rows_at now m) query.tables
        → filter (is_outside k (stale_intervals c v)) (rows_at then n) ≡ filter (is_outside k (stale_intervals c v)) (rows_at now n) → Current back

  abbrev enough : List Back → ViewState → Bool
  enough back Unbuilt = false
  enough back Fresh = true
  enough back Partly = selects_key v.def && (option_case (tracked_key v.def) false (λ key. list_all (λ i. misses q key i) (stale_intervals c v)) && leaves_tracked v.def back)
  enough back Stale = false

  fresh_same : is_fresh (facts_of c v) ≡ true → Each (λ n. rows_at then n ≡ rows_at now n) query.tables
  fresh_same h =
      subst (Each (λ n. rows_at then n ≡ rows_at now n)) kept.tables
      (Each-of_map (λ n. rows_at then n ≡ rows_at now n) (λ t. t.0) (table_defs v.def)
      (Each-map (λ t. (moved (known c v t) ≡ false → rows_at then t.0 ≡ rows_at now t.0) × (moved (known c v t) ≡ false)) (λ t. rows_at then t.0 ≡ rows_at now t.0) (λ t k. k.0 k.1) (table_defs v.def)
      (Each-both (λ t. moved (known c v t) ≡ false → rows_at then t.0 ≡ rows_at now t.0) (λ t. moved (known c v t) ≡ false) (table_defs v.def) kept.unmoved
      (Each-of_mapped (λ x. moved x ≡ false) (known c v) (table_defs v.def) (Each-from_none moved (map (known c v) (table_defs v.def)) (not-true (list_any moved (map (known c v) (table_defs v.def))) h))))))

  -- where one table is tracked the others are as they were
  pub others_same : (x : ℕ × TableDef) → tracked v.def ≡ Some x → first_part_restriction (facts_of c v) ≡ None → Each (λ m. (m == x.0) ≡ false → rows_at then m ≡ rows_at now m) query.tables
  others_same x is none =
      subst (Each (λ m. (m == x.0) ≡ false → rows_at then m ≡ rows_at now m)) kept.tables
      (Each-of_map (λ m. (m == x.0) ≡ false → rows_at then m ≡ rows_at now m) (λ t. t.0) (table_defs v.def)
      (Each-map (λ t. (moved (known c v t) ≡ false → rows_at then t.0 ≡ rows_at now t.0) × ((not (is_tracked v.def t.0) && moved (known c v t)) ≡ false)) (λ t. (t.0 == x.0) ≡ false → rows_at then t.0 ≡ rows_at now t.0)
      (λ t k apart. k.0 (by t (moved (known c v t)) (differs_turned t.0 x.0 apart) k.1)) (table_defs v.def)
      (Each-both (λ t. moved (known c v t) ≡ false → rows_at then t.0 ≡ rows_at now t.0) (λ t. (not (is_tracked v.def t.0) && moved (known c v t)) ≡ false) (table_defs v.def) kept.unmoved
      (Each-of_mapped (λ y. (not (is_tracked v.def y.table) && moved y) ≡ false) (known c v) (table_defs v.def)
      (Each-map (λ y. check_p3 v.def y ≡ None) (λ y. (not (is_tracked v.def y.table) && moved y) ≡ false) (λ y e. none_where (not (is_tracked v.def y.table) && moved y) (P3 y.table) e) (map (known c v) (table_defs v.def))
      (none_each (check_p3 v.def) (map (known c v) (table_defs v.def)) p3))))))
    where
      p3 : first_of (check_p3 v.def) (facts_of c v).tables ≡ None
      p3 =
          (none_first (first_of (check_p3 v.def) (facts_of c v).tables) []
          (none_first (check_p2 v.def) (first_of (check_p3 v.def) (facts_of c v).tables ∷ [])
          (none_first (check_p1 v.def) (check_p2 v.def ∷ first_of (check_p3 v.def) (facts_of c v).tables ∷ [])
          (none_first (check_f1 (facts_of c v)) (check_p1 v.def ∷ check_p2 v.def ∷ first_of (check_p3 v.def) (facts_of c v).tables ∷ []) none).1).1).1).0

      by : (t : ℕ × TableDef) (b : Bool) → (x.0 == t.0) ≡ false → (not (is_tracked v.def t.0) && b) ≡ false → b ≡ false
      by t b apart h =
          let off : is_tracked v.def t.0 ≡ false = ap (λ o. option_case o false (λ y. y.0 == t.0)) is ∙ apart in
          sym (ap (λ a. not a && b) off) ∙ h

  current : (back : List Back) → is_fresh_enough c q back v ≡ true → Current back
  current back h = by (is_none v.point) (is_fresh (facts_of c v)) (is_none (first_part_restriction (facts_of c v))) refl refl refl h
    where
      tracked_by : (x : ℕ × TableDef) (o : Option ℕ) → tracked v.def ≡ Some x → x.1.part_key ≡ o → leaves_tracked v.def back ≡ true → first_part_restriction (facts_of c v) ≡ None
          → option_case (option_map (λ k. record { table = x.0; part = Col k }) o) false (λ key. list_all (λ i. misses q key i) (stale_intervals c v)) ≡ true → Current back
      tracked_by x None is key state none e = cc
      tracked_by x (Some k) is key state none e =
          PartSame x.0 k state (λ m off. differs_turned x.0 m (sym (ap (λ o. option_case o false (λ y. y.0 == m)) is) ∙ off)) e (others_same x is none)
          (kept.outside x.0 k (ap (λ o. option_and_then (λ t. option_map (λ j. record { table = t.0; part = Col j }) t.1.part_key) o) is ∙ ap (option_map (λ j. record { table = x.0; part = Col j })) key))

      by_key : (o : Option (ℕ × TableDef)) → tracked v.def ≡ o → leaves_tracked v.def back ≡ true → first_part_restriction (facts_of c v) ≡ None
          → option_case (option_and_then (λ t. option_map (λ k. record { table = t.0; part = Col k }) t.1.part_key) o) false (λ key. list_all (λ i. misses q key i) (stale_intervals c v)) ≡ true → Current back
      by_key None is state none e = cc
      by_key (Some x) is state none e = tracked_by x x.1.part_key is refl state none e

      by : (a b d : Bool) → is_none v.point ≡ a → is_fresh (facts_of c v) ≡ b → is_none (first_part_restriction (facts_of c v)) ≡ d → enough back (cond a Unbuilt (cond b Fresh (cond d Partly Stale))) ≡ true → Current back
      by true b d f g k e = cc
      by false true d f g k e = AllSame (fresh_same g)
      by false false true f g k e =
          let both : (option_case (tracked_key v.def) false (λ key. list_all (λ i. misses q key i) (stale_intervals c v)) ≡ true) × (leaves_tracked v.def back ≡ true)
          = and_parts (option_case (tracked_key v.def) false (λ key. list_all (λ i. misses q key i) (stale_intervals c v))) (leaves_tracked v.def back)
          (and_parts (selects_key v.def) (option_case (tracked_key v.def) false (λ key. list_all (λ i. misses q key i) (stale_intervals c v)) && leaves_tracked v.def back) e).1 in
          by_key (tracked v.def) refl both.1 (was_none (first_part_restriction (facts_of c v)) k) both.0
      by false false false f g k e = cc

  asked : (back : List Back) → holds_e8 c q level back v ≡ true → is_fresh_enough c q back v ≡ true
  asked back h = sym (ap (λ b. not b || is_fresh_enough c q back v) asks) ∙ h

  pub content_is : content c v ≡ stored query then
  content_is = ap (λ o. option_case o [] (λ n. stored query (base_at c n))) built

  -- ---- without a text match

  abbrev w_back : List Back
  w_back = (reach (defs_now c) c.dimensions level q query).back

  general_means : (enabled : Bool) (class : Class) (backs : List Back) → general_standing c q level enabled v ≡ Eligible class backs
      → in_order q.order (class_rows (defs_now c) now q query (tracked_key v.def) (stale_intervals c v) class backs (content c v)) ≡ meaning q now
  general_means enabled class backs h =
      ap (in_order q.order) (rows_are class backs is.1.0 is.1.1 ∙ ap (λ es. general_rows (defs_now c) q query (layout q query w_back) (extended_rows now query w_back es)) content_is)
      ∙ by (current w_back e8)
    where
      is : (first_some (form_failure c q level v (reach (defs_now c) c.dimensions level q query) ∷ time_failure c q level enabled w_back v ∷ []) ≡ None) × ((general_class w_back ≡ class) × (w_back ≡ backs))
      is = eligible_is (first_some (form_failure c q level v (reach (defs_now c) c.dimensions level q query) ∷ time_failure c q level enabled w_back v ∷ [])) (general_class w_back) class w_back backs h

      two : (form_failure c q level v (reach (defs_now c) c.dimensions level q query) ≡ None) × (first_some (time_failure c q level enabled w_back v ∷ []) ≡ None)
      two = none_first (form_failure c q level v (reach (defs_now c) c.dimensions level q query)) (time_failure c q level enabled w_back v ∷ []) is.0

      e8 : is_fresh_enough c q w_back v ≡ true
      e8 = asked w_back (holds_of requirement.E8 (holds_e8 c q level w_back v) (none_first (failing requirement.E8 (holds_e8 c q level w_back v)) (failing requirement.E9 (holds_e9 q enabled v) ∷ []) (none_first (time_failure c q level enabled w_back v) [] two.1).0).0)

      forms : (compatible (defs_now c) level q query ≡ None) × (earlier_failure (reach (defs_now c) c.dimensions level q query).failed (failing requirement.E7 (computable (defs_now c) q query)) ≡ None)
      forms = earlier_none (compatible (defs_now c) level q query) (earlier_failure (reach (defs_now c) c.dimensions level q query).failed (failing requirement.E7 (computable (defs_now c) q query))) two.0

      more : ((reach (defs_now c) c.dimensions level q query).failed ≡ None) × (failing requirement.E7 (computable (defs_now c) q query) ≡ None)
      more = earlier_none (reach (defs_now c) c.dimensions level q query).failed (failing requirement.E7 (computable (defs_now c) q query)) forms.1

      reaches : (reach (defs_now c) c.dimensions level q query).failed ≡ None
      reaches = more.0

      seven : computable (defs_now c) q query ≡ true
      seven = holds_of requirement.E7 (computable (defs_now c) q query) more.1

      rows_are : (k : Class) (bs : List Back) → general_class w_back ≡ k → w_back ≡ bs
          → class_rows (defs_now c) now q query (tracked_key v.def) (stale_intervals c v) k bs (content c v) ≡ general_rows (defs_now c) q query (layout q query w_back) (extended_rows now query w_back (content c v))
      rows_are k bs e f = (λ i. class_rows (defs_now c) now q query (tracked_key v.def) (stale_intervals c v) (sym e i) (sym f i) (content c v)) ∙ by_class w_back
        where
          by_class : (xs : List Back) → class_rows (defs_now c) now q query (tracked_key v.def) (stale_intervals c v) (general_class xs) xs (content c v) ≡ general_rows (defs_now c) q query (layout q query xs) (extended_rows now query xs (content c v))
          by_class [] = refl
          by_class (x ∷ xs) = refl

      by : Current w_back → in_order q.order (general_rows (defs_now c) q query (layout q query w_back) (extended_rows now query w_back (stored query then))) ≡ meaning q now
      by (AllSame same) =
          ap (λ es. in_order q.order (general_rows (defs_now c) q query (layout q query w_back) (extended_rows now query w_back es))) (stored_same query then now same)
          ∙ eligible_plan (defs_now c) c.dimensions q query now stars.star_q stars.star_v level stars.rows_now stars.relies_now forms.0 reaches seven stars.kinds_now
      by (PartSame n k leaves tracks missed others own) =
          partly_means (defs_now c) c.dimensions q query then now stars.star_q stars.star_v level stars.relies_then stars.relies_now stars.rows_then stars.rows_now stars.kinds_then stars.kinds_now n k (stale_intervals c v) missed others own forms.0 reaches seven
          (Each-map (λ b. not (is_tracked v.def b.table) ≡ true) (λ b. has_number query.tables b.table ≡ true → (b.table == n) ≡ false) (λ b off there. tracks b.table (not-true (is_tracked v.def b.table) off)) w_back
          (Each-from_all (λ b. not (is_tracked v.def b.table)) w_back leaves))

  -- ---- text matches

  text_plan : (enabled : Bool) → SameFrom q query → Each (ItemGiven (defs_now c) q query) q.items → time_failure c q level enabled [] v ≡ None
      → in_order q.order (text_rows (defs_now c) q query (content c v)) ≡ meaning q now
  text_plan enabled same given passes =
      ap (λ es. in_order q.order (text_rows (defs_now c) q query es)) content_is
      ∙ text_means (defs_now c) q query then same given stars.star_v.selected (may_rely level) stars.rows_then stars.kinds_then
      ∙ by (current [] (asked [] (holds_of requirement.E8 (holds_e8 c q level [] v) (none_first (failing requirement.E8 (holds_e8 c q level [] v)) (failing requirement.E9 (holds_e9 q enabled v) ∷ []) passes).0)))
    where
      by : Current [] → meaning q then ≡ meaning q now
      by (AllSame rows_same) = ap (λ es. in_order q.order (map (λ (e : ViewEntry). e.row) es)) (stored_same q then now (subst (Each (λ n. rows_at then n ≡ rows_at now n)) (sym same.tables) rows_same))
      by (PartSame n k leaves tracks missed others own) =
          still_means (defs_now c) q n k (stale_intervals c v) (rows_at then) (rows_at now) stars.star_q stars.rows_then.plain stars.rows_now.plain missed
          (subst (Each (λ m. (m == n) ≡ false → rows_at then m ≡ rows_at now m)) (sym same.tables) others) own

-- ---- what is given of items

module _ (defs : List TableDef) (q v : StarQuery) where
  linked_itself : (x : ColRef) → linked q v x x ≡ true
  linked_itself x = itself_times (length (q.edges ++ v.edges)) (q.edges ++ v.edges) (x ∷ []) x (ap (λ b. b || false) (λ i. eq-eqb x.table x.table refl i && (same_part-Decides x.part x.part).1 refl i))

  expr_itself : (e : Expr) → equal_expr (linked q v) e e ≡ true
  expr_itself (expr.Col x) = linked_itself x
  expr_itself (expr.Product x y) = λ i. (linked_itself x i && linked_itself y i) || (linked q v x y && linked q v y x)
  expr_itself (expr.Lit n) = (Decides-int_eq n n).1 refl

  agg_itself : (a : Agg) → same_agg_by (equal_expr (linked q v)) a a ≡ true
  agg_itself CountAll = refl
  agg_itself (Count e) = expr_itself e
  agg_itself (Sum e) = expr_itself e
  agg_itself (Avg e) = expr_itself e
  agg_itself (Min e) = expr_itself e
  agg_itself (Max e) = expr_itself e

  -- an aggregate of the view comes from itself
  placed_agg : (a : Agg) → list_any (item_is_agg (linked q v) a) v.items ≡ true → agg_place (linked q v) v a ≡ Some (position_or_len (item_is_agg (linked q v) a) v.items)
  placed_agg a h = position_there (item_is_agg (linked q v) a) v.items h

  own_origin : (a : Agg) → list_any (item_is_agg (linked q v) a) v.items ≡ true → is_some (origin defs (linked q v) v a) ≡ true
  own_origin CountAll h = ap (λ o. is_some (option_map CountsOf o)) (placed_agg CountAll h)
  own_origin (Count e) h = ap (λ o. is_some (first_some (option_map CountsOf o ∷ cond (counts_all defs v e) (option_map CountsOf (agg_place (linked q v) v CountAll)) None ∷ []))) (placed_agg (Count e) h)
  own_origin (Sum e) h = ap (λ o. is_some (option_map SumsOf o)) (placed_agg (Sum e) h)
  own_origin (Min e) h = ap (λ o. is_some (option_map LeastOf o)) (placed_agg (Min e) h)
  own_origin (Max e) h = ap (λ o. is_some (option_map GreatestOf o)) (placed_agg (Max e) h)
  own_origin (Avg e) h = ap (λ o. is_some (first_some (option_map AveragesOf o ∷ both_places (agg_place (linked q v) v (Sum e)) (agg_place (linked q v) v (Count e)) ∷ []))) (placed_agg (Avg e) h)

  -- the view's own items are given
  own_given : (q.grouped ≡ false → Each IsColumn v.items) → Each (ItemGiven defs q v) v.items
  own_given plain = by q.grouped refl
    where
      items : (is : List Item) → ((i : Item) → list_any (same_item i) is ≡ true → list_any (same_item i) v.items ≡ true) → (q.grouped ≡ true) → ((a : Agg) → list_any (item_is_agg (linked q v) a) is ≡ true → list_any (item_is_agg (linked q v) a) v.items ≡ true)
          → Each (ItemGiven defs q v) is
      items [] sub g more = tt
      items (item.Col x ∷ is) sub g more = (
        sub (item.Col x) (ap (λ b. b || list_any (same_item (item.Col x)) is) (λ i. eq-eqb x.table x.table refl i && (same_part-Decides x.part x.part).1 refl i)),
        items is (λ i h. sub i (ap (λ b. same_item i (item.Col x) || b) h ∙ or-true (same_item i (item.Col x)))) g (λ a h. more a h),
      )
      items (item.Agg a ∷ is) sub g more = (
        (g, own_origin a (more a (ap (λ b. b || list_any (item_is_agg (linked q v) a) is) (agg_itself a)))),
        items is (λ i h. sub i (ap (λ b. same_item i (item.Agg a) || b) h ∙ or-true (same_item i (item.Agg a)))) g
            (λ b h. more b (ap (λ c. item_is_agg (linked q v) b (item.Agg a) || c) h ∙ or-true (item_is_agg (linked q v) b (item.Agg a)))),
      )

      columns : (is : List Item) → Each IsColumn is → ((i : Item) → list_any (same_item i) is ≡ true → list_any (same_item i) v.items ≡ true) → Each (ItemGiven defs q v) is
      columns [] h sub = tt
      columns (item.Col x ∷ is) h sub = (
        sub (item.Col x) (ap (λ b. b || list_any (same_item (item.Col x)) is) (λ i. eq-eqb x.table x.table refl i && (same_part-Decides x.part x.part).1 refl i)),
        columns is h.1 (λ i k. sub i (ap (λ b. same_item i (item.Col x) || b) k ∙ or-true (same_item i (item.Col x)))),
      )
      columns (item.Agg a ∷ is) h sub = absurd h.0

      by : (b : Bool) → q.grouped ≡ b → Each (ItemGiven defs q v) v.items
      by true e = items v.items (λ i h. h) e (λ a h. h)
      by false e = columns v.items (plain e) (λ i h. h)

  given_of : q.grouped ≡ true → (is : List Item) → list_all (item_given defs q v) is ≡ true → Each (ItemGiven defs q v) is
  given_of g [] h = tt
  given_of g (item.Col x ∷ is) h = let both : (selects_column v x ≡ true) × (list_all (item_given defs q v) is ≡ true) = and_parts (selects_column v x) (list_all (item_given defs q v) is) h in (both.0, given_of g is both.1)
  given_of g (item.Agg a ∷ is) h =
      let both : (is_some (origin defs (linked q v) v a) ≡ true) × (list_all (item_given defs q v) is ≡ true) = and_parts (is_some (origin defs (linked q v) v a)) (list_all (item_given defs q v) is) h in ((g, both.0), given_of g is both.1)

  selected_of : (is : List Item) → list_all (is_selected v) is ≡ true → Each (ItemGiven defs q v) is
  selected_of [] h = tt
  selected_of (item.Col x ∷ is) h = let both : (selects_column v x ≡ true) × (list_all (is_selected v) is ≡ true) = and_parts (selects_column v x) (list_all (is_selected v) is) h in (both.0, selected_of is both.1)
  selected_of (item.Agg a ∷ is) h = cc

-- ---- the law

abbrev class_of_match : List TableDef → StarQuery → View → TextMatch → Option Class
class_of_match defs q v FullText = Some Full
class_of_match defs q v PartialText = where_true (partial_holds defs q v.def.query) Partial
class_of_match defs q v NoText = None

abbrev class_by : List TableDef → StarQuery → List Token → View → Option (List Token) → Option Class
class_by defs q text v o = option_and_then (λ given. class_of_match defs q v (match_text text given)) o

pub standing_means : (c : Catalog) (q : StarQuery) (text : List Token) (level : Level) (enabled : Bool) (v : View) (p : ℕ) (class : Class) (backs : List Back)
    → asks_freshness level ≡ true → v.point ≡ Some p → StarsKept c level q v p → ViewKept c v p → TextsKept q text v
    → standing c q text level enabled v ≡ Eligible class backs
    → in_order q.order (class_rows (defs_now c) (base_now c) q v.def.query (tracked_key v.def) (stale_intervals c v) class backs (content c v)) ≡ meaning q (base_now c)
standing_means c q text level enabled v p class backs asks built stars kept texts h = by (text_class (defs_now c) q text v) refl h
  where
    full_same : record q { order = [] } ≡ record v.def.query { order = [] } → SameFrom q v.def.query
    full_same e = record {
      tables = ap (λ (x : StarQuery). x.tables) e;
      edges = ap (λ (x : StarQuery). x.edges) e;
      conditions = ap (λ (x : StarQuery). x.conditions) e;
      grouped = ap (λ (x : StarQuery). x.grouped) e;
      keys = ap (λ (x : StarQuery). x.keys) e;
      having = ap (λ (x : StarQuery). x.having) e;
    }

    part_same : SameParts q v.def.query → q.grouped ≡ v.def.query.grouped → SameFrom q v.def.query
    part_same s g = record { tables = s.tables; edges = s.edges; conditions = s.conditions; grouped = g; keys = s.keys; having = s.having }

    full : time_failure c q level enabled [] v ≡ None → record q { order = [] } ≡ record v.def.query { order = [] }
        → in_order q.order (text_rows (defs_now c) q v.def.query (content c v)) ≡ meaning q (base_now c)
    full passes e =
        text_plan c level asks q v p built stars kept enabled (full_same e)
        (subst (Each (ItemGiven (defs_now c) q v.def.query)) (sym (ap (λ (x : StarQuery). x.items) e))
        (own_given (defs_now c) q v.def.query (λ g. stars.star_v.alone (sym (ap (λ (x : StarQuery). x.grouped) e) ∙ g)))) passes

    part : time_failure c q level enabled [] v ≡ None → SameParts q v.def.query → partial_holds (defs_now c) q v.def.query ≡ true
        → in_order q.order (text_rows (defs_now c) q v.def.query (content c v)) ≡ meaning q (base_now c)
    part passes s holds =
        by_grouped q.grouped refl
        (and_parts (is_empty v.def.query.having)
        (cond q.grouped (v.def.query.grouped && list_all (item_given (defs_now c) q v.def.query) q.items) (not v.def.query.grouped && list_all (is_selected v.def.query) q.items)) holds).1
      where
        by_grouped : (b : Bool) → q.grouped ≡ b → cond b (v.def.query.grouped && list_all (item_given (defs_now c) q v.def.query) q.items) (not v.def.query.grouped && list_all (is_selected v.def.query) q.items) ≡ true
            → in_order q.order (text_rows (defs_now c) q v.def.query (content c v)) ≡ meaning q (base_now c)
        by_grouped true e k =
            let both : (v.def.query.grouped ≡ true) × (list_all (item_given (defs_now c) q v.def.query) q.items ≡ true) = and_parts v.def.query.grouped (list_all (item_given (defs_now c) q v.def.query) q.items) k in
            text_plan c level asks q v p built stars kept enabled (part_same s (e ∙ sym both.0)) (given_of (defs_now c) q v.def.query e q.items both.1) passes
        by_grouped false e k =
            let both : (not v.def.query.grouped ≡ true) × (list_all (is_selected v.def.query) q.items ≡ true) = and_parts (not v.def.query.grouped) (list_all (is_selected v.def.query) q.items) k in
            text_plan c level asks q v p built stars kept enabled (part_same s (e ∙ sym (not-true v.def.query.grouped both.0))) (selected_of (defs_now c) q v.def.query q.items both.1) passes

    text_by : (k : Class) → class_rows (defs_now c) (base_now c) q v.def.query (tracked_key v.def) (stale_intervals c v) k [] (content c v) ≡ text_rows (defs_now c) q v.def.query (content c v)
        → in_order q.order (text_rows (defs_now c) q v.def.query (content c v)) ≡ meaning q (base_now c) → (k ≡ class) → ([] ≡ backs)
        → in_order q.order (class_rows (defs_now c) (base_now c) q v.def.query (tracked_key v.def) (stale_intervals c v) class backs (content c v)) ≡ meaning q (base_now c)
    text_by k rows means e f = (λ i. in_order q.order (class_rows (defs_now c) (base_now c) q v.def.query (tracked_key v.def) (stale_intervals c v) (sym e i) (sym f i) (content c v))) ∙ ap (in_order q.order) rows ∙ means

    matched : (m : TextMatch) (given : List Token) → own_text v ≡ Some given → match_text text given ≡ m → (k : Class)
        → class_of_match (defs_now c) q v m ≡ Some k
        → standing_unless (time_failure c q level enabled [] v) k [] ≡ Eligible class backs
        → in_order q.order (class_rows (defs_now c) (base_now c) q v.def.query (tracked_key v.def) (stale_intervals c v) class backs (content c v)) ≡ meaning q (base_now c)
    matched FullText given r m k e s =
        let is = eligible_is (time_failure c q level enabled [] v) k class [] backs s in
        text_by Full refl (full is.0 (texts.full given r m)) (same_Some Full k e ∙ is.1.0) is.1.1
    matched PartialText given r m k e s =
        let is = eligible_is (time_failure c q level enabled [] v) k class [] backs s in
        let both : (partial_holds (defs_now c) q v.def.query ≡ true) × (Partial ≡ k) = where_is (partial_holds (defs_now c) q v.def.query) Partial k e in
        text_by Partial refl (part is.0 (texts.part given r m) both.0) (both.1 ∙ is.1.0) is.1.1
    matched NoText given r m k e s = cc

    tokens_by : (o : Option (List Token)) → own_text v ≡ o → (k : Class) → text_class (defs_now c) q text v ≡ Some k
        → standing_unless (time_failure c q level enabled [] v) k [] ≡ Eligible class backs
        → in_order q.order (class_rows (defs_now c) (base_now c) q v.def.query (tracked_key v.def) (stale_intervals c v) class backs (content c v)) ≡ meaning q (base_now c)
    tokens_by None r k e s = absurd (let f : None ≡ Some k = sym (ap (class_by (defs_now c) q text v) r) ∙ e in cc)
    tokens_by (Some given) r k e s = matched (match_text text given) given r refl k (sym (ap (class_by (defs_now c) q text v) r) ∙ e) s

    by : (o : Option Class) → text_class (defs_now c) q text v ≡ o → option_case o (general_standing c q level enabled v) (λ k. standing_unless (time_failure c q level enabled [] v) k []) ≡ Eligible class backs
        → in_order q.order (class_rows (defs_now c) (base_now c) q v.def.query (tracked_key v.def) (stale_intervals c v) class backs (content c v)) ≡ meaning q (base_now c)
    by None e s = general_means c level asks q v p built stars kept enabled class backs s
    by (Some k) e s = tokens_by (own_text v) refl k e s
