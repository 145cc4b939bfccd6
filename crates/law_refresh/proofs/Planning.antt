-- The views of a trace are stars over tables that are there.
use Rattle.std.proofs.Common.{◌≡◌, ◌∙◌, sym, ap, refl, subst, arith, ℕ, zero, suc, ◌+◌, ◌<◌, ◌≤◌, Bool, true, false, cond, not, List, [], ◌∷◌, ◌++◌, length, map, Option, None, Some, ◌==◌, ◌&&◌, ◌||◌}
use Rattle.std.specs.List.{All, find, flat_map, list_any}
use Rattle.std.specs.Option.{ForSome}
use Rattle.std.specs.Prelude.{Ok}
use Rattle.std.proofs.lemmas.List.{length-append, length-map}
use Rattle.std.proofs.lemmas.List.Elements.{All-head, All-tail}
use Rattle.wh_base.specs.Columns.{agg_columns, has_column, same_agg_by, same_column, same_expr}
use Rattle.wh_base.specs.Lists.{first_of, first_some, unless, where_true}
use Rattle.wh_base.specs.Tables.{def_at}
use Rattle.wh_base.specs.declared.columns.Agg.{Agg}
use Rattle.wh_base.specs.declared.columns.Agg.TheVariants.{Sum}
use Rattle.wh_base.specs.declared.columns.ColRef.{ColRef}
use Rattle.wh_base.specs.declared.columns.Expr.TheVariants.{Product}
use Rattle.wh_base.specs.declared.queries.ColName.{ColName}
use Rattle.wh_base.specs.declared.queries.Edge.{Edge}
use Rattle.wh_base.specs.declared.queries.Item.{Item}
use Rattle.wh_base.specs.declared.queries.RawItem.{RawItem}
use Rattle.wh_base.specs.declared.queries.RawQuery.{RawQuery}
use Rattle.wh_base.specs.declared.queries.RawWhat.{RawWhat}
use Rattle.wh_base.specs.declared.queries.RawWhat.TheVariants as what
use Rattle.wh_base.specs.declared.queries.StarQuery.{StarQuery}
use Rattle.wh_base.specs.declared.replies.Refusal.{Refusal}
use Rattle.wh_base.specs.declared.replies.Refusal.TheVariants.{NotGrouped, NotStar}
use Rattle.wh_base.specs.declared.statements.Event.{Event}
use Rattle.wh_base.specs.declared.tables.TableDef.{TableDef}
use Rattle.def_history.specs.Catalog.{Catalog, View, base_at, defs_now}
use Rattle.def_meaning.specs.Accumulated.{item_aggs, selected_aggs}
use Rattle.def_resolve.proofs.Trees.{resolve-is}
use Rattle.def_resolve.specs.Kinds.{IsNumber, agg_refusal, agrees, is_plain, is_summed, misfit, part_sort, summed_refusal}
use Rattle.def_resolve.specs.Names.{Source, column_named, names_refusal, sources_of, table_refusal}
use Rattle.def_resolve.specs.Resolve.{IsStar, first_table, grouping_holds, joins_of, kinds_refusal, resolve, resolved_item, star_form, star_query, what_refusal}
use Rattle.def_resolve.specs.Star.{Tree, star_of}
use Rattle.def_restrictions.specs.Definition.{used_columns}
use Rattle.wh_base.proofs.SameItems.{same_agg-Decides, same_column-Decides}
use Rattle.law_lists.proofs.Options.{none_then, or_refuse_is, unless_is}
use Rattle.law_lists.proofs.Numbers.{number_among}
use Rattle.law_refresh.proofs.Logs.{def_later}
use Rattle.law_refresh.proofs.Resolving.{agg_all, AreKeyed, Ends, IsColumn, IsSource, apart_root, joins_all, named_is, sources_are, star_is, used_all}
use Rattle.law_refresh.specs.Planned.{Distinct, IsPlace, IsPlanned}
use Rattle.law_trace.proofs.Basing.{none_each, none_first, none_map, none_rest}
use Rattle.law_trace.proofs.Defining.{def_still, trace_defined}
use Rattle.law_trace.proofs.Listed.{Each, each_append, each_map, each_weaker}
use Rattle.law_trace.specs.Reached.{catalog_of, still, stills}
use Rattle.law_trace.specs.Rows.{IsDefined}

-- ---- what a query resolves to

-- the aggregate isn't refused, and its columns are there
abbrev IsRight : List TableDef → ℕ → Agg → Type 0
IsRight defs first a = (agg_refusal defs first a ≡ None) × Each (IsColumn defs) (agg_columns a)

pub record IsResolved (defs : List TableDef) (q : StarQuery) : Type 0 where
  pub star : IsStar defs q
  pub low : Each (λ n. n < length defs) q.tables
  pub columns : Each (IsColumn defs) (used_columns q)
  pub aggs : (first : ℕ) × Each (IsRight defs first) (selected_aggs q)

aggs_right : (defs : List TableDef) (first : ℕ) (column : ColName → ColRef) → ((c : ColName) → IsColumn defs (column c)) → (is : List RawItem) → Each (λ (i : RawItem). what_refusal defs first column i.what ≡ None) is
    → Each (IsRight defs first) (flat_map item_aggs (map (λ i. resolved_item column i.what) is))
aggs_right defs first column named [] h = tt
aggs_right defs first column named (i ∷ is) h = each_append (IsRight defs first) (item_aggs (resolved_item column i.what)) (flat_map item_aggs (map (λ i. resolved_item column i.what) is)) (by i.what h.0) (aggs_right defs first column named is h.1)
  where
    by : (w : RawWhat) → what_refusal defs first column w ≡ None → Each (IsRight defs first) (item_aggs (resolved_item column w))
    by (what.Plain c) e = tt
    by (what.Computed a) e = ((e, agg_all (IsColumn defs) column named a), tt)

tables_of : (defs : List TableDef) (ss : List Source) → Each (IsSource defs) ss → Each (λ n. n < length defs) (map (λ s. s.table) ss)
tables_of defs ss h = each_map (IsSource defs) (λ n. n < length defs) (λ s. s.table) (λ s is. is.0) ss h

some_defs : (defs : List TableDef) (joins : List Edge) (ss : List Source) (tree : Tree) → Each (IsSource defs) ss → star_of defs joins (map (λ s. s.table) ss) ≡ Some tree → 0 < length defs
some_defs defs joins [] tree h e = absurd (by (not (length joins + 1 == 0)) e)
  where
    by : (b : Bool) → cond b None None ≡ Some tree → ⊥
    by true e = cc
    by false e = cc
some_defs defs joins (s ∷ ss) tree h e = omega (arith, h.0.0)

pub resolved : (defs : List TableDef) → AreKeyed defs → (raw : RawQuery) (q : StarQuery) → resolve defs raw ≡ Ok q → IsResolved defs q
resolved defs keyed raw q h =
    let ss : List Source = sources_of defs raw in
    let column : ColName → ColRef = column_named ss in
    let items : List Item = map (λ i. resolved_item column i.what) raw.items in
    let keys : List ColRef = map column raw.groups in
    let refusals : List (Option Refusal) = table_refusal defs raw ∷ names_refusal ss raw ∷ kinds_refusal defs (first_table ss) column raw ∷ [] in
    let parts : (first_some refusals ≡ None) × (star_form defs raw ss ≡ Ok q) = none_then (first_some refusals) (star_form defs raw ss) q h in
    let found = or_refuse_is (star_of defs (joins_of column raw) (map (λ s. s.table) ss)) NotStar (λ tree. unless (where_true (not (grouping_holds raw column items keys)) NotGrouped) (star_query raw column tree)) q parts.1 in
    let tree : Tree = found.0 in
    let same : star_query raw column tree ≡ q = unless_is (where_true (not (grouping_holds raw column items keys)) NotGrouped) (star_query raw column tree) q found.1.1 in
    let sources : Each (IsSource defs) ss = sources_are defs raw in
    let some : 0 < length defs = some_defs defs (joins_of column raw) ss tree sources found.1.0 in
    let named : (c : ColName) → IsColumn defs (column c) = named_is defs keyed ss sources some in
    let grown = star_is defs (joins_of column raw) (Ends (IsColumn defs) column named) (λ n. n < length defs) (λ e k. (k.1, k.0)) (λ e k. k.1.0) (joins_all (IsColumn defs) column named raw) (map (λ s. s.table) ss) tree (tables_of defs ss sources) found.1.0 in
    let kinds : kinds_refusal defs (first_table ss) column raw ≡ None = none_first (kinds_refusal defs (first_table ss) column raw) [] (none_rest (names_refusal ss raw) _ (none_rest (table_refusal defs raw) _ parts.0)) in
    let what_none : first_of (λ i. what_refusal defs (first_table ss) column i.what) raw.items ≡ None = none_first (first_of (λ i. what_refusal defs (first_table ss) column i.what) raw.items) _ kinds in
    record {
      star = resolve-is defs raw q h;
      low = subst (λ (q : StarQuery). Each (λ n. n < length defs) q.tables) same grown.1;
      columns = subst (λ (q : StarQuery). Each (IsColumn defs) (used_columns q)) same (used_all (IsColumn defs) column named raw tree grown.0);
      aggs = (
        first_table ss,
        subst (λ (q : StarQuery). Each (IsRight defs (first_table ss)) (selected_aggs q)) same
            (aggs_right defs (first_table ss) column named raw.items (none_each (λ i. what_refusal defs (first_table ss) column i.what) raw.items what_none)),
      );
    }

-- ---- what is among them

agg_among : (P : Agg → Type 0) (a : Agg) (xs : List Agg) → Each P xs → list_any (same_agg_by same_expr a) xs ≡ true → P a
agg_among P a [] h e = cc
agg_among P a (b ∷ bs) h e = by (same_agg_by same_expr a b) refl e (agg_among P a bs h.1)
  where
    by : (x : Bool) → same_agg_by same_expr a b ≡ x → (x || list_any (same_agg_by same_expr a) bs) ≡ true → (list_any (same_agg_by same_expr a) bs ≡ true → P a) → P a
    by true f e more = subst P (sym ((same_agg-Decides a b).0 f)) h.0
    by false f e more = more e

column_among : (P : ColRef → Type 0) (c : ColRef) (xs : List ColRef) → Each P xs → has_column xs c ≡ true → P c
column_among P c [] h e = cc
column_among P c (b ∷ bs) h e = by (same_column c b) refl e (column_among P c bs h.1)
  where
    by : (x : Bool) → same_column c b ≡ x → (x || has_column bs c) ≡ true → (has_column bs c ≡ true → P c) → P c
    by true f e more = subst P (sym ((same_column-Decides c b).0 f)) h.0
    by false f e more = more e

both_summed : (defs : List TableDef) (a b : ColRef) → summed_refusal defs (a ∷ b ∷ []) ≡ None → (is_summed defs a ≡ true) × (is_summed defs b ≡ true)
both_summed defs a b e = by (is_summed defs a) (is_summed defs b) (none_map (misfit defs) (find (λ c. not (is_summed defs c)) (a ∷ b ∷ [])) e)
  where
    by : (x y : Bool) → cond (not x) (Some a) (cond (not y) (Some b) None) ≡ None → (x ≡ true) × (y ≡ true)
    by true true e = (refl, refl)
    by true false e = cc
    by false y e = cc

-- ---- the definitions of a trace

keyed_of : (all defs : List TableDef) → All (IsDefined all) defs → AreKeyed defs
keyed_of all [] h n low = absurd (omega arith)
keyed_of all (d ∷ defs) h zero low = (All-head (IsDefined all) d defs h).part_key
keyed_of all (d ∷ defs) h (suc n) low = keyed_of all defs (All-tail (IsDefined all) d defs h) n (omega arith)

keyed_front : (then later : List TableDef) → AreKeyed (then ++ later) → AreKeyed then
keyed_front then later h n low =
    let all : length (then ++ later) ≡ length then + length later = length-append then later in
    subst (λ (d : TableDef). ForSome d.part_key (λ k. k < length d.columns)) (def_later then later n low) (h n (omega arith))

summed_later : (then later : List TableDef) (c : ColRef) → c.table < length then → is_summed then c ≡ true → is_summed (then ++ later) c ≡ true
summed_later then later c low e = ap (λ (d : TableDef). is_plain c.part && agrees (part_sort d c.part) IsNumber) (def_later then later c.table low) ∙ e

-- row movement tells nothing of columns
summed_still : (defs : List TableDef) (c : ColRef) → is_summed (map still defs) c ≡ is_summed defs c
summed_still defs c = ap (λ (d : TableDef). is_plain c.part && agrees (part_sort d c.part) IsNumber) (def_still defs c.table)

keyed_still : (defs : List TableDef) → AreKeyed defs → AreKeyed (map still defs)
keyed_still defs h n low =
    let many : length (map still defs) ≡ length defs = length-map defs still in
    subst (λ (d : TableDef). ForSome d.part_key (λ k. k < length d.columns)) (sym (def_still defs n)) (h n (omega arith))

keyed_back : (defs : List TableDef) → AreKeyed (map still defs) → AreKeyed defs
keyed_back defs h n low =
    let many : length (map still defs) ≡ length defs = length-map defs still in
    subst (λ (d : TableDef). ForSome d.part_key (λ k. k < length d.columns)) (def_still defs n) (h n (omega arith))

maps_still : (f g : ℕ → TableDef) (ns : List ℕ) → Each (λ n. still (f n) ≡ still (g n)) ns → map still (map f ns) ≡ map still (map g ns)
maps_still f g [] h = refl
maps_still f g (n ∷ ns) h = λ i. h.0 i ∷ maps_still f g ns h.1 i

-- the definitions that a view keeps are those of now but for row movement
pub kept_definitions : (trace : List Event) (v : View) (raw : RawQuery) (then later : List TableDef) → stills (catalog_of trace) ≡ map still then ++ later → resolve then raw ≡ Ok v.def.query
    → v.def.tables ≡ map (def_at then) v.def.query.tables → map still v.def.tables ≡ map still (map (def_at (defs_now (catalog_of trace))) v.def.query.tables)
kept_definitions trace v raw then later since before defined =
    let c : Catalog = catalog_of trace in
    let keyed : AreKeyed (stills c) = keyed_still (defs_now c) (keyed_of (defs_now c) (defs_now c) (trace_defined trace)) in
    let was : IsResolved then v.def.query = resolved then (keyed_back then (keyed_front (map still then) later (subst AreKeyed since keyed))) raw v.def.query before in
    let many : length (map still then) ≡ length then = length-map then still in
    ap (map still) defined
    ∙ maps_still (def_at then) (def_at (defs_now c)) v.def.query.tables
    (each_weaker (λ n. n < length then) (λ n. still (def_at then n) ≡ still (def_at (defs_now c) n))
    (λ n low. sym (def_still then n) ∙ sym (def_later (map still then) later n (omega (arith, many, low))) ∙ ap (λ ds. def_at ds n) (sym since) ∙ def_still (defs_now c) n) v.def.query.tables was.low)

pub planned : (trace : List Event) (v : View) (raw : RawQuery) (then later : List TableDef) → stills (catalog_of trace) ≡ map still then ++ later
    → resolve then raw ≡ Ok v.def.query → v.def.tables ≡ map (def_at (defs_now (catalog_of trace))) v.def.query.tables
    → ForSome v.point (λ p. length then ≤ length (base_at (catalog_of trace) p)) → IsPlanned (catalog_of trace) v
planned trace v raw then later since before defined there =
    let c : Catalog = catalog_of trace in
    let q : StarQuery = v.def.query in
    let keyed : AreKeyed (stills c) = keyed_still (defs_now c) (keyed_of (defs_now c) (defs_now c) (trace_defined trace)) in
    let was : IsResolved then q = resolved then (keyed_back then (keyed_front (map still then) later (subst AreKeyed since keyed))) raw q before in
    let many : length (map still then) ≡ length then = length-map then still in
    record {
      others = map (λ e. e.to.table) q.edges;
      tables = was.star.0.0;
      once = subst Distinct (sym was.star.0.0) (apart_root then q.root q.edges was.star.0.1);
      defined = defined;
      there = λ p e n has. low_on n (length then) (length (base_at c p)) (number_among (λ n. n < length then) q.tables n was.low has) (there p e);
      grouped = was.star.1;
      numbers = λ a b selected.
          let right : IsRight then was.aggs.0 (Sum (Product a b)) = agg_among (IsRight then was.aggs.0) (Sum (Product a b)) (selected_aggs q) was.aggs.1 selected in
          let both : (is_summed then a ≡ true) × (is_summed then b ≡ true) = both_summed then a b right.0 in (
            sym (summed_still (defs_now c) a) ∙ ap (λ ds. is_summed ds a) since ∙ summed_later (map still then) later a (omega (arith, many, right.1.0.0)) (summed_still then a ∙ both.0),
            sym (summed_still (defs_now c) b) ∙ ap (λ ds. is_summed ds b) since ∙ summed_later (map still then) later b (omega (arith, many, right.1.1.0.0)) (summed_still then b ∙ both.1),
          );
      columns = λ col used.
          let is : IsColumn then col = column_among (IsColumn then) col (used_columns q) was.columns used in
          let same : still (def_at then col.table) ≡ still (def_at (defs_now c) col.table) =
          sym (def_still then col.table) ∙ sym (def_later (map still then) later col.table (omega (arith, many, is.0))) ∙ ap (λ ds. def_at ds col.table) (sym since) ∙ def_still (defs_now c) col.table in
          subst (λ d. IsPlace d col.part) same is.1;
    }
  where
    low_on : (a b c : ℕ) → a < b → b ≤ c → a < c
    low_on a b c h k = omega arith
