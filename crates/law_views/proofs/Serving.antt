-- A view that is chosen under ENFORCED stores what the query means.
use Rattle.std.proofs.Common.{◌≡◌, ◌∙◌, sym, ap, refl, subst, arith, ℕ, zero, suc, ◌<◌, Bool, true, false, true≢false, cond, not, List, [], ◌∷◌, ◌++◌, length, map, Option, None, Some, ◌==◌, ◌&&◌}
use Rattle.law_lists.proofs.Each.{map_alike}
use Rattle.law_lists.proofs.Numbers.{differs_turned}
use Rattle.std.specs.List.{filter, list_all, list_any}
use Rattle.std.specs.Prelude.{Ok, is_none, is_some, nat_abs, option_and_then, option_map, unwrap_or, zip, ℤ}
use Rattle.std.proofs.lemmas.Bool.{and_parts, eqb-true, not-true, or_parts}
use Rattle.std.proofs.lemmas.List.{length-map}
use Rattle.wh_base.specs.Lists.{first_of, option_case, sorted_by}
use Rattle.wh_base.specs.Tables.{Base, Row, def_at, defs_of, row_at, table_at, value_at}
use Rattle.wh_base.specs.declared.columns.ColPart.TheVariants.{Col}
use Rattle.wh_base.specs.declared.columns.ColRef.{ColRef}
use Rattle.wh_base.specs.declared.queries.RawQuery.{RawQuery}
use Rattle.wh_base.specs.declared.queries.StarQuery.{StarQuery}
use Rattle.wh_base.specs.declared.statements.Event.{Event}
use Rattle.wh_base.specs.declared.statements.Level.TheVariants.{Enforced}
use Rattle.wh_base.specs.declared.tables.TableDef.{TableDef}
use Rattle.wh_base.specs.declared.tables.RowAt.{RowAt}
use Rattle.wh_base.specs.declared.tables.Touch.{Touch}
use Rattle.wh_base.specs.declared.values.Interval.{Interval}
use Rattle.wh_base.specs.declared.values.Value.{Value}
use Rattle.wh_base.specs.declared.views.Plan.TheVariants as plan
use Rattle.wh_base.specs.declared.views.Restriction.{Restriction}
use Rattle.wh_base.specs.declared.views.Restriction.TheVariants.{P3}
use Rattle.wh_base.specs.declared.views.ViewEntry.{ViewEntry}
use Rattle.wh_base.specs.declared.views.ViewPlan.{ViewPlan}
use Rattle.wh_base.specs.declared.views.ViewState.{ViewState}
use Rattle.wh_base.specs.declared.views.ViewState.TheVariants.{Fresh, Partly, Stale, Unbuilt}
use Rattle.wh_base.specs.declared.tokens.Token.{Token}
use Rattle.def_choice.specs.Choice.{base_then, choice, class_is_built}
use Rattle.def_choice.specs.Eligible.{is_fresh_enough, leaves_tracked}
use Rattle.def_grammar.specs.Query.{select}
use Rattle.def_grammar.specs.Reading.{whole}
use Rattle.def_history.specs.Catalog.{Catalog, View, base_at, base_now, defs_now}
use Rattle.def_history.specs.History.{touches_of}
use Rattle.def_history.specs.Staleness.{content, facts_of, known, stale_intervals, touches_after}
use Rattle.def_meaning.specs.Joined.{column_value, conditions_true, edge_true, part_value, product, row_of, rows_at, tuple_true}
use Rattle.def_meaning.specs.Meaning.{entries, entry_cmp, in_order, meaning, stored}
use Rattle.def_meaning.specs.Ranges.{misses}
use Rattle.def_resolve.proofs.Trees.{resolve-is}
use Rattle.def_resolve.specs.Resolve.{resolve}
use Rattle.def_restrictions.proofs.Union.{any_has}
use Rattle.def_restrictions.specs.Definition.{is_tracked, selects_key, table_defs, tracked, tracked_key}
use Rattle.def_restrictions.specs.Intervals.{union_of}
use Rattle.def_restrictions.specs.Restrictions.{check_f1, check_p1, check_p2, check_p3, first_part_restriction, is_fresh, moved}
use Rattle.def_rewriting.specs.Matching.{FullText, match_text}
use Rattle.wh_star.specs.Marked.{is_pair}
use Rattle.law_text.specs.Unordered.{unordered, without_order}
use Rattle.law_trace.proofs.Basing.{none_each, none_first, none_rest, none_where}
use Rattle.law_trace.proofs.Defining.{def_still}
use Rattle.law_trace.proofs.Fitting.{trace_fits}
use Rattle.law_trace.proofs.Listed.{Each, each_found, each_made, each_map, each_unmap, each_weaker}
use Rattle.law_trace.proofs.Makings.{AllFit}
use Rattle.law_trace.proofs.Viewing.{trace_ordered}
use Rattle.law_trace.specs.Reached.{catalog_of, still}
use Rattle.law_trace.specs.Rows.{Fits}
use Rattle.law_trace.proofs.Changes.{unmoved}
use Rattle.law_views.proofs.Chosen.{IsChosen, chosen}
use Rattle.law_views.proofs.Misses.{missed_all, plain_query, plain_value}
use Rattle.law_trace.proofs.Sparing.{keeps, outside, same_kept, avoids_touches}
use Rattle.law_trace.proofs.Outside.{IsSame, fit_at, trace_outside}
use Rattle.law_views.proofs.Texts.{LaterTables, OverTables, each_text, resolved_now}
use Rattle.law_views.proofs.Tuples.{IsNeeded, Once, fewer, fewer_tuples, once_in}
use Rattle.law_views.specs.Laws.{Answers, IsOfText, Serves}
use Rattle.law_views.specs.Read.{AreRead}

-- ---- tests and lists

none_of : {A B : Type 0} (p : B → Bool) (f : A → B) (xs : List A) → list_any p (map f xs) ≡ false → Each (λ x. p (f x) ≡ false) xs
none_of p f [] e = tt
none_of p f (x ∷ xs) e = ((or_parts (p (f x)) (list_any p (map f xs)) e).0, none_of p f xs (or_parts (p (f x)) (list_any p (map f xs)) e).1)

zip_map : {A B : Type 0} (g : A → B) (xs : List A) → zip xs (map g xs) ≡ map (λ x. (x, g x)) xs
zip_map g [] = refl
zip_map g (x ∷ xs) = ap (λ rest. (x, g x) ∷ rest) (zip_map g xs)

-- ---- definitions of tables

key_within : (defs : List TableDef) (n k : ℕ) → (def_at defs n).part_key ≡ Some k → n < length defs
key_within [] n k e = absurd (cc)
key_within (d ∷ defs) zero k e = omega arith
key_within (d ∷ defs) (suc n) k e = let low : n < length defs = key_within defs n k e in omega arith

def_earlier : (defs more : List TableDef) (n : ℕ) → n < length defs → def_at (defs ++ more) n ≡ def_at defs n
def_earlier [] more n low = absurd (omega arith)
def_earlier (d ∷ defs) more zero low = refl
def_earlier (d ∷ defs) more (suc n) low = def_earlier defs more n (omega arith)

def_of : (base : Base) (n : ℕ) → (table_at base n).def ≡ def_at (defs_of base) n
def_of [] n = refl
def_of (t ∷ base) zero = refl
def_of (t ∷ base) (suc n) = def_of base n

-- ---- what a view stores, by the tuples of its query

abbrev tuples : StarQuery → Base → List (List RowAt)
tuples q base = filter (tuple_true q) (product (map (rows_at base) q.tables))

stored_same : (q : StarQuery) (a b : Base) → tuples q a ≡ tuples q b → stored q a ≡ stored q b
stored_same q a b same = ap (λ (ts : List (List RowAt)). sorted_by entry_cmp (entries (column_value q.tables) q ts)) same

-- ---- a row that stands in a tuple

needed_rows : (r : StarQuery) (base : Base) (n k : ℕ) (all : List Interval) → AllFit (table_at base n) → list_all (λ i. misses r (record { table = n; part = Col k }) i) (union_of all) ≡ true
    → (defs : List TableDef) (raw : RawQuery) → resolve defs raw ≡ Ok r → Each (IsNeeded n (keeps (outside all) k) (rows_at base) r.tables (tuple_true r)) (rows_at base n)
needed_rows r base n k all fit missed defs raw resolved =
    each_map (λ q. Fits (table_at base n) q.values) (IsNeeded n (keeps (outside all) k) (rows_at base) r.tables (tuple_true r)) (row_at (table_at base n)) needed (table_at base n).rows fit
  where
    needed : (q : Row) → Fits (table_at base n) q.values → (t : List RowAt) → row_of r.tables t n ≡ row_at (table_at base n) q → tuple_true r t ≡ true → not (any_has (value_at q.values k) all) ≡ true
    needed q fits t stands holds =
        let column : ColRef = record { table = n; part = Col k } in
        let value : ColRef → Value = column_value r.tables t in
        let is : value column ≡ value_at q.values k = ap (λ (x : RowAt). part_value x (Col k)) stands in
        let single : is_pair (value column) ≡ false = ap is_pair is ∙ plain_value (table_at base n) q.values k fits in
        let edges : list_all (edge_true value) r.edges ≡ true = (and_parts (list_all (edge_true value) r.edges) (conditions_true value r.conditions) holds).0 in
        let conditions : conditions_true value r.conditions ≡ true = (and_parts (list_all (edge_true value) r.edges) (conditions_true value r.conditions) holds).1 in
        let free : any_has (value column) all ≡ false = missed_all r column value (plain_query defs raw r resolved) single edges conditions all missed in
        ap (λ w. not (any_has w all)) (sym is) ∙ ap not free

-- ---- a view at its point and now

module _ (trace : List Event) (v : View) (p : ℕ) (built : v.point ≡ Some p) (k : IsOfText (catalog_of trace) v) where
  abbrev c : Catalog
  c = catalog_of trace

  abbrev tables : List ℕ
  tables = v.def.query.tables

  abbrev with_def : ℕ → ℕ × TableDef
  with_def n = (n, def_at k.tables n)

  defs_are : table_defs v.def ≡ map with_def tables
  defs_are = ap (λ (defs : List TableDef). zip tables defs) k.defined ∙ zip_map (def_at k.tables) tables

  unchanged : (n : ℕ) → moved (known c v (with_def n)) ≡ false → rows_at (base_at c p) n ≡ rows_at (base_now c) n
  unchanged n e = sym (unmoved trace v p (with_def n) built e)

  fresh_same : is_fresh (facts_of c v) ≡ true → tuples v.def.query (base_at c p) ≡ tuples v.def.query (base_now c)
  fresh_same e =
      let none : Each (λ t. moved (known c v t) ≡ false) (table_defs v.def) = none_of moved (known c v) (table_defs v.def) (not-true (list_any moved (map (known c v) (table_defs v.def))) e) in
      let each : Each (λ n. moved (known c v (with_def n)) ≡ false) tables = each_unmap (λ t. moved (known c v t) ≡ false) with_def tables (subst (Each (λ t. moved (known c v t) ≡ false)) defs_are none) in
      ap (λ rows. filter (tuple_true v.def.query) (product rows))
      (map_alike (rows_at (base_at c p)) (rows_at (base_now c)) tables
      (each_weaker (λ n. moved (known c v (with_def n)) ≡ false) (λ n. rows_at (base_at c p) n ≡ rows_at (base_now c) n) unchanged tables each))

  -- the tables but for the tracked one
  others_still : (t : ℕ × TableDef) → tracked v.def ≡ Some t → first_part_restriction (facts_of c v) ≡ None → Each (λ n. (n == t.0) ≡ false → rows_at (base_at c p) n ≡ rows_at (base_now c) n) tables
  others_still t is none =
      let f1 : Option Restriction = check_f1 (facts_of c v) in
      let p1 : Option Restriction = check_p1 v.def in
      let p2 : Option Restriction = check_p2 v.def in
      let p3 : Option Restriction = first_of (check_p3 v.def) (facts_of c v).tables in
      let last : p3 ≡ None = none_first p3 [] (none_rest p2 (p3 ∷ []) (none_rest p1 (p2 ∷ p3 ∷ []) (none_rest f1 (p1 ∷ p2 ∷ p3 ∷ []) none))) in
      let all : Each (λ x. check_p3 v.def x ≡ None) (map (known c v) (table_defs v.def)) = none_each (check_p3 v.def) (facts_of c v).tables last in
      let known_all : Each (λ x. check_p3 v.def (known c v x) ≡ None) (table_defs v.def) = each_unmap (λ x. check_p3 v.def x ≡ None) (known c v) (table_defs v.def) all in
      let each : Each (λ n. check_p3 v.def (known c v (with_def n)) ≡ None) tables =
      each_unmap (λ x. check_p3 v.def (known c v x) ≡ None) with_def tables (subst (Each (λ x. check_p3 v.def (known c v x) ≡ None)) defs_are known_all) in
      each_weaker (λ n. check_p3 v.def (known c v (with_def n)) ≡ None) (λ n. (n == t.0) ≡ false → rows_at (base_at c p) n ≡ rows_at (base_now c) n)
      (λ n passes apart. unchanged n (unmoved_by n (moved (known c v (with_def n))) (none_where (not (is_tracked v.def n) && moved (known c v (with_def n))) (P3 n) passes) apart)) tables each
    where
      unmoved_by : (n : ℕ) (b : Bool) → (not (is_tracked v.def n) && b) ≡ false → (n == t.0) ≡ false → b ≡ false
      unmoved_by n b e apart =
          let not_tracked : is_tracked v.def n ≡ false = ap (λ o. option_case o false (λ t. t.0 == n)) is ∙ differs_turned n t.0 apart in
          sym (ap (λ a. not a && b) not_tracked) ∙ e

  -- the tracked table has its partition key
  tracked_now : (t : ℕ × TableDef) (key : ℕ) → tracked v.def ≡ Some t → t.1.part_key ≡ Some key → (table_at (base_now c) t.0).def.part_key ≡ Some key
  tracked_now t key is keyed =
      let each : Each (λ x. x.1 ≡ def_at k.tables x.0) (table_defs v.def) = subst (Each (λ x. x.1 ≡ def_at k.tables x.0)) (sym defs_are) (each_made (λ x. x.1 ≡ def_at k.tables x.0) with_def (λ n. refl) tables) in
      let def : t.1 ≡ def_at k.tables t.0 = each_found (λ x. x.1 ≡ def_at k.tables x.0) (λ x. is_some x.1.part_key) (table_defs v.def) t each is in
      let then : (def_at k.tables t.0).part_key ≡ Some key = ap (λ (d : TableDef). d.part_key) (sym def) ∙ keyed in
      let low : t.0 < length k.tables = key_within k.tables t.0 key then in
      let many : length (map still k.tables) ≡ length k.tables = length-map k.tables still in
      ap (λ (d : TableDef). d.part_key) (def_of (base_now c) t.0)
      ∙ ap (λ (d : TableDef). d.part_key) (sym (def_still (defs_now c) t.0))
      ∙ ap (λ (defs : List TableDef). (def_at defs t.0).part_key) k.since
      ∙ ap (λ (d : TableDef). d.part_key) (def_earlier (map still k.tables) k.later t.0 (omega (arith, low, many)))
      ∙ ap (λ (d : TableDef). d.part_key) (def_still k.tables t.0)
      ∙ then

  partly_same : (t : ℕ × TableDef) (key : ℕ) → tracked v.def ≡ Some t → t.1.part_key ≡ Some key → first_part_restriction (facts_of c v) ≡ None
      → list_all (λ i. misses v.def.query (record { table = t.0; part = Col key }) i) (union_of (map (λ touch. touch.interval) (touches_of c t.0 p c.scn))) ≡ true
      → tuples v.def.query (base_at c p) ≡ tuples v.def.query (base_now c)
  partly_same t key is keyed none missed =
      let r : StarQuery = v.def.query in
      let n : ℕ = t.0 in
      let all : List Interval = map (λ (touch : Touch). touch.interval) (touches_of c n p c.scn) in
      let keep : RowAt → Bool = keeps (outside all) key in
      let same : IsSame (outside all) n (base_at c p) (base_now c) = trace_outside trace n p (outside all) (avoids_touches trace n p) in
      let fit : AllFit (table_at (base_now c) n) = fit_at (base_now c) n (trace_fits trace) in
      let own : filter keep (rows_at (base_at c p) n) ≡ filter keep (rows_at (base_now c) n) = same_kept (outside all) n key (base_at c p) (base_now c) same (tracked_now t key is keyed) fit in
      let once : Once n tables = once_in k.tables r.root r.tables r.edges n (resolve-is k.tables k.query r k.resolved).0 in
      let lists : map (fewer n keep (rows_at (base_at c p))) tables ≡ map (fewer n keep (rows_at (base_now c))) tables =
      map_alike (fewer n keep (rows_at (base_at c p))) (fewer n keep (rows_at (base_now c))) tables
      (each_weaker (λ m. (m == n) ≡ false → rows_at (base_at c p) m ≡ rows_at (base_now c) m) (λ m. fewer n keep (rows_at (base_at c p)) m ≡ fewer n keep (rows_at (base_now c)) m)
      (λ m h. fewer_same n keep own m h (m == n) refl) tables (others_still t is none)) in
      sym (fewer_tuples n keep (rows_at (base_at c p)) tables (tuple_true r) once (needed_rows r (base_at c p) n key all same.fit missed k.tables k.query k.resolved))
      ∙ ap (λ rows. filter (tuple_true r) (product rows)) lists
      ∙ fewer_tuples n keep (rows_at (base_now c)) tables (tuple_true r) once (needed_rows r (base_now c) n key all fit missed k.tables k.query k.resolved)
    where
      fewer_same : (n : ℕ) (keep : RowAt → Bool) → filter keep (rows_at (base_at c p) n) ≡ filter keep (rows_at (base_now c) n) → (m : ℕ) → ((m == n) ≡ false → rows_at (base_at c p) m ≡ rows_at (base_now c) m)
          → (b : Bool) → (m == n) ≡ b
          → cond b (filter keep (rows_at (base_at c p) m)) (rows_at (base_at c p) m) ≡ cond b (filter keep (rows_at (base_now c) m)) (rows_at (base_now c) m)
      fewer_same n keep own m h true e = subst (λ j. filter keep (rows_at (base_at c p) j) ≡ filter keep (rows_at (base_now c) j)) (sym (eqb-true m n e)) own
      fewer_same n keep own m h false e = h e

-- ---- fresh enough

-- by the state of the view
abbrev enough : Catalog → StarQuery → View → ViewState → Bool
enough c q v Unbuilt = false
enough c q v Fresh = true
enough c q v Partly = selects_key v.def && (option_case (tracked_key v.def) false (λ key. list_all (λ i. misses q key i) (stale_intervals c v)) && leaves_tracked v.def [])
enough c q v Stale = false

module _ (trace : List Event) (q : StarQuery) (v : View) (p : ℕ) (built : v.point ≡ Some p) (k : IsOfText (catalog_of trace) v) (same_query : unordered q ≡ unordered v.def.query) where
  abbrev now : Catalog
  now = catalog_of trace

  abbrev IsCurrent : Type 0
  IsCurrent = tuples v.def.query (base_at now p) ≡ tuples v.def.query (base_now now)

  by_key : (t : ℕ × TableDef) → tracked v.def ≡ Some t → first_part_restriction (facts_of now v) ≡ None → (o : Option ℕ) → t.1.part_key ≡ o
      → option_case (option_map (λ key. record { table = t.0; part = Col key }) o) false (λ key. list_all (λ i. misses q key i) (stale_intervals now v)) ≡ true → IsCurrent
  by_key t is none None keyed e = absurd (true≢false (sym e))
  by_key t is none (Some key) keyed e =
      let column : ColRef = record { table = t.0; part = Col key } in
      let stale : stale_intervals now v ≡ union_of (map (λ touch. touch.interval) (touches_after now v t.0)) =
      ap (λ o. option_case o [] (λ t. union_of (map (λ (touch : Touch). touch.interval) (touches_after now v t.0)))) is in
      let point : touches_after now v t.0 ≡ touches_of now t.0 p now.scn = ap (λ o. touches_of now t.0 (unwrap_or o 0) now.scn) built in
      let first : list_all (λ i. misses v.def.query column i) (stale_intervals now v) ≡ true =
      sym (ap (λ (x : StarQuery). list_all (λ i. misses x column i) (stale_intervals now v)) same_query) ∙ e in
      partly_same trace v p built k t key is keyed none
      (subst (λ (ts : List Touch). list_all (λ i. misses v.def.query column i) (union_of (map (λ touch. touch.interval) ts)) ≡ true) point
      (subst (λ (is : List Interval). list_all (λ i. misses v.def.query column i) is ≡ true) stale first))

  by_tracked : first_part_restriction (facts_of now v) ≡ None → (o : Option (ℕ × TableDef)) → tracked v.def ≡ o
      → option_case (option_and_then (λ t. option_map (λ key. record { table = t.0; part = Col key }) t.1.part_key) o) false (λ key. list_all (λ i. misses q key i) (stale_intervals now v)) ≡ true → IsCurrent
  by_tracked none None is e = absurd (true≢false (sym e))
  by_tracked none (Some t) is e = by_key t is none t.1.part_key refl e

  by_state : (a b d : Bool) → is_none v.point ≡ a → is_fresh (facts_of now v) ≡ b → is_none (first_part_restriction (facts_of now v)) ≡ d
      → enough now q v (cond a Unbuilt (cond b Fresh (cond d Partly Stale))) ≡ true → IsCurrent
  by_state true b d unbuilt fresh none e = absurd (true≢false (sym e))
  by_state false true d unbuilt fresh none e = fresh_same trace v p built k fresh
  by_state false false true unbuilt fresh none e =
      by_tracked (was_none (first_part_restriction (facts_of now v)) none) (tracked v.def) refl
      (and_parts (option_case (tracked_key v.def) false (λ key. list_all (λ i. misses q key i) (stale_intervals now v))) (leaves_tracked v.def [])
      (and_parts (selects_key v.def) (option_case (tracked_key v.def) false (λ key. list_all (λ i. misses q key i) (stale_intervals now v)) && leaves_tracked v.def []) e).1).0
    where
      was_none : (o : Option Restriction) → is_none o ≡ true → o ≡ None
      was_none None h = refl
      was_none (Some x) h = absurd (true≢false (sym h))
  by_state false false false unbuilt fresh none e = absurd (true≢false (sym e))

  current : is_fresh_enough now q [] v ≡ true → IsCurrent
  current e = by_state (is_none v.point) (is_fresh (facts_of now v)) (is_none (first_part_restriction (facts_of now v))) refl refl refl e

-- ---- the law

-- the laws of text match that it stands on
pub record TextLaws : Type 0 where
  pub later : LaterTables
  pub parts : (s t : List Token) (a b : RawQuery) → match_text s t ≡ FullText → whole select s ≡ Some a → whole select t ≡ Some b → without_order a ≡ without_order b
  pub stars : (defs : List TableDef) (a b : RawQuery) (q r : StarQuery) → without_order a ≡ without_order b → resolve defs a ≡ Ok q → resolve defs b ≡ Ok r → unordered q ≡ unordered r
  pub rows : (q r : StarQuery) (base : Base) → unordered q ≡ unordered r → meaning q base ≡ in_order q.order (map (λ e. e.row) (stored r base))

is_built : (o : Option ℕ) → is_some o ≡ true → (p : ℕ) × (o ≡ Some p)
is_built None e = absurd (true≢false (sym e))
is_built (Some p) e = (p, refl)

-- a query without AS OF asks about now
asks_now : (c : Catalog) (q : StarQuery) → is_none q.as_of ≡ true → base_then c q ≡ base_now c
asks_now c q e = by q.as_of e
  where
    by : (o : Option ℤ) → is_none o ≡ true → base_at c (option_case o c.scn nat_abs) ≡ base_now c
    by None f = refl
    by (Some n) f = absurd (true≢false (sym f))

serves : TextLaws → (trace : List Event) (text : List Token) (raw : RawQuery) (q : StarQuery) (enabled : Bool) (p : ViewPlan) → AreRead trace → whole select text ≡ Some raw
    → resolve (defs_now (catalog_of trace)) raw ≡ Ok q → choice class_is_built (catalog_of trace) q text Enforced enabled ≡ plan.View p → Serves (catalog_of trace) q p
serves laws trace text raw q enabled p read reads resolved chooses =
    let c : Catalog = catalog_of trace in
    let x : IsChosen c q text p = chosen c q text enabled p (trace_ordered trace).ascending chooses in
    let v : View = x.view in
    let k : IsOfText c v = each_found (OverTables c) (λ w. w.def.view == p.view) c.views v (each_text trace read) x.found x.meets.over in
    let r : StarQuery = v.def.query in
    let parts : without_order raw ≡ without_order k.query = laws.parts text v.def.tokens raw k.query x.meets.full reads k.reads in
    let same : unordered q ≡ unordered r = laws.stars (defs_now c) raw k.query q r parts resolved (resolved_now laws.later c v k) in
    let built = is_built v.point x.meets.built in
    let stands : stored r (base_at c built.0) ≡ stored r (base_now c) =
    stored_same r (base_at c built.0) (base_now c) (current trace q v built.0 built.1 k same x.meets.fresh) in
    let content_is : content c v ≡ stored r (base_at c built.0) = ap (λ o. option_case o [] (λ p. stored r (base_at c p))) built.1 in
    record {
      view = v;
      found = x.found;
      rows = ap (meaning q) (asks_now c q x.meets.now)
          ∙ laws.rows q r (base_now c) same
          ∙ ap (λ (es : List ViewEntry). in_order q.order (map (λ e. e.row) es)) (sym (content_is ∙ stands));
      alone = x.meets.alone;
    }

pub answers : TextLaws → Answers
answers laws = record { chosen = serves laws }
