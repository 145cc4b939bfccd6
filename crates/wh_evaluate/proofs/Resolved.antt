-- What is so of each star form that `resolve` gives: its numbers are small, no condition compares with a pair, and its tables are
-- there.
use Rattle.std.proofs.Common.{◌≡◌, ◌∙◌, sym, ap, subst, refl, arith, ℕ, zero, suc, Bool, true, false, cond, not, List, [], ◌∷◌, ◌++◌, ◌<◌, ◌+◌, Option, Some, None, length, map}
use Rattle.std.proofs.lemmas.Bool.{and_from, and_parts}
use Rattle.std.proofs.lemmas.Bool.Decides.{nat_tests}
use Rattle.std.proofs.lemmas.List.Elements.{All-cons, All-head, All-tail}
use Rattle.std.proofs.lemmas.List.Quantifiers.{position-Some}
use Rattle.std.proofs.lemmas.Option.{slice_get_within}
use Rattle.std.specs.List.{All, cons_option, filter_map, flat_map, list_all}
use Rattle.std.specs.Prelude.{◌&&◌, ◌||◌, ◌==◌, Ok, Result, nat_abs, nat_le, nat_lt, option_map, slice_get, unwrap_or}
use Rattle.wh_base.specs.Lists.{first_of, first_some, has_number, head, option_case, or_refuse, same_text, unless, unless_then, where_true, ◌>>=◌}
use Rattle.wh_base.specs.Tables.{def_at, empty_def, table_number}
use Rattle.wh_base.specs.Values.{literal_value, number_limit}
use Rattle.wh_base.specs.declared.columns.Agg.{Agg}
use Rattle.wh_base.specs.declared.columns.Agg.TheVariants.{Avg, Count, CountAll, Max, Min, Sum}
use Rattle.wh_base.specs.declared.columns.ColPart.{ColPart}
use Rattle.wh_base.specs.declared.columns.ColPart.TheVariants.{Col, Mark, RowId}
use Rattle.wh_base.specs.declared.columns.ColRef.{ColRef}
use Rattle.wh_base.specs.declared.columns.Expr.{Expr}
use Rattle.wh_base.specs.declared.columns.Expr.TheVariants as expr
use Rattle.wh_base.specs.declared.queries.ColName.{ColName}
use Rattle.wh_base.specs.declared.queries.Edge.{Edge}
use Rattle.wh_base.specs.declared.queries.Item.{Item}
use Rattle.wh_base.specs.declared.queries.RawCondition.{RawCondition}
use Rattle.wh_base.specs.declared.queries.RawCondition.TheVariants as raw
use Rattle.wh_base.specs.declared.queries.RawItem.{RawItem}
use Rattle.wh_base.specs.declared.queries.RawQuery.{RawQuery}
use Rattle.wh_base.specs.declared.queries.RawTable.{RawTable}
use Rattle.wh_base.specs.declared.queries.RawTest.{RawTest}
use Rattle.wh_base.specs.declared.queries.RawWhat.{RawWhat}
use Rattle.wh_base.specs.declared.queries.RawWhat.TheVariants as what
use Rattle.wh_base.specs.declared.queries.StarQuery.{StarQuery}
use Rattle.wh_base.specs.declared.replies.Refusal.{Refusal}
use Rattle.wh_base.specs.declared.replies.Refusal.TheVariants.{NotGrouped, NotStar}
use Rattle.wh_base.specs.declared.tables.TableDef.{TableDef}
use Rattle.wh_base.specs.declared.values.Literal.{Literal}
use Rattle.wh_base.specs.declared.values.Literal.TheVariants.{Dated, Number, Quoted}
use Rattle.def_meaning.specs.Accumulated.{item_aggs}
use Rattle.def_resolve.specs.Kinds.{agg_refusal, condition_refusal, equal_refusal, is_too_long, misfit_literal, product_refusal, sum_refusal, test_refusal}
use Rattle.def_resolve.specs.Names.{Source, column_named, names_refusal, source_of, sources_of, table_refusal}
use Rattle.def_resolve.specs.Resolve.{first_table, grouping_holds, join_of_table, joins_of, kinds_refusal, resolve, resolved_agg, resolved_condition, resolved_item, resolved_test, star_form, star_query, what_refusal}
use Rattle.def_resolve.specs.Star.{Tree, grow, is_key_column, is_repeated_number, leads_outwards, next_branch, spanning, star_of, tree_from, with_branch}
use Rattle.wh_evaluate.proofs.Filters.{all-append}
use Rattle.wh_group.specs.Tallies.{HasSmallAggs, is_small_agg}
use Rattle.wh_star.specs.Marked.{is_pair, no_pairs, without_pairs}
use Rattle.wh_tuple.specs.Meant.{is_small_expr}

-- ---- refusals that don't come

none_first : {A : Type 0} (o : Option A) (rest : List (Option A)) → first_some (o ∷ rest) ≡ None → (o ≡ None) × (first_some rest ≡ None)
none_first None rest h = (refl, h)
none_first (Some x) rest h = cc

not_refused : {A E : Type 0} (o : Option E) (r : Result A E) (x : A) → unless_then o r ≡ Ok x → (o ≡ None) × (r ≡ Ok x)
not_refused None r x h = (refl, h)
not_refused (Some e) r x h = cc

found_some : {A B E : Type 0} (o : Option A) (e : E) (f : A → Result B E) (y : B) → (or_refuse o e >>= f) ≡ Ok y → (x : A) × ((o ≡ Some x) × (f x ≡ Ok y))
found_some (Some x) e f y h = (x, (refl, h))
found_some None e f y h = cc

was_kept : {A E : Type 0} (b : Bool) (e : E) (x y : A) → unless (where_true (not b) e) x ≡ Ok y → x ≡ y
was_kept true e x y h = cc
was_kept false e x y h = cc

-- ---- small numbers

is_short : (limit n : ℕ) (b : Bool) {A : Type 0} (x : A) → nat_le limit n ≡ b → where_true b x ≡ None → nat_lt n limit ≡ true
is_short limit n true x e h = cc
is_short limit n false x e h = grind (arith, nat_tests)

small_expr : (defs : List TableDef) (first : ℕ) (e : Expr) → product_refusal defs first e ≡ None → is_small_expr e ≡ true
small_expr defs first (expr.Col c) h = refl
small_expr defs first (expr.Product a b) h = refl
small_expr defs first (expr.Lit n) h = is_short number_limit (nat_abs n) (is_too_long (Number n)) (misfit_literal defs first) refl h

small_sum : (defs : List TableDef) (first : ℕ) (e : Expr) → sum_refusal defs first e ≡ None → is_small_expr e ≡ true
small_sum defs first (expr.Col c) h = refl
small_sum defs first (expr.Product a b) h = refl
small_sum defs first (expr.Lit n) h = small_expr defs first (expr.Lit n) h

small_agg : (defs : List TableDef) (first : ℕ) (a : Agg) → agg_refusal defs first a ≡ None → is_small_agg a ≡ true
small_agg defs first CountAll h = refl
small_agg defs first (Count e) h = small_expr defs first e h
small_agg defs first (Sum e) h = small_sum defs first e h
small_agg defs first (Avg e) h = small_sum defs first e h
small_agg defs first (Min e) h = small_expr defs first e h
small_agg defs first (Max e) h = small_expr defs first e h

module _ (defs : List TableDef) (first : ℕ) (column : ColName → ColRef) where
  small_item : (w : RawWhat) (aggs : List Agg) → what_refusal defs first column w ≡ None → list_all is_small_agg aggs ≡ true → list_all is_small_agg (item_aggs (resolved_item column w) ++ aggs) ≡ true
  small_item (what.Plain c) aggs h k = k
  small_item (what.Computed a) aggs h k = and_from (is_small_agg (resolved_agg column a)) (list_all is_small_agg aggs) (small_agg defs first (resolved_agg column a) h) k

  small_items :
      (items : List RawItem) → first_of (λ i. what_refusal defs first column i.what) items ≡ None
      → list_all is_small_agg (flat_map item_aggs (map (λ i. resolved_item column i.what) items)) ≡ true
  small_items [] h = refl
  small_items (i ∷ items) h =
      let parts = none_first (what_refusal defs first column i.what) (map (λ j. what_refusal defs first column j.what) items) h in
      small_item i.what (flat_map item_aggs (map (λ j. resolved_item column j.what) items)) parts.0 (small_items items parts.1)

  small_tests :
      (tests : List RawTest) → first_of (λ t. test_refusal defs first (resolved_agg column t.agg) t.literal) tests ≡ None
      → list_all is_small_agg (map (λ t. t.agg) (map (resolved_test column) tests)) ≡ true
  small_tests [] h = refl
  small_tests (t ∷ tests) h =
      let parts = none_first (test_refusal defs first (resolved_agg column t.agg) t.literal) (map (λ u. test_refusal defs first (resolved_agg column u.agg) u.literal) tests) h in
      let agg : agg_refusal defs first (resolved_agg column t.agg) ≡ None = (none_first (agg_refusal defs first (resolved_agg column t.agg)) _ parts.0).0 in
      and_from (is_small_agg (resolved_agg column t.agg)) (list_all is_small_agg (map (λ u. u.agg) (map (resolved_test column) tests)))
      (small_agg defs first (resolved_agg column t.agg) agg) (small_tests tests parts.1)

-- ---- no pairs

no_literal_pair : (l : Literal) → not (is_pair (literal_value l)) ≡ true
no_literal_pair (Number n) = refl
no_literal_pair (Quoted []) = refl
no_literal_pair (Quoted (b ∷ bs)) = refl
no_literal_pair (Dated n) = refl

no_literal_pairs : (ls : List Literal) → no_pairs (map literal_value ls) ≡ true
no_literal_pairs [] = refl
no_literal_pairs (l ∷ ls) = and_from (not (is_pair (literal_value l))) (no_pairs (map literal_value ls)) (no_literal_pair l) (no_literal_pairs ls)

plain_condition : (column : ColName → ColRef) (c : RawCondition) → list_all without_pairs (resolved_condition column c) ≡ true
plain_condition column (raw.Compare c op l) = and_from (not (is_pair (literal_value l))) true (no_literal_pair l) refl
plain_condition column (raw.Between c l m) =
    and_from (not (is_pair (literal_value l))) (not (is_pair (literal_value m)) && true) (no_literal_pair l)
    (and_from (not (is_pair (literal_value m))) true (no_literal_pair m) refl)
plain_condition column (raw.Equal a b) = refl
plain_condition column (raw.OneOf c ls) = and_from (no_pairs (map literal_value ls)) true (no_literal_pairs ls) refl
plain_condition column (raw.IsNull c) = refl
plain_condition column (raw.NotNull c) = refl

plain_conditions : (column : ColName → ColRef) (cs : List RawCondition) → list_all without_pairs (flat_map (resolved_condition column) cs) ≡ true
plain_conditions column [] = refl
plain_conditions column (c ∷ cs) = all-append without_pairs (resolved_condition column c) (flat_map (resolved_condition column) cs) (plain_condition column c) (plain_conditions column cs)

-- ---- tables that are there

-- a table of FROM that is there stands among the definitions
source_there : (defs : List TableDef) (t : RawTable) (s : Source) → source_of defs t ≡ Some s → s.table < length defs
source_there defs t s h = by (table_number defs t.table) refl h
  where
    source : ℕ → Source
    source n = record { label = unwrap_or t.alias t.table; table = n; def = def_at defs n }

    by : (o : Option ℕ) → table_number defs t.table ≡ o → option_map (λ n. record { label = unwrap_or t.alias t.table; table = n; def = def_at defs n }) o ≡ Some s → s.table < length defs
    by None e g = cc
    by (Some n) e g =
        let same : n ≡ s.table = ap (λ o. option_case o n (λ (r : Source). r.table)) g in
        subst (λ m. m < length defs) same (position-Some (λ d. same_text d.name t.table) defs n empty_def e).0

sources_there : (defs : List TableDef) (ts : List RawTable) → All (λ n. n < length defs) (map (λ s. s.table) (filter_map (source_of defs) ts))
sources_there defs [] = λ k d h. absurd (omega arith)
sources_there defs (t ∷ ts) = by (source_of defs t) refl (sources_there defs ts)
  where
    by : (o : Option Source) → source_of defs t ≡ o → All (λ n. n < length defs) (map (λ s. s.table) (filter_map (source_of defs) ts)) → All (λ n. n < length defs) (map (λ s. s.table) (cons_option o (filter_map (source_of defs) ts)))
    by None e rest = rest
    by (Some s) e rest = All-cons (λ n. n < length defs) s.table (map (λ s. s.table) (filter_map (source_of defs) ts)) (source_there defs t s e) rest

-- the first table of a tree stays as it grows
grow_first : (n : ℕ) (defs : List TableDef) (joins : List Edge) (from : List ℕ) (tree : Tree) (root : ℕ) → head tree.tables ≡ Some root → head (grow n defs joins from tree).tables ≡ Some root
grow_first zero defs joins from tree root h = h
grow_first (suc n) defs joins from tree root h = grow_first n defs joins from (with_branch tree (next_branch defs joins from tree)) root (stays tree.tables h (next_branch defs joins from tree))
  where
    longer : (ts : List ℕ) (m : ℕ) → head ts ≡ Some root → head (ts ++ m ∷ []) ≡ Some root
    longer [] m h = cc
    longer (t ∷ ts) m h = h

    stays : (ts : List ℕ) → head ts ≡ Some root → (o : Option Edge) → head (with_branch (record { tables = ts; edges = tree.edges }) o).tables ≡ Some root
    stays ts k None = k
    stays ts k (Some e) = longer ts e.to.table k

-- the tree of a query begins with a table of FROM
star_first : (P : ℕ → Type 0) (defs : List TableDef) (joins : List Edge) (from tried : List ℕ) (tree : Tree) → All P tried → first_of (spanning defs joins from) tried ≡ Some tree → P (unwrap_or (head tree.tables) 0)
star_first P defs joins from [] tree all h = cc
star_first P defs joins from (n ∷ ns) tree all h =
    by (length (tree_from defs joins from n).tables == length from) h (star_first P defs joins from ns tree (All-tail P n ns all))
  where
    by : (b : Bool) → first_some (where_true b (tree_from defs joins from n) ∷ map (spanning defs joins from) ns) ≡ Some tree
        → (first_of (spanning defs joins from) ns ≡ Some tree → P (unwrap_or (head tree.tables) 0)) → P (unwrap_or (head tree.tables) 0)
    by true g rest =
        let same : tree_from defs joins from n ≡ tree = cc in
        let first : head (tree_from defs joins from n).tables ≡ Some n = grow_first (length from) defs joins from (record { tables = n ∷ []; edges = [] }) n refl in
        subst P (sym (ap (λ t. unwrap_or (head t.tables) 0) (sym same) ∙ ap (λ o. unwrap_or o 0) first)) (All-head P n ns all)
    by false g rest = rest g

star_root : (P : ℕ → Type 0) (defs : List TableDef) (joins : List Edge) (from : List ℕ) (tree : Tree) → All P from → star_of defs joins from ≡ Some tree → P (unwrap_or (head tree.tables) 0)
star_root P defs joins from tree all h = by (is_repeated_number from || not (length joins + 1 == length from)) h
  where
    by : (b : Bool) → cond b None (first_of (spanning defs joins from) from) ≡ Some tree → P (unwrap_or (head tree.tables) 0)
    by true g = cc
    by false g = star_first P defs joins from from tree all g

-- a key is a column of a table that is there
pub key-there : (defs : List TableDef) (c : ColRef) → is_key_column defs c ≡ true → c.table < length defs
key-there defs c h = by c.part (slice_get defs c.table) refl h
  where
    by : (part : ColPart) (o : Option TableDef) → slice_get defs c.table ≡ o → is_key_column defs (record { table = c.table; part = part }) ≡ true → c.table < length defs
    by part (Some d) e g = slice_get_within defs c.table d e
    by (Col n) None e g =
        let none : has_number (unwrap_or (slice_get defs c.table) empty_def).keys n ≡ false = ap (λ o. has_number (unwrap_or o empty_def).keys n) e in
        cc
    by RowId None e g = cc
    by Mark None e g = cc

-- each join leads to a key
pub far-keys : (defs : List TableDef) (listed : List ℕ) (es : List Edge) → leads_outwards defs listed es ≡ true → All (λ e. is_key_column defs e.to ≡ true) es
far-keys defs listed [] h = λ k d l. absurd (omega arith)
far-keys defs listed (e ∷ es) h =
    let parts = and_parts (has_number listed e.from.table && (not (has_number listed e.to.table) && is_key_column defs e.to)) (leads_outwards defs (listed ++ e.to.table ∷ []) es) h in
    let leads = and_parts (has_number listed e.from.table) (not (has_number listed e.to.table) && is_key_column defs e.to) parts.0 in
    let key = and_parts (not (has_number listed e.to.table)) (is_key_column defs e.to) leads.1 in
    All-cons (λ d. is_key_column defs d.to ≡ true) e es key.1 (far-keys defs (listed ++ e.to.table ∷ []) es parts.1)

-- ---- star forms

-- what is so of a star form beside its tree
pub record IsPlain (defs : List TableDef) (q : StarQuery) : Type 0 where
  pub aggs : HasSmallAggs q
  pub conditions : list_all without_pairs q.conditions ≡ true
  pub root : q.root < length defs

pub resolve-plain : (defs : List TableDef) (query : RawQuery) (q : StarQuery) → resolve defs query ≡ Ok q → IsPlain defs q
resolve-plain defs query q h =
    let sources : List Source = sources_of defs query in
    let column : (ColName → ColRef) = column_named sources in
    let first : ℕ = first_table sources in
    let items : List Item = map (λ i. resolved_item column i.what) query.items in
    let keys : List ColRef = map column query.groups in
    let from : List ℕ = map (λ s. s.table) sources in
    let tables : Option Refusal = table_refusal defs query in
    let names : Option Refusal = names_refusal sources query in
    let kinds : Option Refusal = kinds_refusal defs first column query in
    let parts = not_refused (first_some (tables ∷ names ∷ kinds ∷ [])) (star_form defs query sources) q h in
    let later = none_first tables (names ∷ kinds ∷ []) parts.0 in
    let last = none_first names (kinds ∷ []) later.1 in
    let right : kinds ≡ None = (none_first kinds [] last.1).0 in
    let found = found_some (star_of defs (joins_of column query) from) NotStar
    (λ tree. unless (where_true (not (grouping_holds query column items keys)) NotGrouped) (star_query query column tree)) q parts.1 in
    let tree : Tree = found.0 in
    let same : star_query query column tree ≡ q = was_kept (grouping_holds query column items keys) NotGrouped (star_query query column tree) q found.1.1 in
    let root : (star_query query column tree).root < length defs =
    star_root (λ n. n < length defs) defs (joins_of column query) from tree (sources_there defs query.tables) found.1.0 in
    subst (IsPlain defs) same (record {
      aggs = query_small defs first column query tree right;
      conditions = plain_conditions column query.conditions;
      root = root;
    })
  where
    query_small : (defs : List TableDef) (first : ℕ) (column : ColName → ColRef) (query : RawQuery) (tree : Tree) → kinds_refusal defs first column query ≡ None → HasSmallAggs (star_query query column tree)
    query_small defs first column query tree right =
        let whats = none_first (first_of (λ i. what_refusal defs first column i.what) query.items) _ right in
        let ons = none_first (first_of (λ e. equal_refusal defs e.from e.to) (flat_map (join_of_table column) query.tables)) _ whats.1 in
        let wheres = none_first (first_of (condition_refusal defs column) query.conditions) _ ons.1 in
        let tests = none_first (first_of (λ t. test_refusal defs first (resolved_agg column t.agg) t.literal) query.having) _ wheres.1 in
        all-append is_small_agg (flat_map item_aggs (map (λ i. resolved_item column i.what) query.items)) (map (λ t. t.agg) (map (resolved_test column) query.having))
        (small_items defs first column query.items whats.0) (small_tests defs first column query.having tests.0)
