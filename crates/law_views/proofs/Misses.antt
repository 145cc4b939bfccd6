-- A key of a tuple of a query stands in no interval that the query misses.
use Rattle.std.proofs.Common.{◌≡◌, ◌∙◌, sym, ap, refl, subst, arith, ℕ, zero, suc, Bool, true, false, true≢false, not, List, [], ◌∷◌, ◌++◌, length, map, Option, None, Some, ◌&&◌, ◌||◌}
use Rattle.law_lists.proofs.Options.{unless_is}
use Rattle.wh_star.proofs.Plain.{conditions_plain}
use Rattle.std.proofs.lemmas.Bool.{and_parts, not-false}
use Rattle.std.specs.List.{list_all}
use Rattle.std.specs.Prelude.{Ok, Result, zip}
use Rattle.wh_base.specs.Lists.{first_of, first_some, or_refuse, unless, unless_then, where_true, ◌>>=◌}
use Rattle.wh_base.specs.Tables.{Table, value_at}
use Rattle.wh_base.specs.Values.{interval_has}
use Rattle.wh_base.specs.declared.columns.ColRef.{ColRef}
use Rattle.wh_base.specs.declared.queries.ColName.{ColName}
use Rattle.wh_base.specs.declared.queries.RawCondition.TheVariants as raw
use Rattle.wh_base.specs.declared.queries.RawQuery.{RawQuery}
use Rattle.wh_base.specs.declared.queries.StarQuery.{StarQuery}
use Rattle.wh_base.specs.declared.replies.Refusal.{Refusal}
use Rattle.wh_base.specs.declared.replies.Refusal.TheVariants.{NotGrouped, NotStar, ValueDoesNotFit}
use Rattle.wh_base.specs.declared.tables.ColumnDef.{ColumnDef}
use Rattle.wh_base.specs.declared.tables.Kind.{Kind}
use Rattle.wh_base.specs.declared.tables.Kind.TheVariants as kind
use Rattle.wh_base.specs.declared.tables.TableDef.{TableDef}
use Rattle.wh_base.specs.declared.values.Interval.{Interval}
use Rattle.wh_base.specs.declared.values.Literal.TheVariants.{Number}
use Rattle.wh_base.specs.declared.values.Value.{Value}
use Rattle.wh_base.specs.declared.values.Value.TheVariants.{Day, Null, Num, Ratio, Text}
use Rattle.def_effect.specs.Block.{column_refusal, fits_kind}
use Rattle.def_meaning.specs.Joined.{conditions_true, edge_true}
use Rattle.def_meaning.specs.Ranges.{equal_columns, misses, query_range}
use Rattle.def_resolve.specs.Names.{Source, column_named, names_refusal, sources_of, table_refusal}
use Rattle.def_resolve.specs.Resolve.{first_table, grouping_holds, joins_of, kinds_refusal, resolve, resolved_item, star_form, star_query}
use Rattle.def_resolve.specs.Star.{Tree, star_of}
use Rattle.def_restrictions.proofs.Union.{any_has, union-has}
use Rattle.def_restrictions.specs.Intervals.{union_of}
use Rattle.wh_star.proofs.Spread.{equal-have}
use Rattle.wh_star.proofs.Within.{never-misses, ranges-within}
use Rattle.wh_star.specs.Marked.{is_pair, without_pairs}
use Rattle.law_trace.proofs.Basing.{none_first, none_rest, none_where}
use Rattle.law_trace.specs.Rows.{Fits}

-- ---- no condition of a star form compares with a pair

all_both : {A : Type 0} (p : A → Bool) (xs ys : List A) → list_all p xs ≡ true → list_all p ys ≡ true → list_all p (xs ++ ys) ≡ true
all_both p [] ys h k = k
all_both p (x ∷ xs) ys h k = by (p x) h (all_both p xs ys)
  where
    by : (b : Bool) → (b && list_all p xs) ≡ true → (list_all p xs ≡ true → list_all p ys ≡ true → list_all p (xs ++ ys) ≡ true) → (b && list_all p (xs ++ ys)) ≡ true
    by true e rest = rest e k
    by false e rest = absurd (true≢false (sym e))

not_refused : {A E : Type 0} (o : Option E) (r : Result A E) (x : A) → unless_then o r ≡ Ok x → r ≡ Ok x
not_refused None r x h = h
not_refused (Some e) r x h = absurd (cc)

at_tree : (P : StarQuery → Type 0) (o : Option Tree) (f : Tree → Option Refusal) (g : Tree → StarQuery) (x : StarQuery) → ((tree : Tree) → P (g tree))
    → (or_refuse o NotStar >>= (λ tree. unless (f tree) (g tree))) ≡ Ok x → P x
at_tree P None f g x k h = absurd (cc)
at_tree P (Some tree) f g x k h = subst P (unless_is (f tree) (g tree) x h) (k tree)

pub plain_query : (defs : List TableDef) (a : RawQuery) (q : StarQuery) → resolve defs a ≡ Ok q → list_all without_pairs q.conditions ≡ true
plain_query defs a q h =
    let sources : List Source = sources_of defs a in
    let column : (ColName → ColRef) = column_named sources in
    let items = map (λ i. resolved_item column i.what) a.items in
    let refusals : Option Refusal = first_some (table_refusal defs a ∷ names_refusal sources a ∷ kinds_refusal defs (first_table sources) column a ∷ []) in
    at_tree (λ q. list_all without_pairs q.conditions ≡ true) (star_of defs (joins_of column a) (map (λ s. s.table) sources))
    (λ tree. where_true (not (grouping_holds a column items (map column a.groups))) NotGrouped) (star_query a column) q
    (λ tree. conditions_plain column a.conditions) (not_refused refusals (star_form defs a sources) q h)

-- ---- no value of a row is a pair

fits_plain : (k : Kind) (v : Value) → fits_kind k v ≡ true → is_pair v ≡ false
fits_plain k (Num n) e = refl
fits_plain k (Text t) e = refl
fits_plain k Null e = refl
fits_plain k (Day n) e = refl
fits_plain (kind.Number p) (Ratio a) e = absurd (true≢false (sym e))
fits_plain (kind.Text n) (Ratio a) e = absurd (true≢false (sym e))
fits_plain kind.Date (Ratio a) e = absurd (true≢false (sym e))

-- the value at a place of a row that fits its columns
plain_at : (d : TableDef) (columns : List ColumnDef) (vs : List Value) (k : ℕ) → length vs ≡ length columns → first_of (column_refusal d) (zip columns vs) ≡ None → is_pair (value_at vs k) ≡ false
plain_at d columns [] k wide none = refl
plain_at d [] (v ∷ vs) k wide none = absurd (omega arith)
plain_at d (c ∷ columns) (v ∷ vs) zero wide none =
    let size : Option Refusal = where_true (not (fits_kind c.kind v)) (ValueDoesNotFit d.name c.name) in
    fits_plain c.kind v (not-false (fits_kind c.kind v) (none_where (not (fits_kind c.kind v)) (ValueDoesNotFit d.name c.name) (none_first size _ (none_first (column_refusal d (c, v)) _ none))))
plain_at d (c ∷ columns) (v ∷ vs) (suc k) wide none = plain_at d columns vs k (omega arith) (none_rest (column_refusal d (c, v)) (map (column_refusal d) (zip columns vs)) none)

pub plain_value : (t : Table) (vs : List Value) (k : ℕ) → Fits t vs → is_pair (value_at vs k) ≡ false
plain_value t vs k fit = plain_at t.def t.def.columns vs k fit.width fit.columns

-- ---- intervals that the query misses

module _ (q : StarQuery) (column : ColRef) (value : ColRef → Value) (plain : list_all without_pairs q.conditions ≡ true) (single : is_pair (value column) ≡ false) (edges : list_all (edge_true value) q.edges ≡ true) (conditions : conditions_true value q.conditions ≡ true) where
  missed_one : (i : Interval) → misses q column i ≡ true → interval_has i (value column) ≡ false
  missed_one i missed = by (interval_has i (value column)) refl
    where
      by : (b : Bool) → interval_has i (value column) ≡ b → b ≡ false
      by false e = refl
      by true e =
          absurd (true≢false (sym missed ∙ never-misses (value column) (query_range q column) i
          (ranges-within value (value column) (equal_columns q.edges column) (equal-have value q.edges column edges) single q.conditions plain conditions) e))

  missed_each : (is : List Interval) → list_all (λ i. misses q column i) is ≡ true → any_has (value column) is ≡ false
  missed_each [] h = refl
  missed_each (i ∷ is) h =
      ap (λ b. b || any_has (value column) is) (missed_one i (and_parts (misses q column i) (list_all (λ i. misses q column i) is) h).0)
      ∙ missed_each is (and_parts (misses q column i) (list_all (λ i. misses q column i) is) h).1

  -- where the query misses their union the key is in none of them
  pub missed_all : (is : List Interval) → list_all (λ i. misses q column i) (union_of is) ≡ true → any_has (value column) is ≡ false
  missed_all is h = sym (union-has (value column) is) ∙ missed_each (union_of is) h
