-- What every base state keeps of its rows gives what the law of plans asks of them.
use Rattle.std.proofs.Common.{◌≡◌, ◌∙◌, sym, ap, subst, refl, arith, ℕ, zero, suc, ◌≤◌, Bool, true, false, cond, not, List, [], ◌∷◌, map, length, Some, None}
use Rattle.std.specs.Prelude.{◌&&◌, ◌||◌, filter, slice_get, zip}
use Rattle.std.specs.List.{list_any}
use Rattle.std.proofs.lemmas.Bool.{not-false, and_parts}
use Rattle.std.proofs.Math.Bool.{or-true, or-false}
use Rattle.wh_base.specs.Lists.{first_of, has_number, option_case, repeated, repeated_after, where_true}
use Rattle.wh_base.specs.Tables.{Base, Row, Table, def_at, defs_of, empty_table, never_null, never_null_part, row_at, table_at, value_at}
use Rattle.wh_base.specs.Values.{equal_not_null, is_null, same_value}
use Rattle.wh_base.proofs.Same.{same_value-Decides}
use Rattle.wh_base.specs.declared.columns.ColPart.{ColPart}
use Rattle.wh_base.specs.declared.columns.ColPart.TheVariants.{Col, Mark, RowId}
use Rattle.wh_base.specs.declared.columns.ColRef.{ColRef}
use Rattle.wh_base.specs.declared.replies.Refusal.TheVariants.{NullNotAllowed, ValueDoesNotFit}
use Rattle.wh_base.specs.declared.tables.ColumnDef.{ColumnDef}
use Rattle.wh_base.specs.declared.tables.ForeignDef.{ForeignDef}
use Rattle.wh_base.specs.declared.tables.Kind.{Kind}
use Rattle.wh_base.specs.declared.tables.Kind.TheVariants as kind
use Rattle.wh_base.specs.declared.tables.TableDef.{TableDef}
use Rattle.wh_base.specs.declared.values.Value.{Value}
use Rattle.wh_base.specs.declared.values.Value.TheVariants.{Day, Null, Num, Ratio, Text}
use Rattle.def_effect.specs.Block.{column_refusal, column_values, fits_kind, is_orphaned}
use Rattle.def_meaning.specs.Joined.{part_value, rows_at}
use Rattle.def_meaning.specs.Meaning.{not_null}
use Rattle.def_resolve.specs.Star.{is_key_column}
use Rattle.law_lists.proofs.Each.{Each-both, Each-from_none, Each-map, Each-of_map, Each-unfilter}
use Rattle.law_lists.proofs.Options.{none_where, none_first}
use Rattle.law_lists.proofs.Numbers.{number_among}
use Rattle.law_lists.proofs.Tables.{base_def}
use Rattle.law_rewrite.specs.Words.{Each}
use Rattle.law_rewrite.specs.Kept.{TableKept}
use Rattle.law_rewrite.specs.Fine.{HasParent, RowsFine, with_value}
use Rattle.law_rewrite.proofs.Implying.{is_plain}

-- ---- a row

fits_plain : (k : Kind) (v : Value) → not (fits_kind k v) ≡ false → is_plain v ≡ true
fits_plain k (Num n) e = refl
fits_plain k (Text t) e = refl
fits_plain k (Day n) e = refl
fits_plain k Null e = refl
fits_plain (kind.Number p) (Ratio a) e = cc
fits_plain (kind.Text n) (Ratio a) e = cc
fits_plain kind.Date (Ratio a) e = cc

module _ (d : TableDef) where
  plain_at : (columns : List ColumnDef) (vs : List Value) (k : ℕ) → length vs ≡ length columns → first_of (column_refusal d) (zip columns vs) ≡ None → is_plain (value_at vs k) ≡ true
  plain_at columns [] k wide none = refl
  plain_at [] (v ∷ vs) k wide none = absurd (omega (arith, wide))
  plain_at (c ∷ columns) (v ∷ vs) zero wide none =
      let own : column_refusal d (c, v) ≡ None = (none_first (column_refusal d (c, v)) (map (column_refusal d) (zip columns vs)) none).0 in
      fits_plain c.kind v (none_where (not (fits_kind c.kind v)) (ValueDoesNotFit d.name c.name) (none_first (where_true (not (fits_kind c.kind v)) (ValueDoesNotFit d.name c.name)) (where_true (c.not_null && is_null v) (NullNotAllowed d.name c.name) ∷ []) own).0)
  plain_at (c ∷ columns) (v ∷ vs) (suc k) wide none = plain_at columns vs k (omega (arith, wide)) (none_first (column_refusal d (c, v)) (map (column_refusal d) (zip columns vs)) none).1

  sure_at : (columns : List ColumnDef) (vs : List Value) (k : ℕ) → length vs ≡ length columns → first_of (column_refusal d) (zip columns vs) ≡ None → option_case (slice_get columns k) false (λ c. c.not_null) ≡ true → not_null (value_at vs k) ≡ true
  sure_at [] vs k wide none h = cc
  sure_at (c ∷ columns) [] k wide none h = absurd (omega (arith, wide))
  sure_at (c ∷ columns) (v ∷ vs) zero wide none h =
      let own : column_refusal d (c, v) ≡ None = (none_first (column_refusal d (c, v)) (map (column_refusal d) (zip columns vs)) none).0 in
      let second : where_true (c.not_null && is_null v) (NullNotAllowed d.name c.name) ≡ None
      = (none_first (where_true (c.not_null && is_null v) (NullNotAllowed d.name c.name)) [] (none_first (where_true (not (fits_kind c.kind v)) (ValueDoesNotFit d.name c.name)) (where_true (c.not_null && is_null v) (NullNotAllowed d.name c.name) ∷ []) own).1).0 in
      ap not (sym (ap (λ b. b && is_null v) h) ∙ none_where (c.not_null && is_null v) (NullNotAllowed d.name c.name) second)
  sure_at (c ∷ columns) (v ∷ vs) (suc k) wide none h = sure_at columns vs k (omega (arith, wide)) (none_first (column_refusal d (c, v)) (map (column_refusal d) (zip columns vs)) none).1 h

-- ---- a key

abbrev count_equal : Value → List Value → ℕ
count_equal w vs = length (filter (λ v. equal_not_null w v) vs)

seen_none : (w : Value) (seen vs : List Value) → list_any (same_value w) seen ≡ true → repeated_after same_value seen (filter not_null vs) ≡ None → count_equal w vs ≡ 0
seen_none w seen [] h none = refl
seen_none w seen (v ∷ vs) h none = by (not_null v) (list_any (same_value v) seen) (equal_not_null w v) refl refl refl none (seen_none w (v ∷ seen) vs) (seen_none w seen vs)
  where
    equal_of : equal_not_null w v ≡ true → w ≡ v
    equal_of e = (same_value-Decides w v).0 (and_parts (not (is_null w)) (same_value w v) e).1

    wider : list_any (same_value w) (v ∷ seen) ≡ true
    wider = ap (λ b. same_value w v || b) h ∙ or-true (same_value w v)

    there : not_null w ≡ true → w ≡ v → not_null v ≡ true
    there k e = ap not_null (sym e) ∙ k

    by : (a b c : Bool) → not_null v ≡ a → list_any (same_value v) seen ≡ b → equal_not_null w v ≡ c
        → repeated_after same_value seen (cond a (v ∷ filter not_null vs) (filter not_null vs)) ≡ None
        → (list_any (same_value w) (v ∷ seen) ≡ true → repeated_after same_value (v ∷ seen) (filter not_null vs) ≡ None → count_equal w vs ≡ 0)
        → (list_any (same_value w) seen ≡ true → repeated_after same_value seen (filter not_null vs) ≡ None → count_equal w vs ≡ 0)
        → length (cond c (v ∷ filter (λ x. equal_not_null w x) vs) (filter (λ x. equal_not_null w x) vs)) ≡ 0
    by true true c e f g k one two = absurd (let l : cond true (Some v) (repeated_after same_value (v ∷ seen) (filter not_null vs)) ≡ None = ap (λ b. cond b (Some v) (repeated_after same_value (v ∷ seen) (filter not_null vs))) (sym f) ∙ k in cc)
    by true false true e f g k one two = absurd (let l : true ≡ false = sym h ∙ ap (λ x. list_any (same_value x) seen) (equal_of g) ∙ f in cc)
    by true false false e f g k one two = one wider (ap (λ b. cond b (Some v) (repeated_after same_value (v ∷ seen) (filter not_null vs))) (sym f) ∙ k)
    by false b true e f g k one two = absurd (let l : true ≡ false = sym (there (and_parts (not (is_null w)) (same_value w v) g).0 (equal_of g)) ∙ e in cc)
    by false b false e f g k one two = two h k

at_most : (w : Value) (seen vs : List Value) → repeated_after same_value seen (filter not_null vs) ≡ None → count_equal w vs ≤ 1
at_most w seen [] none = omega arith
at_most w seen (v ∷ vs) none = by (not_null v) (list_any (same_value v) seen) (equal_not_null w v) refl refl refl none (at_most w (v ∷ seen) vs) (at_most w seen vs)
  where
    by : (a b c : Bool) → not_null v ≡ a → list_any (same_value v) seen ≡ b → equal_not_null w v ≡ c
        → repeated_after same_value seen (cond a (v ∷ filter not_null vs) (filter not_null vs)) ≡ None
        → (repeated_after same_value (v ∷ seen) (filter not_null vs) ≡ None → count_equal w vs ≤ 1) → (repeated_after same_value seen (filter not_null vs) ≡ None → count_equal w vs ≤ 1)
        → length (cond c (v ∷ filter (λ x. equal_not_null w x) vs) (filter (λ x. equal_not_null w x) vs)) ≤ 1
    by true true c e f g k one two = absurd (let l : cond true (Some v) (repeated_after same_value (v ∷ seen) (filter not_null vs)) ≡ None = ap (λ b. cond b (Some v) (repeated_after same_value (v ∷ seen) (filter not_null vs))) (sym f) ∙ k in cc)
    by true false true e f g k one two =
        let rest : repeated_after same_value (v ∷ seen) (filter not_null vs) ≡ None = ap (λ b. cond b (Some v) (repeated_after same_value (v ∷ seen) (filter not_null vs))) (sym f) ∙ k in
        let here : list_any (same_value w) (v ∷ seen) ≡ true = ap (λ b. b || list_any (same_value w) seen) (and_parts (not (is_null w)) (same_value w v) g).1 in
        let zero_more : count_equal w vs ≡ 0 = seen_none w (v ∷ seen) vs here rest in
        omega (arith, zero_more)
    by true false false e f g k one two = one (ap (λ b. cond b (Some v) (repeated_after same_value (v ∷ seen) (filter not_null vs))) (sym f) ∙ k)
    by false b true e f g k one two =
        absurd (let both : (not (is_null w) ≡ true) × (same_value w v ≡ true) = and_parts (not (is_null w)) (same_value w v) g in
        let l : true ≡ false = sym (ap not_null (sym ((same_value-Decides w v).0 both.1)) ∙ both.0) ∙ e in cc)
    by false b false e f g k one two = two k

-- how many rows have a value, by the values of the column
count_rows : (t : Table) (m : ℕ) (w : Value) (rs : List Row) → with_value (Col m) w (map (row_at t) rs) ≡ count_equal w (map (λ r. value_at r.values m) rs)
count_rows t m w [] = refl
count_rows t m w (r ∷ rs) = by (equal_not_null w (value_at r.values m)) (count_rows t m w rs)
  where
    by : (b : Bool) → with_value (Col m) w (map (row_at t) rs) ≡ count_equal w (map (λ r. value_at r.values m) rs)
        → length (cond b (row_at t r ∷ filter (λ x. equal_not_null w (part_value x (Col m))) (map (row_at t) rs)) (filter (λ x. equal_not_null w (part_value x (Col m))) (map (row_at t) rs)))
        ≡ length (cond b (value_at r.values m ∷ filter (λ v. equal_not_null w v) (map (λ r. value_at r.values m) rs)) (filter (λ v. equal_not_null w v) (map (λ r. value_at r.values m) rs)))
    by true h = ap (λ n. suc n) h
    by false h = h

-- a value that stands in the column is that of some row
some_row : (w : Value) (vs : List Value) → not_null w ≡ true → list_any (same_value w) (filter not_null vs) ≡ true → 1 ≤ count_equal w vs
some_row w [] h k = cc
some_row w (v ∷ vs) h k = by (not_null v) (same_value w v) refl refl k (some_row w vs h)
  where
    more : (b : Bool) → 1 ≤ count_equal w vs → 1 ≤ length (cond b (v ∷ filter (λ x. equal_not_null w x) vs) (filter (λ x. equal_not_null w x) vs))
    more true e = omega (arith, e)
    more false e = e

    by : (a b : Bool) → not_null v ≡ a → same_value w v ≡ b → list_any (same_value w) (cond a (v ∷ filter not_null vs) (filter not_null vs)) ≡ true
        → (list_any (same_value w) (filter not_null vs) ≡ true → 1 ≤ count_equal w vs) → 1 ≤ length (cond (equal_not_null w v) (v ∷ filter (λ x. equal_not_null w x) vs) (filter (λ x. equal_not_null w x) vs))
    by true true e f k rest =
        let yes_equal : equal_not_null w v ≡ true = λ i. h i && f i in
        subst (λ b. 1 ≤ length (cond b (v ∷ filter (λ x. equal_not_null w x) vs) (filter (λ x. equal_not_null w x) vs))) (sym yes_equal) (omega arith)
    by true false e f k rest = more (equal_not_null w v) (rest (ap (λ b. b || list_any (same_value w) (filter not_null vs)) (sym f) ∙ k))
    by false b e f k rest = more (equal_not_null w v) (rest k)

-- ---- the base state

pub at_table : (P : Table → Type 0) (base : Base) (n : ℕ) → P empty_table → Each P base → P (table_at base n)
at_table P [] n none h = none
at_table P (t ∷ ts) zero none h = h.0
at_table P (t ∷ ts) (suc n) none h = at_table P ts n none h.1

pub nothing : (base : Base) → TableKept base empty_table
nothing base = record { keys = tt; parents = tt; widths = tt; columns = tt }

-- **the rows of a base state whose tables keep all this are as the law of plans asks**, where no relation is relied on
pub rows_fine_of : (base : Base) (tables : List ℕ) → Each (TableKept base) base → RowsFine (defs_of base) tables false (rows_at base)
rows_fine_of base tables kept = record {
  plain = λ n. Each-of_map (λ r. (p : ColPart) → is_plain (part_value r p) ≡ true) (row_at (table_at base n)) (table_at base n).rows
      (Each-map (λ r. (length r.values ≡ length (table_at base n).def.columns) × (first_of (column_refusal (table_at base n).def) (zip (table_at base n).def.columns r.values) ≡ None))
      (λ r. (p : ColPart) → is_plain (part_value (row_at (table_at base n) r) p) ≡ true) (λ r h p. plain_by n r h p) (table_at base n).rows (fits n));
  sure = λ n. Each-of_map (λ r. (p : ColPart) → never_null (defs_of base) (record { table = n; part = p }) ≡ true → not_null (part_value r p) ≡ true) (row_at (table_at base n)) (table_at base n).rows
      (Each-map (λ r. (length r.values ≡ length (table_at base n).def.columns) × (first_of (column_refusal (table_at base n).def) (zip (table_at base n).def.columns r.values) ≡ None))
      (λ r. (p : ColPart) → never_null (defs_of base) (record { table = n; part = p }) ≡ true → not_null (part_value (row_at (table_at base n) r) p) ≡ true)
      (λ r h p e. sure_by n r h p (ap (λ d. never_null_part d p) (sym (base_def base n)) ∙ e)) (table_at base n).rows (fits n));
  unique = unique_by;
  foreign = λ n own. subst (λ (d : TableDef). Each (λ f. has_number tables f.table ≡ true → (not f.rely || false) ≡ true → Each (HasParent (rows_at base) f) (rows_at base n)) d.foreign) (sym (base_def base n))
      (Each-map (λ f. not f.rely ≡ true → is_orphaned base (table_at base n) f ≡ false) (λ f. has_number tables f.table ≡ true → (not f.rely || false) ≡ true → Each (HasParent (rows_at base) f) (rows_at base n))
      (λ f h there rely. parents_by n f (h (sym (or-false (not f.rely)) ∙ rely))) (table_at base n).def.foreign
      (Each-unfilter (λ f. is_orphaned base (table_at base n) f ≡ false) (λ f. not f.rely) (table_at base n).def.foreign (at n).parents));
}
  where
    at : (n : ℕ) → TableKept base (table_at base n)
    at n = at_table (TableKept base) base n (nothing base) kept

    fits : (n : ℕ) → Each (λ r. (length r.values ≡ length (table_at base n).def.columns) × (first_of (column_refusal (table_at base n).def) (zip (table_at base n).def.columns r.values) ≡ None)) (table_at base n).rows
    fits n = Each-both (λ r. length r.values ≡ length (table_at base n).def.columns) (λ r. first_of (column_refusal (table_at base n).def) (zip (table_at base n).def.columns r.values) ≡ None) (table_at base n).rows (at n).widths (at n).columns

    plain_by : (n : ℕ) (r : Row) → (length r.values ≡ length (table_at base n).def.columns) × (first_of (column_refusal (table_at base n).def) (zip (table_at base n).def.columns r.values) ≡ None)
        → (p : ColPart) → is_plain (part_value (row_at (table_at base n) r) p) ≡ true
    plain_by n r h (Col k) = plain_at (table_at base n).def (table_at base n).def.columns r.values k h.0 h.1
    plain_by n r h RowId = refl
    plain_by n r h Mark = refl

    sure_by : (n : ℕ) (r : Row) → (length r.values ≡ length (table_at base n).def.columns) × (first_of (column_refusal (table_at base n).def) (zip (table_at base n).def.columns r.values) ≡ None)
        → (p : ColPart) → never_null_part (table_at base n).def p ≡ true → not_null (part_value (row_at (table_at base n) r) p) ≡ true
    sure_by n r h (Col k) e = sure_at (table_at base n).def (table_at base n).def.columns r.values k h.0 h.1 e
    sure_by n r h RowId e = refl
    sure_by n r h Mark e = refl

    key_unique : (n m : ℕ) → has_number (def_at (defs_of base) n).keys m ≡ true → (w : Value) → with_value (Col m) w (rows_at base n) ≤ 1
    key_unique n m h w =
        let few : count_equal w (map (λ r. value_at r.values m) (table_at base n).rows) ≤ 1
        = at_most w [] (map (λ r. value_at r.values m) (table_at base n).rows)
        (number_among (λ k. repeated same_value (column_values (table_at base n) k) ≡ None) (table_at base n).def.keys m (at n).keys (ap (λ (d : TableDef). has_number d.keys m) (sym (base_def base n)) ∙ h)) in
        let same : with_value (Col m) w (rows_at base n) ≡ count_equal w (map (λ r. value_at r.values m) (table_at base n).rows) = count_rows (table_at base n) m w (table_at base n).rows in
        omega (arith, few, same)

    unique_by : (c : ColRef) → is_key_column (defs_of base) c ≡ true → (w : Value) → with_value c.part w (rows_at base c.table) ≤ 1
    unique_by c h w = by c.part refl h
      where
        by : (p : ColPart) → c.part ≡ p → is_key_column (defs_of base) (record { table = c.table; part = p }) ≡ true → with_value p w (rows_at base c.table) ≤ 1
        by (Col m) e h = key_unique c.table m h w
        by RowId e h = cc
        by Mark e h = cc

    parent_of : (f : ForeignDef) (v : Value) → not_null v ≡ true → list_any (same_value v) (column_values (table_at base f.table) f.to) ≡ true → 1 ≤ with_value (Col f.to) v (rows_at base f.table)
    parent_of f v h k =
        let some : 1 ≤ count_equal v (map (λ r. value_at r.values f.to) (table_at base f.table).rows) = some_row v (map (λ r. value_at r.values f.to) (table_at base f.table).rows) h k in
        let same : with_value (Col f.to) v (rows_at base f.table) ≡ count_equal v (map (λ r. value_at r.values f.to) (table_at base f.table).rows) = count_rows (table_at base f.table) f.to v (table_at base f.table).rows in
        omega (arith, some, same)

    parents_by : (n : ℕ) (f : ForeignDef) → is_orphaned base (table_at base n) f ≡ false → Each (HasParent (rows_at base) f) (rows_at base n)
    parents_by n f h =
        Each-of_map (HasParent (rows_at base) f) (row_at (table_at base n)) (table_at base n).rows
        (Each-map (λ r. not_null (value_at r.values f.column) ≡ true → not (list_any (same_value (value_at r.values f.column)) (column_values (table_at base f.table) f.to)) ≡ false) (λ r. HasParent (rows_at base) f (row_at (table_at base n) r))
        (λ r g e. parent_of f (value_at r.values f.column) e (not-false (list_any (same_value (value_at r.values f.column)) (column_values (table_at base f.table) f.to)) (g e))) (table_at base n).rows
        (each (table_at base n).rows
        (Each-unfilter (λ v. not (list_any (same_value v) (column_values (table_at base f.table) f.to)) ≡ false) not_null (map (λ r. value_at r.values f.column) (table_at base n).rows)
        (Each-from_none (λ v. not (list_any (same_value v) (column_values (table_at base f.table) f.to))) (column_values (table_at base n) f.column) h))))
      where
        each : (rs : List Row) → Each (λ v. not_null v ≡ true → not (list_any (same_value v) (column_values (table_at base f.table) f.to)) ≡ false) (map (λ r. value_at r.values f.column) rs)
            → Each (λ r. not_null (value_at r.values f.column) ≡ true → not (list_any (same_value (value_at r.values f.column)) (column_values (table_at base f.table) f.to)) ≡ false) rs
        each [] k = tt
        each (r ∷ rs) k = (k.0, each rs k.1)
