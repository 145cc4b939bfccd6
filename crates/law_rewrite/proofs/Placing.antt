-- The value of a column in a row of a group is that of the group's tuples.
use Rattle.std.proofs.Common.{◌≡◌, ◌∙◌, sym, ap, subst, refl, ℕ, ◌+◌, zero, suc, Bool, true, false, cond, List, [], ◌∷◌, ◌++◌, map, length, Some, None}
use Rattle.std.specs.Prelude.{◌&&◌, ◌||◌, nat_lt, not, position}
use Rattle.std.specs.List.{flat_map, list_all, list_any, position_or_len}
use Rattle.std.proofs.lemmas.List.{length-map}
use Rattle.std.proofs.lemmas.Bool.{and_parts}
use Rattle.wh_base.specs.Columns.{has_column, same_column}
use Rattle.wh_base.specs.Lists.{option_case}
use Rattle.wh_base.specs.Tables.{value_at}
use Rattle.wh_base.specs.Values.{is_null, same_value}
use Rattle.wh_base.proofs.Same.{same_value-Decides}
use Rattle.wh_base.specs.declared.values.Value.{Value}
use Rattle.wh_base.specs.declared.values.Value.TheVariants.{Null}
use Rattle.wh_base.specs.declared.columns.ColRef.{ColRef}
use Rattle.wh_base.specs.declared.queries.Edge.{Edge}
use Rattle.wh_base.specs.declared.queries.Item.{Item}
use Rattle.wh_base.specs.declared.queries.Item.TheVariants as item
use Rattle.wh_base.specs.declared.queries.StarQuery.{StarQuery}
use Rattle.def_meaning.specs.Joined.{edge_true}
use Rattle.def_meaning.specs.Meaning.{group_item, key_of}
use Rattle.def_meaning.specs.Ranges.{equal_columns, other_end, spread, spread_times}
use Rattle.def_rewriting.specs.Reaching.{item_place, plain_columns, stands_at, view_layout}
use Rattle.def_rewriting.specs.PlanRows.{placed}
use Rattle.law_lists.proofs.Lists.{list_any-map}
use Rattle.law_lists.proofs.Columns.{first_value, key_value_is}
use Rattle.wh_base.proofs.SameItems.{same_column_is}
use Rattle.law_lists.proofs.Each.{Each-append}
use Rattle.law_rewrite.specs.Words.{Each}
use Rattle.law_rewrite.proofs.Answering.{Each-split}

-- ---- the value at the first place that passes

first-map : {A B : Type 0} (p : B → Bool) (h : A → B) (xs : List A) → position_or_len p (map h xs) ≡ position_or_len (λ x. p (h x)) xs
first-map p h [] = refl
first-map p h (x ∷ xs) = ap (λ n. cond (not (p (h x))) (1 + n) 0) (first-map p h xs)

pub position-map : {A B : Type 0} (p : B → Bool) (h : A → B) (xs : List A) → position p (map h xs) ≡ position (λ x. p (h x)) xs
position-map p h xs = λ i. cond (nat_lt (first-map p h xs i) (length-map xs h i)) (Some (first-map p h xs i)) None

-- ---- columns

pub of_has : (P : ColRef → Type 0) (columns : List ColRef) (c : ColRef) → Each P columns → has_column columns c ≡ true → P c
of_has P [] c h k = cc
of_has P (d ∷ columns) c h k = by (same_column c d) refl k (of_has P columns c h.1)
  where
    by : (b : Bool) → same_column c d ≡ b → (b || has_column columns c) ≡ true → (has_column columns c ≡ true → P c) → P c
    by true e k l = subst P (sym (same_column_is c d e)) h.0
    by false e k l = l k

-- ---- columns that true joins make equal

module _ (value : ColRef → Value) (w : Value) where
  edge_equal : (e : Edge) → edge_true value e ≡ true → value e.from ≡ value e.to
  edge_equal e h = (same_value-Decides (value e.from) (value e.to)).0 (and_parts (not (is_null (value e.from))) (same_value (value e.from) (value e.to)) h).1

  other_equal : (columns : List ColRef) (e : Edge) → edge_true value e ≡ true → Each (λ c. value c ≡ w) columns → Each (λ c. value c ≡ w) (other_end columns e)
  other_equal columns e h k = by (has_column columns e.from) (has_column columns e.to) refl refl
    where
      by : (a b : Bool) → has_column columns e.from ≡ a → has_column columns e.to ≡ b → Each (λ c. value c ≡ w) (cond (a && not b) (e.to ∷ []) (cond (b && not a) (e.from ∷ []) []))
      by true true f g = tt
      by true false f g = (sym (edge_equal e h) ∙ of_has (λ c. value c ≡ w) columns e.from k f, tt)
      by false true f g = (edge_equal e h ∙ of_has (λ c. value c ≡ w) columns e.to k g, tt)
      by false false f g = tt

  spread_equal : (edges : List Edge) (columns : List ColRef) → list_all (edge_true value) edges ≡ true → Each (λ c. value c ≡ w) columns → Each (λ c. value c ≡ w) (spread edges columns)
  spread_equal [] columns h k = k
  spread_equal (e ∷ edges) columns h k =
      let both : (edge_true value e ≡ true) × (list_all (edge_true value) edges ≡ true) = and_parts (edge_true value e) (list_all (edge_true value) edges) h in
      spread_equal edges (columns ++ other_end columns e) both.1 (Each-append (λ c. value c ≡ w) columns (other_end columns e) k (other_equal columns e both.0 k))

  times_equal : (n : ℕ) (edges : List Edge) (columns : List ColRef) → list_all (edge_true value) edges ≡ true → Each (λ c. value c ≡ w) columns → Each (λ c. value c ≡ w) (spread_times n edges columns)
  times_equal zero edges columns h k = k
  times_equal (suc n) edges columns h k = times_equal n edges (spread edges columns) h (spread_equal edges columns h k)

-- all that are linked to a column have its value
pub linked_all : (value : ColRef → Value) (edges : List Edge) → list_all (edge_true value) edges ≡ true → (c : ColRef) → Each (λ d. value d ≡ value c) (equal_columns edges c)
linked_all value edges h c = times_equal value (value c) (length edges) edges (c ∷ []) h (refl, tt)

-- columns linked by joins that are true have one value
pub linked_equal : (value : ColRef → Value) (edges : List Edge) → list_all (edge_true value) edges ≡ true → (c d : ColRef) → has_column (equal_columns edges c) d ≡ true → value d ≡ value c
linked_equal value edges h c d k = of_has (λ x. value x ≡ value c) (equal_columns edges c) d (times_equal value (value c) (length edges) edges (c ∷ []) h (refl, tt)) k

-- ---- the value of a column in a group's row

module _ {T : Type 0} (value : T → ColRef → Value) (v : StarQuery) where
  -- a column is available by a selected group column that equals it
  pub placed_is : (t : T) (members : List T) (c : ColRef)
      → list_all (edge_true (value t)) v.edges ≡ true
      → Each (λ d. has_column v.keys d ≡ true) (flat_map plain_columns v.items)
      → list_any (stands_at c) (view_layout v) ≡ true
      → placed (view_layout v) (map (group_item value v.keys (key_of value v.keys t, members)) v.items) c ≡ value t c
  placed_is t members c joins keys there =
      ap (λ o. option_case o Null (value_at (map (group_item value v.keys (key_of value v.keys t, members)) v.items))) (position-map (stands_at c) (item_place v) v.items)
      ∙ first_value (λ i. stands_at c (item_place v i)) (group_item value v.keys (key_of value v.keys t, members)) (value t c) v.items
      (sym (list_any-map (stands_at c) (item_place v) v.items) ∙ there) (each_is v.items keys)
    where
      one : (i : Item) → Each (λ d. has_column v.keys d ≡ true) (plain_columns i) → stands_at c (item_place v i) ≡ true → group_item value v.keys (key_of value v.keys t, members) i ≡ value t c
      one (item.Col d) k e = key_value_is (value t) v.keys d k.0 ∙ sym (linked_equal (value t) v.edges joins d c e)
      one (item.Agg a) k e = cc

      each_is : (xs : List Item) → Each (λ d. has_column v.keys d ≡ true) (flat_map plain_columns xs) → Each (λ i. stands_at c (item_place v i) ≡ true → group_item value v.keys (key_of value v.keys t, members) i ≡ value t c) xs
      each_is [] k = tt
      each_is (i ∷ xs) k =
          let both : Each (λ d. has_column v.keys d ≡ true) (plain_columns i) × Each (λ d. has_column v.keys d ≡ true) (flat_map plain_columns xs)
          = Each-split (λ d. has_column v.keys d ≡ true) (plain_columns i) (flat_map plain_columns xs) k in
          (one i both.0, each_is xs both.1)
