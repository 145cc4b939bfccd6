-- Things that have the columns of other things give the same rows: tuples of fewer tables, or the rows of a join view.
use Rattle.std.proofs.Common.{◌≡◌, ◌∙◌, sym, ap, refl, suc, Bool, true, false, cond, List, [], ◌∷◌, ◌++◌, map, length}
use Rattle.std.specs.Prelude.{pos}
use Rattle.std.specs.List.{filter, flat_map, list_all}
use Rattle.wh_base.specs.Columns.{agg_columns, expr_columns}
use Rattle.wh_base.specs.Lists.{distinct}
use Rattle.wh_base.specs.Values.{is_true_that, product_value, same_values}
use Rattle.wh_base.specs.declared.values.Value.{Value}
use Rattle.wh_base.specs.declared.values.Value.TheVariants.{Null, Num}
use Rattle.wh_base.specs.declared.columns.Agg.{Agg}
use Rattle.wh_base.specs.declared.columns.Agg.TheVariants.{Avg, Count, CountAll, Max, Min, Sum}
use Rattle.wh_base.specs.declared.columns.ColRef.{ColRef}
use Rattle.wh_base.specs.declared.columns.Expr.{Expr}
use Rattle.wh_base.specs.declared.columns.Expr.TheVariants as expr
use Rattle.wh_base.specs.declared.queries.Item.{Item}
use Rattle.wh_base.specs.declared.queries.Item.TheVariants as item
use Rattle.wh_base.specs.declared.queries.StarQuery.{StarQuery}
use Rattle.def_meaning.specs.Meaning.{Grouped, agg_value, avg_value, count_value, entries, expr_value, group_entry, group_item, grouped_entries, groups, key_of, max_value, min_value, not_null, plain_entries, plain_item, sum_value, test_true, values_of}
use Rattle.def_restrictions.specs.Definition.{item_columns}
use Rattle.law_lists.proofs.Each.{map_alike, filter_same, Each-filter, Each-map}
use Rattle.law_lists.proofs.Lists.{filter-map}
use Rattle.law_rewrite.specs.Words.{Each}
use Rattle.law_rewrite.proofs.Answering.{Each-split, Each-parts, all_alike, made}

module _ {T U : Type 0} (value : T → ColRef → Value) (value' : U → ColRef → Value) (proj : T → U) where
  -- the other thing has these columns
  abbrev pub Has : List ColRef → T → Type 0
  Has columns t = Each (λ c. value t c ≡ value' (proj t) c) columns

  expr_has : (e : Expr) (t : T) → Has (expr_columns e) t → expr_value (value t) e ≡ expr_value (value' (proj t)) e
  expr_has (expr.Col c) t h = h.0
  expr_has (expr.Product a b) t h = λ i. product_value (h.0 i) (h.1.0 i)
  expr_has (expr.Lit n) t h = refl

  values_has : (e : Expr) (ts : List T) → Each (Has (expr_columns e)) ts → values_of value e ts ≡ values_of value' e (map proj ts)
  values_has e [] h = refl
  values_has e (t ∷ ts) h = λ i. cond (not_null (expr_has e t h.0 i)) (expr_has e t h.0 i ∷ values_has e ts h.1 i) (values_has e ts h.1 i)

  same_length : (ts : List T) → length ts ≡ length (map proj ts)
  same_length [] = refl
  same_length (t ∷ ts) = ap (λ n. suc n) (same_length ts)

  pub agg_has : (a : Agg) (ts : List T) → Each (Has (agg_columns a)) ts → agg_value value ts a ≡ agg_value value' (map proj ts) a
  agg_has CountAll ts h = ap (λ n. Num (pos n)) (same_length ts)
  agg_has (Count e) ts h = ap count_value (values_has e ts h)
  agg_has (Sum e) ts h = ap sum_value (values_has e ts h)
  agg_has (Avg e) ts h = ap avg_value (values_has e ts h)
  agg_has (Min e) ts h = ap min_value (values_has e ts h)
  agg_has (Max e) ts h = ap max_value (values_has e ts h)

  -- ---- groups

  key_has : (keys : List ColRef) (t : T) → Has keys t → key_of value keys t ≡ key_of value' keys (proj t)
  key_has keys t h = map_alike (value t) (value' (proj t)) keys h

  made_has : (keys : List ColRef) (ts : List T) → Each (Has keys) ts → (k : List Value) → map proj (made value keys ts k).1 ≡ (made value' keys (map proj ts) k).1
  made_has keys ts h k =
      ap (map proj) (filter_same (λ t. same_values (key_of value keys t) k) (λ t. same_values (key_of value' keys (proj t)) k) ts
      (Each-map (Has keys) (λ t. same_values (key_of value keys t) k ≡ same_values (key_of value' keys (proj t)) k) (λ t g. ap (λ l. same_values l k) (key_has keys t g)) ts h))
      ∙ sym (filter-map (λ u. same_values (key_of value' keys u) k) proj ts)

  keys_has : (keys : List ColRef) (ts : List T) → Each (Has keys) ts → map (key_of value keys) ts ≡ map (key_of value' keys) (map proj ts)
  keys_has keys [] h = refl
  keys_has keys (t ∷ ts) h = λ i. key_has keys t h.0 i ∷ keys_has keys ts h.1 i

  -- what is made of the groups that pass, where it is the same of each
  module _ {C : Type 0} (P : T → Type 0) (passes : Grouped T → Bool) (passes' : Grouped U → Bool) (out : Grouped T → C) (out' : Grouped U → C)
      (same_pass : (k : List Value) (ts : List T) → Each P ts → passes (k, ts) ≡ passes' (k, map proj ts))
      (same_out : (k : List Value) (ts : List T) → Each P ts → out (k, ts) ≡ out' (k, map proj ts)) where
    one_kept : (k : List Value) (ts : List T) (us : List U) → Each P ts → map proj ts ≡ us → (rest : List C) → cond (passes (k, ts)) (out (k, ts) ∷ rest) rest ≡ cond (passes' (k, us)) (out' (k, us) ∷ rest) rest
    one_kept k ts us h e rest =
        (λ i. cond (same_pass k ts h i) (same_out k ts h i ∷ rest) rest) ∙ ap (λ xs. cond (passes' (k, xs)) (out' (k, xs) ∷ rest) rest) e

    out_cond : {A : Type 0} (f : A → C) (b : Bool) (x : A) (xs : List A) → map f (cond b (x ∷ xs) xs) ≡ cond b (f x ∷ map f xs) (map f xs)
    out_cond f true x xs = refl
    out_cond f false x xs = refl

    over_keys : (keys : List ColRef) (ts : List T) → Each (Has keys) ts → Each P ts → (ks : List (List Value))
        → map out (filter passes (map (made value keys ts) ks)) ≡ map out' (filter passes' (map (made value' keys (map proj ts)) ks))
    over_keys keys ts h p [] = refl
    over_keys keys ts h p (k ∷ ks) =
        out_cond out (passes (made value keys ts k)) (made value keys ts k) (filter passes (map (made value keys ts) ks))
        ∙ ap (λ rest. cond (passes (made value keys ts k)) (out (made value keys ts k) ∷ rest) rest) (over_keys keys ts h p ks)
        ∙ one_kept k (made value keys ts k).1 (made value' keys (map proj ts) k).1 (Each-filter P (λ t. same_values (key_of value keys t) k) ts p) (made_has keys ts h k)
        (map out' (filter passes' (map (made value' keys (map proj ts)) ks)))
        ∙ sym (out_cond out' (passes' (made value' keys (map proj ts) k)) (made value' keys (map proj ts) k) (filter passes' (map (made value' keys (map proj ts)) ks)))

    pub groups_have : (keys : List ColRef) (ts : List T) → Each (Has keys) ts → Each P ts → map out (filter passes (groups value keys ts)) ≡ map out' (filter passes' (groups value' keys (map proj ts)))
    groups_have [] ts h p =
        out_cond out (passes ([], ts)) ([], ts) [] ∙ one_kept [] ts (map proj ts) p refl [] ∙ sym (out_cond out' (passes' ([], map proj ts)) ([], map proj ts) [])
    groups_have (c ∷ cs) ts h p =
        over_keys (c ∷ cs) ts h p (distinct same_values (map (key_of value (c ∷ cs)) ts))
        ∙ ap (λ ks. map out' (filter passes' (map (made value' (c ∷ cs) (map proj ts)) (distinct same_values ks)))) (keys_has (c ∷ cs) ts h)

  -- ---- entries

  module _ (q : StarQuery) where
    -- the columns that items and HAVING read
    abbrev pub read_columns : List ColRef
    read_columns = flat_map item_columns q.items ++ flat_map (λ t. agg_columns t.agg) q.having

    Each-swap : {A : Type 0} (columns : A → List ColRef) (xs : List A) (ts : List T) → Each (λ t. Each (λ x. Has (columns x) t) xs) ts → Each (λ x. Each (Has (columns x)) ts) xs
    Each-swap columns [] ts h = tt
    Each-swap columns (x ∷ xs) ts h = (
      Each-map (λ t. Each (λ y. Has (columns y) t) (x ∷ xs)) (Has (columns x)) (λ t k. k.0) ts h,
      Each-swap columns xs ts (Each-map (λ t. Each (λ y. Has (columns y) t) (x ∷ xs)) (λ t. Each (λ y. Has (columns y) t) xs) (λ t k. k.1) ts h),
    )

    items_read : (ts : List T) → Each (Has read_columns) ts → Each (λ i. Each (Has (item_columns i)) ts) q.items
    items_read ts h =
        Each-swap item_columns q.items ts
        (Each-map (Has read_columns) (λ t. Each (λ i. Has (item_columns i) t) q.items)
        (λ t k. Each-parts (λ c. value t c ≡ value' (proj t) c) item_columns q.items (Each-split (λ c. value t c ≡ value' (proj t) c) (flat_map item_columns q.items) (flat_map (λ x. agg_columns x.agg) q.having) k).0) ts h)

    tests_read : (ts : List T) → Each (Has read_columns) ts → Each (λ x. Each (Has (agg_columns x.agg)) ts) q.having
    tests_read ts h =
        Each-swap (λ x. agg_columns x.agg) q.having ts
        (Each-map (Has read_columns) (λ t. Each (λ x. Has (agg_columns x.agg) t) q.having)
        (λ t k. Each-parts (λ c. value t c ≡ value' (proj t) c) (λ x. agg_columns x.agg) q.having (Each-split (λ c. value t c ≡ value' (proj t) c) (flat_map item_columns q.items) (flat_map (λ x. agg_columns x.agg) q.having) k).1) ts h)

    item_has : (k : List Value) (ts : List T) (i : Item) → Each (Has (item_columns i)) ts → group_item value q.keys (k, ts) i ≡ group_item value' q.keys (k, map proj ts) i
    item_has k ts (item.Col c) h = refl
    item_has k ts (item.Agg a) h = agg_has a ts h

    pub grouped_has : (ts : List T) → Each (Has q.keys) ts → Each (Has read_columns) ts → grouped_entries value q ts ≡ grouped_entries value' q (map proj ts)
    grouped_has ts h r =
        groups_have (Has read_columns) (λ g. list_all (test_true value g) q.having) (λ g. list_all (test_true value' g) q.having) (group_entry value q) (group_entry value' q)
        (λ k us p. all_alike (test_true value (k, us)) (test_true value' (k, map proj us)) q.having
        (Each-map (λ x. Each (Has (agg_columns x.agg)) us) (λ x. test_true value (k, us) x ≡ test_true value' (k, map proj us) x) (λ x e. ap (λ w. is_true_that w x.op x.value) (agg_has x.agg us e)) q.having (tests_read us p)))
        (λ k us p. (λ i. record {
          key = k;
          row = map_alike (group_item value q.keys (k, us)) (group_item value' q.keys (k, map proj us)) q.items
              (Each-map (λ j. Each (Has (item_columns j)) us) (λ j. group_item value q.keys (k, us) j ≡ group_item value' q.keys (k, map proj us) j) (item_has k us) q.items (items_read us p)) i;
        }))
        q.keys ts h r

    plain_items : (t : T) (items : List Item) → Has (flat_map item_columns items) t → map (plain_item (value t)) items ≡ map (plain_item (value' (proj t))) items
    plain_items t [] h = refl
    plain_items t (item.Col c ∷ items) h = λ i. h.0 i ∷ plain_items t items h.1 i
    plain_items t (item.Agg a ∷ items) h =
        ap (λ rest. Null ∷ rest) (plain_items t items (Each-split (λ c. value t c ≡ value' (proj t) c) (agg_columns a) (flat_map item_columns items) h).1)

    plain_has : (ts : List T) → Each (Has read_columns) ts → plain_entries value q ts ≡ plain_entries value' q (map proj ts)
    plain_has [] h = refl
    plain_has (t ∷ ts) h =
        λ i. record { key = []; row = plain_items t q.items (Each-split (λ c. value t c ≡ value' (proj t) c) (flat_map item_columns q.items) (flat_map (λ x. agg_columns x.agg) q.having) h.0).0 i }
        ∷ plain_has ts h.1 i

    -- **things with the same columns have the same entries**
    pub entries_has : (ts : List T) → Each (Has q.keys) ts → Each (Has read_columns) ts → entries value q ts ≡ entries value' q (map proj ts)
    entries_has ts h r = λ i. cond q.grouped (grouped_has ts h r i) (plain_has ts r i)
