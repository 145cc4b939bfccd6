-- The groups of a view's rows and of other tuples together.
use Rattle.std.proofs.Common.{◌≡◌, ◌∙◌, sym, ap, refl, arith, ℕ, ◌+◌, Bool, true, false, cond, List, [], ◌∷◌, ◌++◌, map, length}
use Rattle.std.specs.Prelude.{◌||◌, pos}
use Rattle.std.specs.List.{filter, list_all, list_any}
use Rattle.std.proofs.lemmas.List.{append-nil}
use Rattle.wh_base.proofs.Sorting.{SameCounts}
use Rattle.wh_base.specs.declared.columns.Agg.{Agg}
use Rattle.wh_base.specs.declared.columns.Agg.TheVariants.{Avg, Count, CountAll, Max, Min, Sum}
use Rattle.wh_base.specs.declared.columns.ColRef.{ColRef}
use Rattle.wh_base.specs.declared.queries.Item.{Item}
use Rattle.wh_base.specs.declared.queries.Item.TheVariants as item
use Rattle.wh_base.specs.declared.queries.StarQuery.{StarQuery}
use Rattle.wh_base.specs.declared.tables.TableDef.{TableDef}
use Rattle.wh_base.specs.declared.values.Value.{Value}
use Rattle.wh_base.specs.declared.values.Value.TheVariants.{Day, Null, Num, Ratio, Text}
use Rattle.def_meaning.specs.Accumulated.{item_aggs, query_aggs, selected_aggs}
use Rattle.def_meaning.specs.Meaning.{Grouped, agg_value, avg_value, count_value, max_value, min_value, not_null, sum_value, test_true, values_of, group_item, groups, key_of}
use Rattle.def_rewriting.specs.Compatible.{linked}
use Rattle.def_rewriting.specs.PlanRows.{plan_agg}
use Rattle.def_rewriting.specs.Rollup.{count_part, counts_value, origin, ratio_value, sum_by_part, sum_part}
use Rattle.law_lists.proofs.Each.{Each-of_mapped, map_alike, Each-filter, Each-map, Each-turn}
use Rattle.law_lists.proofs.Counts.{SameCounts-is, distinct_same}
use Rattle.law_lists.proofs.Groups.{Stands-has, Stands-part, same_made, Stands}
use Rattle.law_lists.proofs.Folds.{sum_parts}
use Rattle.law_rewrite.specs.Words.{Each}
use Rattle.law_rewrite.proofs.Answering.{aggs_by, all_alike, made, keys_agree, Each-parts, Each-split, Full, Reads, Served, ServedAll, Sourced}
use Rattle.std.specs.Prelude.{ℤ, ◌+ℤ◌}
use Rattle.std.proofs.Math.IntN.{+ℤ_idl}
use Rattle.std.proofs.lemmas.List.{length-append, map-append}
use Rattle.std.proofs.lemmas.List.Elements.{filter-append}
use Rattle.std.proofs.lemmas.List.Folds.{list_any-append}
use Rattle.wh_base.specs.Lists.{distinct}
use Rattle.wh_base.specs.Values.{is_true_that, same_values}
use Rattle.wh_base.proofs.Same.{same_values-Decides}
use Rattle.def_meaning.proofs.Merging.{max-append, min-append, values_of-append}
use Rattle.def_rewriting.specs.Concat.{both_sides}
use Rattle.law_rewrite.proofs.Folds.{average_parts}
use Rattle.law_rewrite.proofs.Pieces.{concat_groups, concat_item, concat_test, pieces_of}

-- ---- two lists together

-- a value that is NULL adds nothing to a sum of parts
parts_of : (f : Value → ℤ) → f Null ≡ pos 0 → (vs : List Value) → sum_by_part f (filter not_null vs) ≡ sum_by_part f vs
parts_of f h [] = refl
parts_of f h (Null ∷ vs) = parts_of f h vs ∙ sym (+ℤ_idl (sum_by_part f vs)) ∙ ap (λ n. n +ℤ sum_by_part f vs) (sym h)
parts_of f h (Num n ∷ vs) = ap (λ m. f (Num n) +ℤ m) (parts_of f h vs)
parts_of f h (Text t ∷ vs) = ap (λ m. f (Text t) +ℤ m) (parts_of f h vs)
parts_of f h (Day n ∷ vs) = ap (λ m. f (Day n) +ℤ m) (parts_of f h vs)
parts_of f h (Ratio a ∷ vs) = ap (λ m. f (Ratio a) +ℤ m) (parts_of f h vs)

abbrev both_lists : List Value → List Value → List (List Value)
both_lists vs ws = vs ∷ ws ∷ []

sum_both : (vs ws : List Value) → sum_value (vs ++ ws) ≡ sum_value (filter not_null (sum_value vs ∷ sum_value ws ∷ []))
sum_both vs ws = ap (λ xs. sum_value (vs ++ xs)) (sym (append-nil ws)) ∙ sym (sum_parts (λ xs. xs) (both_lists vs ws))

average_both : (vs ws : List Value) → avg_value (vs ++ ws) ≡ ratio_value (sum_by_part sum_part (avg_value vs ∷ avg_value ws ∷ [])) (sum_by_part count_part (avg_value vs ∷ avg_value ws ∷ []))
average_both vs ws =
    ap (λ xs. avg_value (vs ++ xs)) (sym (append-nil ws)) ∙ sym (average_parts (λ xs. xs) (both_lists vs ws))
    ∙ (λ i. ratio_value (parts_of sum_part refl (avg_value vs ∷ avg_value ws ∷ []) i) (parts_of count_part refl (avg_value vs ∷ avg_value ws ∷ []) i))

count_both : (m n k : ℕ) → k ≡ m + n → Num (pos k) ≡ counts_value (Num (pos m) ∷ Num (pos n) ∷ [])
count_both m n k e = let f : k ≡ m + (n + 0) = omega (arith, e) in ap (λ j. Num (pos j)) f

module _ {T : Type 0} (value : T → ColRef → Value) where
  agg_merged : (a : Agg) (us ws : List T) → agg_value value (us ++ ws) a ≡ both_sides a (agg_value value us a) (agg_value value ws a)
  agg_merged CountAll us ws = count_both (length us) (length ws) (length (us ++ ws)) (length-append us ws)
  agg_merged (Count e) us ws =
      ap count_value (values_of-append value e us ws)
      ∙ count_both (length (values_of value e us)) (length (values_of value e ws)) (length (values_of value e us ++ values_of value e ws)) (length-append (values_of value e us) (values_of value e ws))
  agg_merged (Sum e) us ws = ap sum_value (values_of-append value e us ws) ∙ sum_both (values_of value e us) (values_of value e ws)
  agg_merged (Avg e) us ws = ap avg_value (values_of-append value e us ws) ∙ average_both (values_of value e us) (values_of value e ws)
  agg_merged (Min e) us ws = ap min_value (values_of-append value e us ws) ∙ min-append (values_of value e us) (values_of value e ws)
  agg_merged (Max e) us ws = ap max_value (values_of-append value e us ws) ∙ max-append (values_of value e us) (values_of value e ws)

-- ---- groups of both

module _ {T : Type 0} (value : T → ColRef → Value) (row : Grouped T → List Value) (value' : List Value → ColRef → Value) (defs : List TableDef) (q v : StarQuery) (grouped : v.grouped ≡ true)
    (sourced : Each (λ a. Sourced value row value' defs q v (origin defs (linked q v) v a) a) (query_aggs q)) (ws : List T) where
  -- what each group has
  abbrev ServedHere : Grouped T → Type 0
  ServedHere = ServedAll value row value' defs q v

  aggs_are : (gs : List (Grouped T)) (rows : List (List Value)) (us xs : List T) → Each ServedHere gs → Stands row gs rows us
      → Each (λ a. both_sides a (plan_agg defs q v value' rows a) (agg_value value xs a) ≡ agg_value value (us ++ xs) a) (query_aggs q)
  aggs_are gs rows us xs served s =
      Each-map (λ a. plan_agg defs q v value' rows a ≡ agg_value value us a) (λ a. both_sides a (plan_agg defs q v value' rows a) (agg_value value xs a) ≡ agg_value value (us ++ xs) a)
      (λ a e. ap (λ x. both_sides a x (agg_value value xs a)) e ∙ sym (agg_merged value a us xs)) (query_aggs q)
      (aggs_by value row value' defs q v grouped gs rows us s (query_aggs q) sourced (Each-turn (λ g a. Served value row value' defs q v (origin defs (linked q v) v a) a g) gs (query_aggs q) served))

  tests_are : (k : List Value) (gs : List (Grouped T)) (rows : List (List Value)) (us xs : List T) → Each ServedHere gs → Stands row gs rows us
      → list_all (concat_test defs q v value' value (k, (rows, xs))) q.having ≡ list_all (test_true value (k, us ++ xs)) q.having
  tests_are k gs rows us xs served s =
      all_alike (concat_test defs q v value' value (k, (rows, xs))) (test_true value (k, us ++ xs)) q.having
      (Each-map (λ t. both_sides t.agg (plan_agg defs q v value' rows t.agg) (agg_value value xs t.agg) ≡ agg_value value (us ++ xs) t.agg) (λ t. concat_test defs q v value' value (k, (rows, xs)) t ≡ test_true value (k, us ++ xs) t)
      (λ t e. ap (λ x. is_true_that x t.op t.value) e) q.having
      (Each-of_mapped (λ a. both_sides a (plan_agg defs q v value' rows a) (agg_value value xs a) ≡ agg_value value (us ++ xs) a) (λ t. t.agg) q.having
      (Each-split (λ a. both_sides a (plan_agg defs q v value' rows a) (agg_value value xs a) ≡ agg_value value (us ++ xs) a) (selected_aggs q) (map (λ t. t.agg) q.having) (aggs_are gs rows us xs served s)).1))

  items_are : (k : List Value) (gs : List (Grouped T)) (rows : List (List Value)) (us xs : List T) → Each ServedHere gs → Stands row gs rows us
      → map (concat_item defs q v value' value (k, (rows, xs))) q.items ≡ map (group_item value q.keys (k, us ++ xs)) q.items
  items_are k gs rows us xs served s =
      map_alike (concat_item defs q v value' value (k, (rows, xs))) (group_item value q.keys (k, us ++ xs)) q.items
      (Each-map (λ i. Each (λ a. both_sides a (plan_agg defs q v value' rows a) (agg_value value xs a) ≡ agg_value value (us ++ xs) a) (item_aggs i)) (λ i. concat_item defs q v value' value (k, (rows, xs)) i ≡ group_item value q.keys (k, us ++ xs) i)
      one q.items
      (Each-parts (λ a. both_sides a (plan_agg defs q v value' rows a) (agg_value value xs a) ≡ agg_value value (us ++ xs) a) item_aggs q.items
      (Each-split (λ a. both_sides a (plan_agg defs q v value' rows a) (agg_value value xs a) ≡ agg_value value (us ++ xs) a) (selected_aggs q) (map (λ t. t.agg) q.having) (aggs_are gs rows us xs served s)).0))
    where
      one : (i : Item) → Each (λ a. both_sides a (plan_agg defs q v value' rows a) (agg_value value xs a) ≡ agg_value value (us ++ xs) a) (item_aggs i)
          → concat_item defs q v value' value (k, (rows, xs)) i ≡ group_item value q.keys (k, us ++ xs) i
      one (item.Col c) h = refl
      one (item.Agg a) h = h.0

  -- **the groups of rows and of other tuples together are those of all tuples**
  pub concat_answers : (keys : List ColRef) (gs : List (Grouped T)) (rows : List (List Value)) (us : List T) → Each ServedHere gs → Full keys gs → Reads value row value' keys gs → Stands row gs rows us
      → SameCounts (map (λ g. map (concat_item defs q v value' value g) q.items) (filter (λ g. list_all (concat_test defs q v value' value g) q.having) (concat_groups value' value keys rows ws)))
      (map (λ g. map (group_item value q.keys g) q.items) (filter (λ g. list_all (test_true value g) q.having) (groups value keys (us ++ ws))))
  concat_answers [] gs rows us served full reads s =
      SameCounts-is (map (λ g. map (concat_item defs q v value' value g) q.items) (filter (λ g. list_all (concat_test defs q v value' value g) q.having) (([], (rows, ws)) ∷ [])))
      (map (λ g. map (group_item value q.keys g) q.items) (filter (λ g. list_all (test_true value g) q.having) (([], us ++ ws) ∷ [])))
      ((λ i. map (λ g. map (concat_item defs q v value' value g) q.items) (cond (tests_are [] gs rows us ws served s i) (([], (rows, ws)) ∷ []) [])) ∙ by (list_all (test_true value ([], us ++ ws)) q.having))
    where
      by : (b : Bool) → map (λ g. map (concat_item defs q v value' value g) q.items) (cond b (([], (rows, ws)) ∷ []) []) ≡ map (λ g. map (group_item value q.keys g) q.items) (cond b (([], us ++ ws) ∷ []) [])
      by true = λ i. items_are [] gs rows us ws served s i ∷ []
      by false = refl
  concat_answers (c ∷ cs) gs rows us served full reads s =
      same_made (pieces_of value' value (c ∷ cs) rows ws) (made value (c ∷ cs) (us ++ ws)) (λ g. list_all (concat_test defs q v value' value g) q.having) (λ g. list_all (test_true value g) q.having)
      (λ g. map (concat_item defs q v value' value g) q.items) (λ g. map (group_item value q.keys g) q.items)
      (λ k. tests_are k (here k) (filter (λ r. same_values (key_of value' (c ∷ cs) r) k) rows) (filter (λ t. same_values (key_of value (c ∷ cs) t) k) us) (filter (λ t. same_values (key_of value (c ∷ cs) t) k) ws) (still k) (stands k)
      ∙ ap (λ xs. list_all (test_true value (k, xs)) q.having) (sym (filter-append (λ t. same_values (key_of value (c ∷ cs) t) k) us ws)))
      (λ k. items_are k (here k) (filter (λ r. same_values (key_of value' (c ∷ cs) r) k) rows) (filter (λ t. same_values (key_of value (c ∷ cs) t) k) us) (filter (λ t. same_values (key_of value (c ∷ cs) t) k) ws) (still k) (stands k)
      ∙ ap (λ xs. map (group_item value q.keys (k, xs)) q.items) (sym (filter-append (λ t. same_values (key_of value (c ∷ cs) t) k) us ws)))
      (distinct same_values (map (key_of value' (c ∷ cs)) rows ++ map (key_of value (c ∷ cs)) ws)) (distinct same_values (map (key_of value (c ∷ cs)) (us ++ ws)))
      (distinct_same same_values same_values-Decides (map (key_of value' (c ∷ cs)) rows ++ map (key_of value (c ∷ cs)) ws) (map (key_of value (c ∷ cs)) (us ++ ws))
      (λ k. list_any-append (same_values k) (map (key_of value' (c ∷ cs)) rows) (map (key_of value (c ∷ cs)) ws)
      ∙ ap (λ b. b || list_any (same_values k) (map (key_of value (c ∷ cs)) ws)) (Stands-has row (key_of value (c ∷ cs)) (key_of value' (c ∷ cs)) gs rows us full (keys_agree value row value' (c ∷ cs) gs reads) s k)
      ∙ sym (list_any-append (same_values k) (map (key_of value (c ∷ cs)) us) (map (key_of value (c ∷ cs)) ws))
      ∙ ap (list_any (same_values k)) (sym (map-append (key_of value (c ∷ cs)) us ws))))
    where
      here : List Value → List (Grouped T)
      here k = filter (λ g. same_values (key_of value' (c ∷ cs) (row g)) k) gs

      still : (k : List Value) → Each ServedHere (here k)
      still k = Each-filter ServedHere (λ g. same_values (key_of value' (c ∷ cs) (row g)) k) gs served

      stands : (k : List Value) → Stands row (here k) (filter (λ r. same_values (key_of value' (c ∷ cs) r) k) rows) (filter (λ t. same_values (key_of value (c ∷ cs) t) k) us)
      stands k = Stands-part row (key_of value (c ∷ cs)) (key_of value' (c ∷ cs)) k gs rows us (keys_agree value row value' (c ∷ cs) gs reads) s
