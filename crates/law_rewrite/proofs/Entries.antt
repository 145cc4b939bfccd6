-- The entries of tuples depend on which tuples there are, and on the columns that are read of them.
use Rattle.std.proofs.Common.{◌≡◌, ◌∙◌, ap, refl, Bool, true, false, cond, List, [], ◌∷◌, map}
use Rattle.std.specs.List.{filter, list_all}
use Rattle.wh_base.specs.Lists.{distinct}
use Rattle.wh_base.specs.Values.{is_true_that, same_values}
use Rattle.wh_base.proofs.Same.{same_values-Decides}
use Rattle.wh_base.proofs.Sorting.{SameCounts}
use Rattle.wh_base.specs.declared.values.Value.{Value}
use Rattle.wh_base.specs.declared.columns.ColRef.{ColRef}
use Rattle.wh_base.specs.declared.queries.Item.{Item}
use Rattle.wh_base.specs.declared.queries.Item.TheVariants as item
use Rattle.wh_base.specs.declared.queries.StarQuery.{StarQuery}
use Rattle.def_meaning.specs.Meaning.{entries, group_entry, group_item, grouped_entries, groups, key_of, plain_entries, plain_item, test_true}
use Rattle.law_lists.proofs.Each.{map_alike, Each-of}
use Rattle.law_lists.proofs.Counts.{SameCounts-filter, SameCounts-is, SameCounts-map, distinct_same, list_any_same}
use Rattle.law_lists.proofs.Groups.{same_made}
use Rattle.law_lists.proofs.Aggregates.{agg_same}
use Rattle.law_rewrite.proofs.Answering.{all_alike, made}

module _ {T : Type 0} (value : T → ColRef → Value) where
  module _ (q : StarQuery) where
    item_same : (k : List Value) (ts us : List T) → SameCounts ts us → (i : Item) → group_item value q.keys (k, ts) i ≡ group_item value q.keys (k, us) i
    item_same k ts us h (item.Col c) = refl
    item_same k ts us h (item.Agg a) = agg_same value a ts us h

    entry_same : (k : List Value) (ts us : List T) → SameCounts ts us → group_entry value q (k, ts) ≡ group_entry value q (k, us)
    entry_same k ts us h = λ i. record { key = k; row = map_alike (group_item value q.keys (k, ts)) (group_item value q.keys (k, us)) q.items (Each-of (λ j. group_item value q.keys (k, ts) j ≡ group_item value q.keys (k, us) j) (item_same k ts us h) q.items) i }

    tests_same : (k : List Value) (ts us : List T) → SameCounts ts us → list_all (test_true value (k, ts)) q.having ≡ list_all (test_true value (k, us)) q.having
    tests_same k ts us h =
        all_alike (test_true value (k, ts)) (test_true value (k, us)) q.having
        (Each-of (λ t. test_true value (k, ts) t ≡ test_true value (k, us) t) (λ t. ap (λ x. is_true_that x t.op t.value) (agg_same value t.agg ts us h)) q.having)

    by_keys : (keys : List ColRef) (ts us : List T) → SameCounts ts us
        → SameCounts (map (group_entry value q) (filter (λ g. list_all (test_true value g) q.having) (groups value keys ts))) (map (group_entry value q) (filter (λ g. list_all (test_true value g) q.having) (groups value keys us)))
    by_keys [] ts us h =
        SameCounts-is (map (group_entry value q) (filter (λ g. list_all (test_true value g) q.having) (([], ts) ∷ []))) (map (group_entry value q) (filter (λ g. list_all (test_true value g) q.having) (([], us) ∷ [])))
        ((λ i. map (group_entry value q) (cond (tests_same [] ts us h i) (([], ts) ∷ []) [])) ∙ by (list_all (test_true value ([], us)) q.having))
      where
        by : (b : Bool) → map (group_entry value q) (cond b (([], ts) ∷ []) []) ≡ map (group_entry value q) (cond b (([], us) ∷ []) [])
        by true = λ i. entry_same [] ts us h i ∷ []
        by false = refl
    by_keys (c ∷ cs) ts us h =
        same_made (made value (c ∷ cs) ts) (made value (c ∷ cs) us) (λ g. list_all (test_true value g) q.having) (λ g. list_all (test_true value g) q.having) (group_entry value q) (group_entry value q)
        (λ k. tests_same k (made value (c ∷ cs) ts k).1 (made value (c ∷ cs) us k).1 (SameCounts-filter (λ t. same_values (key_of value (c ∷ cs) t) k) ts us h))
        (λ k. entry_same k (made value (c ∷ cs) ts k).1 (made value (c ∷ cs) us k).1 (SameCounts-filter (λ t. same_values (key_of value (c ∷ cs) t) k) ts us h))
        (distinct same_values (map (key_of value (c ∷ cs)) ts)) (distinct same_values (map (key_of value (c ∷ cs)) us))
        (distinct_same same_values same_values-Decides (map (key_of value (c ∷ cs)) ts) (map (key_of value (c ∷ cs)) us)
        (λ k. list_any_same (same_values k) (map (key_of value (c ∷ cs)) ts) (map (key_of value (c ∷ cs)) us) (SameCounts-map (key_of value (c ∷ cs)) ts us h)))

    -- **the same tuples, in whatever order, give the same entries**
    pub entries_same : (ts us : List T) → SameCounts ts us → SameCounts (entries value q ts) (entries value q us)
    entries_same ts us h = by q.grouped
      where
        by : (b : Bool) → SameCounts (cond b (grouped_entries value q ts) (plain_entries value q ts)) (cond b (grouped_entries value q us) (plain_entries value q us))
        by true = by_keys q.keys ts us h
        by false = SameCounts-map (λ t. record { key = []; row = map (plain_item (value t)) q.items }) ts us h
