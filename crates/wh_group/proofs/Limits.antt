-- Which numbers are small.
use Rattle.std.proofs.Common.{◌≡◌, ◌∙◌, sym, ap, refl, ◌&&◌, List, [], ◌∷◌, map}
use Rattle.std.specs.Prelude.{flat_map}
use Rattle.std.specs.List.{list_all}
use Rattle.std.proofs.lemmas.List.Folds.{list_all-append}
use Rattle.wh_base.specs.declared.queries.Item.{Item}
use Rattle.wh_base.specs.declared.queries.Item.TheVariants as item
use Rattle.wh_base.specs.declared.queries.StarQuery.{StarQuery}
use Rattle.wh_base.specs.declared.queries.Test.{Test}
use Rattle.def_meaning.specs.Accumulated.{item_aggs, query_aggs}
use Rattle.wh_group.specs.Tallies.{is_small_agg, small_item}

items_small : (is : List Item) → list_all small_item is ≡ list_all is_small_agg (flat_map item_aggs is)
items_small [] = refl
items_small (item.Col c ∷ more) = items_small more
items_small (item.Agg a ∷ more) = ap (λ b. is_small_agg a && b) (items_small more)

tests_small : (ts : List Test) → list_all (λ t. is_small_agg t.agg) ts ≡ list_all is_small_agg (map (λ t. t.agg) ts)
tests_small [] = refl
tests_small (t ∷ more) = ap (λ b. is_small_agg t.agg && b) (tests_small more)

pub small-query : (q : StarQuery) → list_all is_small_agg (query_aggs q) ≡ (list_all small_item q.items && list_all (λ t. is_small_agg t.agg) q.having)
small-query q =
    list_all-append is_small_agg (flat_map item_aggs q.items) (map (λ t. t.agg) q.having)
    ∙ (λ i. sym (items_small q.items) i && sym (tests_small q.having) i)

pub ruleset queries = (small-query)
