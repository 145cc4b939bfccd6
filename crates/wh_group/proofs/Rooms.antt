-- What is kept of fewer than 2^20 tuples with small numbers has room for one more.
use Rattle.std.proofs.Common.{subst, refl, arith, ℕ, ◌+◌, ◌*◌, ◌^◌, ◌<◌, ◌≤◌, Bool, true, false, ◌&&◌, cond, List, [], ◌∷◌, length, map, suc, IsTrue}
use Rattle.std.specs.Prelude.{ℤ, ◌+ℤ◌, nat_abs}
use Rattle.std.specs.List.{filter, list_all, All}
use Rattle.std.proofs.lemmas.Bool.Decides.{nat_tests}
use Rattle.std.proofs.lemmas.Int.{ints, unsigned_abs-mul}
use Rattle.std.proofs.Math.Nat.{mul-le-mul}
use Rattle.std.proofs.lemmas.List.{length-map}
use Rattle.std.proofs.lemmas.List.Elements.{All-nil, All-cons, All-head, All-tail, All-filter, All-weaker}
use Rattle.std.proofs.lemmas.List.Sums.{AllPass-from_list_all}
use Rattle.wh_base.specs.Lists.{distinct}
use Rattle.wh_base.specs.Values.{is_small, product_value, same_values}
use Rattle.wh_base.specs.declared.columns.Agg.{Agg}
use Rattle.wh_base.specs.declared.columns.Agg.TheVariants.{Avg, Count, CountAll, Max, Min, Sum}
use Rattle.wh_base.specs.declared.columns.ColRef.{ColRef}
use Rattle.wh_base.specs.declared.columns.Expr.{Expr}
use Rattle.wh_base.specs.declared.columns.Expr.TheVariants as expr
use Rattle.wh_base.specs.declared.tables.RowAt.{RowAt}
use Rattle.wh_base.specs.declared.values.Value.{Value}
use Rattle.wh_base.specs.declared.values.Value.TheVariants.{Num}
use Rattle.def_meaning.specs.Accumulated.{acc_of}
use Rattle.def_meaning.specs.Joined.{column_value}
use Rattle.def_meaning.specs.Meaning.{expr_value, groups, key_of, not_null, number_of, total_of, values_of}
use Rattle.wh_tuple.specs.Meant.{IsSmallTuple, is_small_expr, is_small_row}
use Rattle.wh_tuple.proofs.Small.{small_column}
use Rattle.wh_group.specs.Tallies.{AreSmallTuples, HasRoom, HaveRoom, IsBounded, begun, counted, is_small_agg, kept, tally_by}
use Rattle.wh_group.proofs.Kept.{all_none}
use Rattle.wh_group.proofs.Keys.{Key}

-- ---- numbers

number_small : (v : Value) → IsTrue (is_small v) → nat_abs (number_of v) < 10 ^ 15
number_small (Num n) h = grind (arith, nat_tests)
number_small v h = omega arith

small_bounded : (v : Value) → IsTrue (is_small v) → IsBounded v
small_bounded v h = omega (arith, number_small v h)

product_bounded : (v w : Value) → IsTrue (is_small v) → IsTrue (is_small w) → IsBounded (product_value v w)
product_bounded (Num m) (Num n) h k =
    let below : nat_abs m ≤ 10 ^ 15 = omega (arith, number_small (Num m) h) in
    let below_too : nat_abs n ≤ 10 ^ 15 = omega (arith, number_small (Num n) k) in
    omega (arith, unsigned_abs-mul m n, mul-le-mul below below_too)
product_bounded v w h k = omega arith

expr_bounded : (tables : List ℕ) (tuple : List RowAt) (e : Expr) → IsSmallTuple tuple → IsTrue (is_small_expr e) → IsBounded (expr_value (column_value tables tuple) e)
expr_bounded tables tuple (expr.Col c) h k = small_bounded (column_value tables tuple c) (small_column tables tuple c h)
expr_bounded tables tuple (expr.Product a b) h k = product_bounded (column_value tables tuple a) (column_value tables tuple b) (small_column tables tuple a h) (small_column tables tuple b h)
expr_bounded tables tuple (expr.Lit n) h k = small_bounded (Num n) k

pub counted_bounded : (tables : List ℕ) (tuple : List RowAt) (a : Agg) → IsSmallTuple tuple → IsTrue (is_small_agg a) → IsBounded (counted (column_value tables tuple) a)
counted_bounded tables tuple CountAll h k = omega arith
counted_bounded tables tuple (Count e) h k = expr_bounded tables tuple e h k
counted_bounded tables tuple (Sum e) h k = expr_bounded tables tuple e h k
counted_bounded tables tuple (Avg e) h k = expr_bounded tables tuple e h k
counted_bounded tables tuple (Min e) h k = expr_bounded tables tuple e h k
counted_bounded tables tuple (Max e) h k = expr_bounded tables tuple e h k

pub ruleset bounds = (counted_bounded)

-- ---- sums

sum_of_sizes : (a b : ℤ) → nat_abs (a +ℤ b) ≤ nat_abs a + nat_abs b
sum_of_sizes a b = omega (arith, ints)

total_within : (vs : List Value) → All IsBounded vs → nat_abs (total_of vs) ≤ length vs * 10 ^ 30
total_within [] h = omega arith
total_within (v ∷ vs) h = omega (arith, sum_of_sizes (number_of v) (total_of vs), All-head IsBounded v vs h, total_within vs (All-tail IsBounded v vs h))

fewer : {A : Type 0} (test : A → Bool) (xs : List A) → length (filter test xs) ≤ length xs
fewer test [] = omega arith
fewer test (x ∷ xs) = by (test x) (fewer test xs)
  where
    by : (b : Bool) → length (filter test xs) ≤ length xs → length (cond b (x ∷ filter test xs) (filter test xs)) ≤ suc (length xs)
    by true h = omega arith
    by false h = omega arith

module _ {T : Type 0} (value : T → ColRef → Value) where
  values_bounded : (e : Expr) (ts : List T) → All (λ t. IsBounded (expr_value (value t) e)) ts → All IsBounded (map (λ t. expr_value (value t) e) ts)
  values_bounded e [] h = All-nil IsBounded
  values_bounded e (t ∷ ts) h =
      All-cons IsBounded (expr_value (value t) e) (map (λ t. expr_value (value t) e) ts)
      (All-head (λ t. IsBounded (expr_value (value t) e)) t ts h) (values_bounded e ts (All-tail (λ t. IsBounded (expr_value (value t) e)) t ts h))

  count_within : (e : Expr) (ts : List T) → length ts < 2 ^ 20 → length (values_of value e ts) < 2 ^ 20
  count_within e ts few = omega (arith, fewer not_null (map (λ t. expr_value (value t) e) ts), length-map {A = T} {B = Value} ts (λ t. expr_value (value t) e))

  sum_within : (e : Expr) (ts : List T) → All (λ t. IsBounded (expr_value (value t) e)) ts → nat_abs (total_of (values_of value e ts)) ≤ length (values_of value e ts) * 10 ^ 30
  sum_within e ts h = total_within (values_of value e ts) (All-filter not_null IsBounded (map (λ t. expr_value (value t) e) ts) (values_bounded e ts h))

  tally_room : (ts : List T) (a : Agg) → All (λ t. IsBounded (counted (value t) a)) ts → length ts < 2 ^ 20 → HasRoom (tally_by a (acc_of value ts a))
  tally_room ts CountAll h few = few
  tally_room ts (Count e) h few = count_within e ts few
  tally_room ts (Sum e) h few = (count_within e ts few, sum_within e ts h)
  tally_room ts (Avg e) h few = (count_within e ts few, sum_within e ts h)
  tally_room ts (Min e) h few = tt
  tally_room ts (Max e) h few = tt

-- ---- groups of tuples

pub each_small : (ts : List (List RowAt)) → AreSmallTuples ts → All IsSmallTuple ts
each_small ts h = AllPass-from_list_all (list_all is_small_row) ts h

both : (x y : Bool) → IsTrue (x && y) → IsTrue x × IsTrue y
both true y h = (refl, h)
both false y h = cc

module _ (tables : List ℕ) where
  abbrev value : List RowAt → ColRef → Value
  value = column_value tables

  tallies_room : (ts : List (List RowAt)) (aggs : List Agg) → All IsSmallTuple ts → IsTrue (list_all is_small_agg aggs) → length ts < 2 ^ 20 → All HasRoom (map (λ a. tally_by a (acc_of value ts a)) aggs)
  tallies_room ts [] small aggs_small few = All-nil HasRoom
  tallies_room ts (a ∷ more) small aggs_small few =
      let parts = both (is_small_agg a) (list_all is_small_agg more) aggs_small in
      All-cons HasRoom (tally_by a (acc_of value ts a)) (map (λ a. tally_by a (acc_of value ts a)) more)
      (tally_room value ts a (All-weaker IsSmallTuple (λ t. IsBounded (counted (value t) a)) (λ t h. counted_bounded tables t a h parts.0) ts small) few)
      (tallies_room ts more small parts.1 few)

  module _ (aggs : List Agg) (aggs_small : IsTrue (list_all is_small_agg aggs)) where
    by_key_room : (key : List RowAt → Key) (ts : List (List RowAt)) (ks : List Key) → All IsSmallTuple ts → length ts < 2 ^ 20 → HaveRoom (map (kept value aggs) (map (λ k. (k, filter (λ t. same_values (key t) k) ts)) ks))
    by_key_room key ts [] small few = All-nil (λ g. All HasRoom g.1)
    by_key_room key ts (k ∷ ks) small few =
        let mine = filter (λ t. same_values (key t) k) ts in
        All-cons (λ g. All HasRoom g.1) (kept value aggs (k, mine)) (map (kept value aggs) (map (λ k. (k, filter (λ t. same_values (key t) k) ts)) ks))
        (tallies_room mine aggs (All-filter (λ t. same_values (key t) k) IsSmallTuple ts small) aggs_small (omega (arith, fewer (λ t. same_values (key t) k) ts)))
        (by_key_room key ts ks small few)

    pub groups_room : (keys : List ColRef) (ts : List (List RowAt)) → All IsSmallTuple ts → length ts < 2 ^ 20 → HaveRoom (map (kept value aggs) (groups value keys ts))
    groups_room [] ts small few = All-cons (λ g. All HasRoom g.1) (kept value aggs ([], ts)) [] (tallies_room ts aggs small aggs_small few) (All-nil (λ g. All HasRoom g.1))
    groups_room (c ∷ cs) ts small few = by_key_room (key_of value (c ∷ cs)) ts (distinct same_values (map (key_of value (c ∷ cs)) ts)) small few

    -- before the first one
    pub begun_room : All HasRoom (begun aggs)
    begun_room = subst (All HasRoom) (all_none value aggs) (tallies_room [] aggs (All-nil IsSmallTuple) aggs_small (omega arith))
