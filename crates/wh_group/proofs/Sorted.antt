-- What a sort leaves is the list in order.
use Rattle.std.proofs.Common.{◌≡◌, ◌∙◌, sym, ap, refl, arith, ◌+◌, suc, Bool, true, false, cond, List, [], ◌∷◌, map}
use Rattle.std.specs.Cmp.{IsStrictWeakOrder, IsTotalOrder}
use Rattle.std.specs.Fn.{Called, ComparesAs}
use Rattle.std.proofs.lemmas.Fn.{always_returns_same}
use denote.Param.Members.{Mut}
use denote.Ref.{Bor}
use Rattle.std.specs.List.{sum_by}
use Rattle.std.specs.List.Sorted.{IsPermutation, IsSorted, IsSortedBy}
use Rattle.std.specs.Ordering.{is_lt, ordering_reverse}
use Rattle.std.specs.declared.cmp.Ordering.{Ordering}
use Rattle.std.specs.declared.cmp.Ordering.TheVariants.{Less, Equal, Greater}
use Rattle.std.proofs.lemmas.Cmp.{on_total, then_total}
use Rattle.std.proofs.lemmas.List.Sorted.{ranks_by, sum_by-IsPermutation}
use Rattle.std.proofs.lemmas.List.Sums.{sum_by-cons}
use Rattle.std.proofs.lemmas.Map.Lookups.{CmpEqualImpliesEq}
use Rattle.wh_base.proofs.Sorting.{NoneBelow, Ascends, SameCounts, times, ascending_unique, sorted_ascends, sorted_counts, sorted_same}
use Rattle.wh_base.specs.Lists.{sorted_by}
use Rattle.wh_base.specs.Tables.{value_at}
use Rattle.wh_base.specs.Values.{value_cmp, values_cmp}
use Rattle.wh_base.specs.ValueLaws.{value_total, values_total, values_exact, second_equal}
use Rattle.wh_base.specs.declared.queries.OrderKey.{OrderKey}
use Rattle.wh_base.specs.declared.values.Value.{Value}
use Rattle.wh_base.specs.declared.views.ViewEntry.{ViewEntry}
use Rattle.def_meaning.specs.Meaning.{entry_cmp, order_cmp, row_cmp}
use Rattle.def_meaning.proofs.Entries.{entry_total, entry_exact}
use Rattle.wh_group.specs.Entries.{key_cmp}

module _ {A : Type 0} (cmp : A → A → Ordering) (order : IsTotalOrder cmp) where
  -- what isn't below y isn't below x, where y isn't below x
  still_not : (x y z : A) → is_lt (cmp y x) ≡ false → is_lt (cmp z y) ≡ false → is_lt (cmp z x) ≡ false
  still_not x y z h k = (ranks_by order (λ x. x)).chain z y x k h

  none_below_lower : (x y : A) (zs : List A) → is_lt (cmp y x) ≡ false → NoneBelow cmp y zs → NoneBelow cmp x zs
  none_below_lower x y [] h none = tt
  none_below_lower x y (z ∷ zs) h none = (still_not x y z h none.0, none_below_lower x y zs h none.1)

  sorted_tail : (x : A) (xs : List A) → IsSorted cmp (x ∷ xs) → IsSorted cmp xs
  sorted_tail x xs h = λ k d low high. let e : suc k + 1 ≡ suc (k + 1) = omega arith in rw e at (h (suc k) d (omega arith) (omega arith))

  sort_ascends : (xs : List A) → IsSorted cmp xs → Ascends cmp xs
  sort_ascends [] h = tt
  sort_ascends (x ∷ []) h = (tt, tt)
  sort_ascends (x ∷ y ∷ ys) h =
      let rest = sort_ascends (y ∷ ys) (sorted_tail x (y ∷ ys) h) in
      let first : is_lt (cmp y x) ≡ false = h 0 x (omega arith) (omega arith) in
      ((first, none_below_lower x y ys first rest.0), rest)

-- what a sort by a closure leaves, where each call of it compares by the order
module _ {A : Type 0} (cmp : A → A → Ordering) (order : IsTotalOrder cmp) where
  by_closure : {F : Type 0} {g : Mut F (Bor A × (Bor A × Unit {0})) Ordering} {f : F} (xs : List A)
      → ((lt : A → A → Bool) → IsStrictWeakOrder lt → ComparesAs g lt f → IsSortedBy lt xs)
      → ((a : Bor A × (Bor A × Unit {0})) (r : Ordering) (f' : F) → Called g f a r f' → (r ≡ cmp a.0.now a.1.0.now) × (f' ≡ f)) → IsSorted cmp xs
  by_closure {g = g} {f = f} xs up h =
      up (λ x y. is_lt (cmp x y)) (ranks_by order (λ x. x))
      (always_returns_same g (λ a r. is_lt r ≡ is_lt (cmp a.0.now a.1.0.now)) f (λ a r f' k. (ap is_lt (h a r f' k).0, (h a r f' k).1)))

pub entries_by : {F : Type 0} {g : Mut F (Bor ViewEntry × (Bor ViewEntry × Unit {0})) Ordering} {f : F} (xs : List ViewEntry)
    → ((lt : ViewEntry → ViewEntry → Bool) → IsStrictWeakOrder lt → ComparesAs g lt f → IsSortedBy lt xs)
    → ((a : Bor ViewEntry × (Bor ViewEntry × Unit {0})) (r : Ordering) (f' : F) → Called g f a r f' → (r ≡ entry_cmp a.0.now a.1.0.now) × (f' ≡ f)) → IsSorted entry_cmp xs
entries_by = by_closure entry_cmp entry_total

times_is : {A : Type 0} (p : A → Bool) (xs : List A) → times p xs ≡ sum_by (λ x. cond (p x) 1 0) xs
times_is p [] = refl
times_is p (x ∷ xs) = ap (λ n. cond (p x) 1 0 + n) (times_is p xs) ∙ sym (sum_by-cons (λ x. cond (p x) 1 0) x xs)

permuted_counts : {A : Type 0} (xs ys : List A) → IsPermutation xs ys → SameCounts ys xs
permuted_counts xs ys h p = times_is p ys ∙ sum_by-IsPermutation (λ x. cond (p x) 1 0) xs ys h ∙ sym (times_is p xs)

-- what a sort leaves of the items is the items in order
sorted_is : {A : Type 0} (cmp : A → A → Ordering) → IsTotalOrder cmp → CmpEqualImpliesEq cmp → (xs ys : List A) → IsSorted cmp ys → IsPermutation xs ys → ys ≡ sorted_by cmp xs
sorted_is cmp order exact xs ys sorted permuted =
    ascending_unique cmp order exact ys (sorted_by cmp xs) (sort_ascends cmp order ys sorted) (sorted_ascends cmp order xs)
    (λ p. permuted_counts xs ys permuted p ∙ sym (sorted_counts cmp xs p))

pub entries_sorted : (xs ys : List ViewEntry) → IsSorted entry_cmp ys → IsPermutation xs ys → ys ≡ sorted_by entry_cmp xs
entries_sorted = sorted_is entry_cmp entry_total entry_exact

-- ---- the order of an answer

equal_total : {A : Type 0} → IsTotalOrder {K = A} (λ a b. Equal)
equal_total = record { antisymm = λ x y. refl; trans = λ x y z h k. h; congr = λ x y z h. refl }

reversed_total : {A : Type 0} (cmp : A → A → Ordering) → IsTotalOrder cmp → IsTotalOrder (λ a b. ordering_reverse (cmp a b))
reversed_total {A = A} cmp order = record {
  antisymm = λ x y. ap ordering_reverse (order.antisymm x y);
  trans = λ x y z h k. ap ordering_reverse (order.antisymm x z) ∙ twice (cmp z x) ∙ order.trans z y x (turned z y k) (turned y x h);
  congr = λ x y z h. ap ordering_reverse (order.congr x y z (equal (cmp x y) h));
}
  where
    twice : (o : Ordering) → ordering_reverse (ordering_reverse o) ≡ o
    twice Less = refl
    twice Equal = refl
    twice Greater = refl

    equal : (o : Ordering) → ordering_reverse o ≡ Equal → o ≡ Equal
    equal Less h = cc
    equal Equal h = refl
    equal Greater h = cc

    turned : (x y : A) → ordering_reverse (cmp y x) ≡ Less → cmp x y ≡ Less
    turned x y h = order.antisymm x y ∙ h

key_total : (k : OrderKey) → IsTotalOrder (key_cmp k)
key_total k = by k.descending
  where
    up : IsTotalOrder (λ (a b : List Value). value_cmp (value_at a k.item) (value_at b k.item))
    up = on_total (λ a. value_at a k.item) value_total

    by : (b : Bool) → IsTotalOrder (λ (x y : List Value). cond b (ordering_reverse (value_cmp (value_at x k.item) (value_at y k.item))) (value_cmp (value_at x k.item) (value_at y k.item)))
    by true = reversed_total (λ x y. value_cmp (value_at x k.item) (value_at y k.item)) up
    by false = up

order_total : (ks : List OrderKey) → IsTotalOrder (order_cmp ks)
order_total [] = equal_total
order_total (k ∷ ks) = then_total (key_total k) (order_total ks)

pub row_total : (ks : List OrderKey) → IsTotalOrder (row_cmp ks)
row_total ks = then_total (order_total ks) values_total

row_exact : (ks : List OrderKey) → CmpEqualImpliesEq (row_cmp ks)
row_exact ks a b h = values_exact a b (second_equal (order_cmp ks a b) (values_cmp a b) h)

pub rows_by : (ks : List OrderKey) {F : Type 0} {g : Mut F (Bor (List Value) × (Bor (List Value) × Unit {0})) Ordering} {f : F} (xs : List (List Value))
    → ((lt : List Value → List Value → Bool) → IsStrictWeakOrder lt → ComparesAs g lt f → IsSortedBy lt xs)
    → ((a : Bor (List Value) × (Bor (List Value) × Unit {0})) (r : Ordering) (f' : F) → Called g f a r f' → (r ≡ row_cmp ks a.0.now a.1.0.now) × (f' ≡ f)) → IsSorted (row_cmp ks) xs
rows_by ks = by_closure (row_cmp ks) (row_total ks)

pub rows_sorted : (ks : List OrderKey) (xs ys : List (List Value)) → IsSorted (row_cmp ks) ys → IsPermutation xs ys → ys ≡ sorted_by (row_cmp ks) xs
rows_sorted ks = sorted_is (row_cmp ks) (row_total ks) (row_exact ks)

-- an answer's order doesn't depend on that of the entries
mapped_counts : {A B : Type 0} (f : A → B) (p : B → Bool) (xs : List A) → times p (map f xs) ≡ times (λ x. p (f x)) xs
mapped_counts f p [] = refl
mapped_counts f p (x ∷ xs) = ap (λ n. cond (p (f x)) 1 0 + n) (mapped_counts f p xs)

pub rows_of_sorted : (ks : List OrderKey) (es : List ViewEntry) → sorted_by (row_cmp ks) (map (λ e. e.row) es) ≡ sorted_by (row_cmp ks) (map (λ e. e.row) (sorted_by entry_cmp es))
rows_of_sorted ks es =
    sorted_same (row_cmp ks) (row_total ks) (row_exact ks) (map (λ e. e.row) es) (map (λ e. e.row) (sorted_by entry_cmp es))
    (λ p. mapped_counts (λ e. e.row) p es ∙ sym (sorted_counts entry_cmp es (λ e. p e.row)) ∙ sym (mapped_counts (λ e. e.row) p (sorted_by entry_cmp es)))

pub ruleset entry_orders = (entries_sorted)

pub ruleset row_orders = (rows_sorted)
