-- A list that ascends, with items that tie in a given order, is determined; so a stable sort leaves the list in order, and a list
-- in order stays so without some of its items.
use Rattle.std.proofs.Common.{◌≡◌, ◌∙◌, sym, ap, refl, arith, suc, ◌+◌, Bool, true, false, cond, not, List, [], ◌∷◌, ◌++◌, append_assoc}
use Rattle.std.proofs.Math.Bool.{and_comm}
use Rattle.std.specs.Cmp.{IsTotalOrder}
use Rattle.std.specs.List.{filter}
use Rattle.std.specs.List.Sorted.{IsSorted, IsStable, ties}
use Rattle.std.specs.Ordering.{is_lt, ordering_reverse}
use Rattle.std.specs.Prelude.{◌&&◌}
use Rattle.std.specs.declared.cmp.Ordering.{Ordering}
use Rattle.std.specs.declared.cmp.Ordering.TheVariants.{Less, Equal, Greater}
use Rattle.std.proofs.lemmas.List.MinMax.{ranks_by}
use Rattle.wh_base.proofs.Sorting.{Ascends, NoneBelow, sorted_ascends}
use Rattle.wh_base.specs.Lists.{put_in_order, sort_onto, sorted_by}
use Rattle.law_lists.proofs.Lists.{filter-filter}

-- ---- filters

pub filter-swap : {A : Type 0} (p q : A → Bool) (xs : List A) → filter p (filter q xs) ≡ filter q (filter p xs)
filter-swap p q xs = filter-filter p q xs ∙ (λ i. filter (λ x. and_comm (q x) (p x) i) xs) ∙ sym (filter-filter q p xs)

module _ {A : Type 0} (cmp : A → A → Ordering) (order : IsTotalOrder cmp) where
  abbrev below : A → A → Bool
  below x y = is_lt (cmp x y)

  -- neither of the two comes before the other
  abbrev tie : A → A → Bool
  tie x y = ties below x y

  is_less : (o : Ordering) → is_lt o ≡ true → o ≡ Less
  is_less Less h = refl
  is_less Equal h = cc
  is_less Greater h = cc

  not_after : (x y : A) → below x y ≡ true → below y x ≡ false
  not_after x y h = rw (order.antisymm y x, is_less (cmp x y) h)

  still_not : (x y z : A) → below y x ≡ false → below z y ≡ false → below z x ≡ false
  still_not x y z h k = (ranks_by order (λ x. x)).chain z y x k h

  none_below_lower : (x y : A) (zs : List A) → below y x ≡ false → NoneBelow cmp y zs → NoneBelow cmp x zs
  none_below_lower x y [] h none = tt
  none_below_lower x y (z ∷ zs) h none = (still_not x y z h none.0, none_below_lower x y zs h none.1)

  not_below_itself : (y : A) → below y y ≡ false
  not_below_itself y = by (cmp y y) (order.antisymm y y)
    where
      by : (o : Ordering) → o ≡ ordering_reverse o → is_lt o ≡ false
      by Less e = cc
      by Equal e = refl
      by Greater e = refl

  tie-itself : (y : A) → tie y y ≡ true
  tie-itself y = rw (not_below_itself y) refl

  -- what isn't below y, which is above x, doesn't tie with x
  above-no_tie : (x y z : A) → below x y ≡ true → below z y ≡ false → tie x z ≡ false
  above-no_tie x y z h k = by (below x z) refl
    where
      by : (b : Bool) → below x z ≡ b → (not b && not (below z x)) ≡ false
      by true e = refl
      by false e = let said : below x y ≡ false = (ranks_by order (λ w. w)).chain x z y e k in cc

  above-filter : (x y : A) (zs : List A) → below x y ≡ true → NoneBelow cmp y zs → filter (tie x) zs ≡ []
  above-filter x y [] h none = refl
  above-filter x y (z ∷ zs) h none = rw (above-no_tie x y z h none.0) (above-filter x y zs h none.1)

  -- ---- a list is determined

  cons_left : (x y : A) (xs ys : List A) → x ∷ xs ≡ y ∷ ys → x ≡ y
  cons_left x y xs ys e = cc

  cons_right : (x y : A) (xs ys : List A) → x ∷ xs ≡ y ∷ ys → xs ≡ ys
  cons_right x y xs ys e = cc

  without : (b : Bool) (x : A) (xs ys : List A) → cond b (x ∷ xs) xs ≡ cond b (x ∷ ys) ys → xs ≡ ys
  without true x xs ys e = cons_right x x xs ys e
  without false x xs ys e = e

  -- the first of one list isn't below that of another with the same ties
  first_not_below : (x y : A) (xs ys : List A) → NoneBelow cmp y ys → filter (tie x) (x ∷ xs) ≡ filter (tie x) (y ∷ ys) → below x y ≡ true → ⊥
  first_not_below x y xs ys none same h =
      let left : filter (tie x) (x ∷ xs) ≡ x ∷ filter (tie x) xs = rw (tie-itself x) refl in
      let right : filter (tie x) (y ∷ ys) ≡ [] = above-filter x y (y ∷ ys) h (not_below_itself y, none) in
      let e : x ∷ filter (tie x) xs ≡ [] = sym left ∙ same ∙ right in
      cc

  pub ascending-determined : (xs ys : List A) → Ascends cmp xs → Ascends cmp ys → ((x : A) → filter (tie x) xs ≡ filter (tie x) ys) → xs ≡ ys
  ascending-determined [] [] up_x up_y same = refl
  ascending-determined [] (y ∷ ys) up_x up_y same = let e : filter (tie y) (y ∷ ys) ≡ y ∷ filter (tie y) ys = rw (tie-itself y) refl in let d : [] ≡ y ∷ filter (tie y) ys = same y ∙ e in cc
  ascending-determined (x ∷ xs) [] up_x up_y same = let e : filter (tie x) (x ∷ xs) ≡ x ∷ filter (tie x) xs = rw (tie-itself x) refl in let d : x ∷ filter (tie x) xs ≡ [] = sym e ∙ same x in cc
  ascending-determined (x ∷ xs) (y ∷ ys) up_x up_y same =
      let first : x ≡ y = by (below x y) (below y x) refl refl in
      let rest : (z : A) → filter (tie z) xs ≡ filter (tie z) ys =
      λ z. without (tie z x) x (filter (tie z) xs) (filter (tie z) ys) (same z ∙ ap (λ w. cond (tie z w) (w ∷ filter (tie z) ys) (filter (tie z) ys)) (sym first)) in
      let tails : xs ≡ ys = ascending-determined xs ys up_x.1 up_y.1 rest in
      λ i. first i ∷ tails i
    where
      tied : below x y ≡ false → below y x ≡ false → x ≡ y
      tied e f =
          let left : filter (tie x) (x ∷ xs) ≡ x ∷ filter (tie x) xs = rw (tie-itself x) refl in
          let ties : tie x y ≡ true = λ i. not (e i) && not (f i) in
          let right : filter (tie x) (y ∷ ys) ≡ y ∷ filter (tie x) ys = ap (λ b. cond b (y ∷ filter (tie x) ys) (filter (tie x) ys)) ties in
          cons_left x y (filter (tie x) xs) (filter (tie x) ys) (sym left ∙ same x ∙ right)

      by : (b c : Bool) → below x y ≡ b → below y x ≡ c → x ≡ y
      by true c e f = absurd (first_not_below x y xs ys up_y.0 (same x) e)
      by false true e f = absurd (first_not_below y x ys xs up_x.0 (sym (same y)) f)
      by false false e f = tied e f

  -- ---- a list in order is stable

  nothing_after : (xs : List A) → xs ++ [] ≡ xs
  nothing_after [] = refl
  nothing_after (x ∷ xs) = ap (λ ys. x ∷ ys) (nothing_after xs)

  -- what ties with x ties with what x ties with
  tie-turns : (w x : A) → tie w x ≡ true → (z : A) → below x z ≡ true → below w z ≡ true
  tie-turns w x h z k = by (below w z) refl
    where
      half : (a b : Bool) → (not a && not b) ≡ true → b ≡ false
      half a false e = refl
      half true true e = cc
      half false true e = cc

      by : (b : Bool) → below w z ≡ b → b ≡ true
      by true e = refl
      by false e = let said : below x z ≡ false = (ranks_by order (λ v. v)).chain x w z (half (below w x) (below x w) h) e in cc

  put-ties : (w x : A) (ys : List A) → Ascends cmp ys → filter (tie w) (put_in_order cmp x ys) ≡ filter (tie w) ys ++ cond (tie w x) (x ∷ []) []
  put-ties w x [] up = refl
  put-ties w x (y ∷ ys) up = by (below x y) refl (put-ties w x ys up.1)
    where
      -- x comes before y, so that what ties with x isn't among these
      first : below x y ≡ true → (b : Bool) → tie w x ≡ b → cond b (x ∷ filter (tie w) (y ∷ ys)) (filter (tie w) (y ∷ ys)) ≡ filter (tie w) (y ∷ ys) ++ cond b (x ∷ []) []
      first e false f = sym (nothing_after (filter (tie w) (y ∷ ys)))
      first e true f =
          let none : filter (tie w) (y ∷ ys) ≡ [] = above-filter w y (y ∷ ys) (tie-turns w x f y e) (not_below_itself y, up.0) in
          ap (λ zs. x ∷ zs) none ∙ sym (ap (λ zs. zs ++ x ∷ []) none)

      later : (b : Bool) (zs us vs : List A) → zs ≡ us ++ vs → cond b (y ∷ zs) zs ≡ cond b (y ∷ us) us ++ vs
      later true zs us vs e = ap (λ ts. y ∷ ts) e
      later false zs us vs e = e

      by : (b : Bool) → below x y ≡ b → filter (tie w) (put_in_order cmp x ys) ≡ filter (tie w) ys ++ cond (tie w x) (x ∷ []) [] → filter (tie w) (cond b (x ∷ y ∷ ys) (y ∷ put_in_order cmp x ys)) ≡ filter (tie w) (y ∷ ys) ++ cond (tie w x) (x ∷ []) []
      by true e rest = first e (tie w x) refl
      by false e rest = later (tie w y) (filter (tie w) (put_in_order cmp x ys)) (filter (tie w) ys) (cond (tie w x) (x ∷ []) []) rest

  put_none_below : (x y : A) (zs : List A) → below x y ≡ false → NoneBelow cmp y zs → NoneBelow cmp y (put_in_order cmp x zs)
  put_none_below x y [] h none = (h, tt)
  put_none_below x y (z ∷ zs) h none = by (put_none_below x y zs h none.1) (below x z)
    where
      by : NoneBelow cmp y (put_in_order cmp x zs) → (b : Bool) → NoneBelow cmp y (cond b (x ∷ z ∷ zs) (z ∷ put_in_order cmp x zs))
      by rest true = (h, (none.0, none.1))
      by rest false = (none.0, rest)

  put_ascends : (x : A) (ys : List A) → Ascends cmp ys → Ascends cmp (put_in_order cmp x ys)
  put_ascends x [] up = (tt, tt)
  put_ascends x (y ∷ ys) up = by (put_ascends x ys up.1) (below x y) refl
    where
      by : Ascends cmp (put_in_order cmp x ys) → (b : Bool) → below x y ≡ b → Ascends cmp (cond b (x ∷ y ∷ ys) (y ∷ put_in_order cmp x ys))
      by rest true e = ((not_after x y e, none_below_lower x y ys (not_after x y e) up.0), (up.0, up.1))
      by rest false e = (put_none_below x y ys e up.0, rest)

  onto-ties : (w : A) (done xs : List A) → Ascends cmp done → filter (tie w) (sort_onto cmp done xs) ≡ filter (tie w) done ++ filter (tie w) xs
  onto-ties w done [] up = sym (nothing_after (filter (tie w) done))
  onto-ties w done (x ∷ xs) up =
      onto-ties w (put_in_order cmp x done) xs (put_ascends x done up)
      ∙ ap (λ zs. zs ++ filter (tie w) xs) (put-ties w x done up)
      ∙ append_assoc (filter (tie w) done) (cond (tie w x) (x ∷ []) []) (filter (tie w) xs)
      ∙ ap (λ zs. filter (tie w) done ++ zs) (by (tie w x))
    where
      by : (b : Bool) → cond b (x ∷ []) [] ++ filter (tie w) xs ≡ cond b (x ∷ filter (tie w) xs) (filter (tie w) xs)
      by true = refl
      by false = refl

  pub sorted-stable : (xs : List A) → (x : A) → filter (tie x) (sorted_by cmp xs) ≡ filter (tie x) xs
  sorted-stable xs x = onto-ties x [] xs tt

  -- ---- sorts and filters

  sorted_tail : (x : A) (xs : List A) → IsSorted cmp (x ∷ xs) → IsSorted cmp xs
  sorted_tail x xs h = λ k d low high. let e : suc k + 1 ≡ suc (k + 1) = omega arith in rw e at (h (suc k) d (omega arith) (omega arith))

  sort_ascends : (xs : List A) → IsSorted cmp xs → Ascends cmp xs
  sort_ascends [] h = tt
  sort_ascends (x ∷ []) h = (tt, tt)
  sort_ascends (x ∷ y ∷ ys) h =
      let rest = sort_ascends (y ∷ ys) (sorted_tail x (y ∷ ys) h) in
      let first : below y x ≡ false = h 0 x (omega arith) (omega arith) in
      ((first, none_below_lower x y ys first rest.0), rest)

  -- what a stable sort leaves is the list in order
  pub stable-sorted : (xs ys : List A) → IsSorted cmp ys → IsStable cmp xs ys → ys ≡ sorted_by cmp xs
  stable-sorted xs ys sorted stable =
      ascending-determined ys (sorted_by cmp xs) (sort_ascends ys sorted) (sorted_ascends cmp order xs)
      (λ x. stable x ∙ sym (sorted-stable xs x))

  none-filter : (p : A → Bool) (x : A) (ys : List A) → NoneBelow cmp x ys → NoneBelow cmp x (filter p ys)
  none-filter p x [] none = tt
  none-filter p x (y ∷ ys) none = by (p y) (none-filter p x ys none.1)
    where
      by : (b : Bool) → NoneBelow cmp x (filter p ys) → NoneBelow cmp x (cond b (y ∷ filter p ys) (filter p ys))
      by true rest = (none.0, rest)
      by false rest = rest

  ascends-filter : (p : A → Bool) (xs : List A) → Ascends cmp xs → Ascends cmp (filter p xs)
  ascends-filter p [] up = tt
  ascends-filter p (x ∷ xs) up = by (p x) (ascends-filter p xs up.1)
    where
      by : (b : Bool) → Ascends cmp (filter p xs) → Ascends cmp (cond b (x ∷ filter p xs) (filter p xs))
      by true rest = (none-filter p x xs up.0, rest)
      by false rest = rest

  -- the items that pass, in order
  pub filter-sorted : (p : A → Bool) (xs : List A) → filter p (sorted_by cmp xs) ≡ sorted_by cmp (filter p xs)
  filter-sorted p xs =
      ascending-determined (filter p (sorted_by cmp xs)) (sorted_by cmp (filter p xs)) (ascends-filter p (sorted_by cmp xs) (sorted_ascends cmp order xs)) (sorted_ascends cmp order (filter p xs))
      (λ x. filter-swap (tie x) p (sorted_by cmp xs) ∙ ap (filter p) (sorted-stable xs x) ∙ filter-swap p (tie x) xs ∙ sym (sorted-stable (filter p xs) x))
