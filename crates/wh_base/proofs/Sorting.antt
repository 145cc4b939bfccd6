-- A sorted list is determined by its elements, so two ways to reach the same elements give one sorted list.
use Rattle.std.proofs.Common.{◌≡◌, ◌∙◌, sym, ap, refl, arith, ℕ, ◌+◌, Bool, true, false, cond, List, [], ◌∷◌}
use Rattle.std.proofs.lemmas.Map.Lookups.{CmpEqualImpliesEq}
use Rattle.std.specs.Cmp.{IsTotalOrder}
use Rattle.std.specs.Ordering.{is_lt, ordering_reverse}
use Rattle.std.specs.declared.cmp.Ordering.{Ordering}
use Rattle.std.specs.declared.cmp.Ordering.TheVariants.{Less, Equal, Greater}
use Rattle.wh_base.specs.Lists.{put_in_order, sort_onto, sorted_by}

-- no element is below x
abbrev pub NoneBelow : {A : Type 0} → (A → A → Ordering) → A → List A → Type 0
NoneBelow cmp x [] = Unit {0}
NoneBelow cmp x (y ∷ ys) = (is_lt (cmp y x) ≡ false) × NoneBelow cmp x ys

-- no element is below one before it
abbrev pub Ascends : {A : Type 0} → (A → A → Ordering) → List A → Type 0
Ascends cmp [] = Unit {0}
Ascends cmp (x ∷ xs) = NoneBelow cmp x xs × Ascends cmp xs

-- how many pass a test
abbrev pub times : {A : Type 0} → (A → Bool) → List A → ℕ
times p [] = 0
times p (x ∷ xs) = cond (p x) 1 0 + times p xs

-- each test holds of as many elements
abbrev pub SameCounts : {A : Type 0} → List A → List A → Type 0
SameCounts {A} xs ys = (p : A → Bool) → times p xs ≡ times p ys

-- ---- the elements stay

put_step : {A : Type 0} (p : A → Bool) (x y : A) (ys zs : List A) (b : Bool) → times p zs ≡ cond (p x) 1 0 + times p ys → times p (cond b (x ∷ y ∷ ys) (y ∷ zs)) ≡ cond (p x) 1 0 + (cond (p y) 1 0 + times p ys)
put_step p x y ys zs true h = refl
put_step p x y ys zs false h = omega (arith, h)

pub put_counts : {A : Type 0} (cmp : A → A → Ordering) (p : A → Bool) (x : A) (ys : List A) → times p (put_in_order cmp x ys) ≡ cond (p x) 1 0 + times p ys
put_counts cmp p x [] = refl
put_counts cmp p x (y ∷ ys) = put_step p x y ys (put_in_order cmp x ys) (is_lt (cmp x y)) (put_counts cmp p x ys)

pub sort_onto_counts : {A : Type 0} (cmp : A → A → Ordering) (p : A → Bool) (done xs : List A) → times p (sort_onto cmp done xs) ≡ times p done + times p xs
sort_onto_counts cmp p done [] = omega arith
sort_onto_counts cmp p done (x ∷ xs) = omega (arith, sort_onto_counts cmp p (put_in_order cmp x done) xs, put_counts cmp p x done)

pub sorted_counts : {A : Type 0} (cmp : A → A → Ordering) (xs : List A) → SameCounts (sorted_by cmp xs) xs
sorted_counts cmp xs p = omega (arith, sort_onto_counts cmp p [] xs)

-- ---- they ascend

module _ {A : Type 0} (cmp : A → A → Ordering) (order : IsTotalOrder cmp) where
  is_less : (o : Ordering) → is_lt o ≡ true → o ≡ Less
  is_less Less h = refl
  is_less Equal h = cc
  is_less Greater h = cc

  not_after : (x y : A) → cmp x y ≡ Less → is_lt (cmp y x) ≡ false
  not_after x y h = rw (order.antisymm y x, h)

  -- what isn't below y isn't below x, where x is below y
  still_not : (x y z : A) → cmp x y ≡ Less → is_lt (cmp z y) ≡ false → (b : Bool) → is_lt (cmp z x) ≡ b → b ≡ false
  still_not x y z less not_below false e = refl
  still_not x y z less not_below true e =
      let below : cmp z y ≡ Less = order.trans z x y (is_less (cmp z x) e) less in
      let said : is_lt (cmp z y) ≡ true = ap is_lt below in
      cc

  none_below_lower : (x y : A) (zs : List A) → cmp x y ≡ Less → NoneBelow cmp y zs → NoneBelow cmp x zs
  none_below_lower x y [] less none = tt
  none_below_lower x y (z ∷ zs) less none = (still_not x y z less none.0 (is_lt (cmp z x)) refl, none_below_lower x y zs less none.1)

  put_none_below : (x y : A) (zs : List A) → is_lt (cmp x y) ≡ false → NoneBelow cmp y zs → NoneBelow cmp y (put_in_order cmp x zs)
  put_none_below x y [] h none = (h, tt)
  put_none_below x y (z ∷ zs) h none = by (put_none_below x y zs h none.1) (is_lt (cmp x z))
    where
      by : NoneBelow cmp y (put_in_order cmp x zs) → (b : Bool) → NoneBelow cmp y (cond b (x ∷ z ∷ zs) (z ∷ put_in_order cmp x zs))
      by rest true = (h, (none.0, none.1))
      by rest false = (none.0, rest)

  put_ascends : (x : A) (ys : List A) → Ascends cmp ys → Ascends cmp (put_in_order cmp x ys)
  put_ascends x [] up = (tt, tt)
  put_ascends x (y ∷ ys) up = by (put_ascends x ys up.1) (is_lt (cmp x y)) refl
    where
      by : Ascends cmp (put_in_order cmp x ys) → (b : Bool) → is_lt (cmp x y) ≡ b → Ascends cmp (cond b (x ∷ y ∷ ys) (y ∷ put_in_order cmp x ys))
      by rest true e = ((not_after x y (is_less (cmp x y) e), none_below_lower x y ys (is_less (cmp x y) e) up.0), (up.0, up.1))
      by rest false e = (put_none_below x y ys e up.0, rest)

  sort_onto_ascends : (done xs : List A) → Ascends cmp done → Ascends cmp (sort_onto cmp done xs)
  sort_onto_ascends done [] up = up
  sort_onto_ascends done (x ∷ xs) up = sort_onto_ascends (put_in_order cmp x done) xs (put_ascends x done up)

  pub sorted_ascends : (xs : List A) → Ascends cmp (sorted_by cmp xs)
  sorted_ascends xs = sort_onto_ascends [] xs tt

  -- ---- a list that ascends is determined by its counts

  none_counted : (y : A) (ys : List A) → NoneBelow cmp y ys → times (λ z. is_lt (cmp z y)) ys ≡ 0
  none_counted y [] none = refl
  none_counted y (z ∷ zs) none = rw none.0 (omega (arith, none_counted y zs none.1))

  not_below_itself : (y : A) → is_lt (cmp y y) ≡ false
  not_below_itself y = by (cmp y y) (order.antisymm y y)
    where
      by : (o : Ordering) → o ≡ ordering_reverse o → is_lt o ≡ false
      by Less e = cc
      by Equal e = refl
      by Greater e = refl

  -- the first of one list isn't below the least of another with the same elements
  first_not_below : (x y : A) (xs ys : List A) → NoneBelow cmp y ys → SameCounts (x ∷ xs) (y ∷ ys) → is_lt (cmp x y) ≡ true → ⊥
  first_not_below x y xs ys none same h =
      let counted : times (λ z. is_lt (cmp z y)) (x ∷ xs) ≡ times (λ z. is_lt (cmp z y)) (y ∷ ys) = same (λ z. is_lt (cmp z y)) in
      let left : times (λ z. is_lt (cmp z y)) (x ∷ xs) ≡ 1 + times (λ z. is_lt (cmp z y)) xs = rw h in
      let right : times (λ z. is_lt (cmp z y)) (y ∷ ys) ≡ 0 = rw (not_below_itself y) (omega (arith, none_counted y ys none)) in
      absurd (omega (arith, counted, left, right))

  module _ (exact : CmpEqualImpliesEq cmp) where
    first_same : (x y : A) (xs ys : List A) → NoneBelow cmp x xs → NoneBelow cmp y ys → SameCounts (x ∷ xs) (y ∷ ys) → (o : Ordering) → cmp x y ≡ o → x ≡ y
    first_same x y xs ys none_x none_y same Less e = absurd (first_not_below x y xs ys none_y same (ap is_lt e))
    first_same x y xs ys none_x none_y same Equal e = exact x y e
    first_same x y xs ys none_x none_y same Greater e =
        absurd (first_not_below y x ys xs none_x (λ p. sym (same p)) (ap is_lt (order.antisymm y x ∙ ap ordering_reverse e)))

    pub ascending_unique : (xs ys : List A) → Ascends cmp xs → Ascends cmp ys → SameCounts xs ys → xs ≡ ys
    ascending_unique [] [] up_x up_y same = refl
    ascending_unique [] (y ∷ ys) up_x up_y same = absurd (omega (arith, same (λ _. true)))
    ascending_unique (x ∷ xs) [] up_x up_y same = absurd (omega (arith, same (λ _. true)))
    ascending_unique (x ∷ xs) (y ∷ ys) up_x up_y same =
        let first : x ≡ y = first_same x y xs ys up_x.0 up_y.0 same (cmp x y) refl in
        let rest : (p : A → Bool) → times p xs ≡ times p ys = λ p. let e : times p (x ∷ xs) ≡ times p (x ∷ ys) = same p ∙ ap (λ z. times p (z ∷ ys)) (sym first) in omega (arith, e) in
        let tails : xs ≡ ys = ascending_unique xs ys up_x.1 up_y.1 rest in
        λ i. first i ∷ tails i

    -- lists with the same elements have the same sorted list
    pub sorted_same : (xs ys : List A) → SameCounts xs ys → sorted_by cmp xs ≡ sorted_by cmp ys
    sorted_same xs ys same =
        ascending_unique (sorted_by cmp xs) (sorted_by cmp ys) (sorted_ascends xs) (sorted_ascends ys)
        (λ p. sorted_counts cmp xs p ∙ same p ∙ sym (sorted_counts cmp ys p))
