-- How many items of a list pass a test: after an append, a change of one place, under a map and a filter, and of the first few items.
use Rattle.std.proofs.Common.{◌≡◌, sym, ap, refl, arith, ℕ, zero, suc, ◌+◌, ◌<◌, ◌≤◌, Bool, true, false, cond, ◌&&◌, ◌||◌, List, [], ◌∷◌, ◌++◌, map, length, Some, slice_get, slice_set, true≢false}
use Rattle.std.proofs.lemmas.Option.{none-some, same_Some}
use Rattle.std.specs.List.{filter, list_any}
use Rattle.wh_base.proofs.Sorting.{times}

-- 1 for one that passes
abbrev pub weight : Bool → ℕ
weight b = cond b 1 0

pub length_filter : {A : Type 0} (p : A → Bool) (xs : List A) → length (filter p xs) ≡ times p xs
length_filter p [] = refl
length_filter p (x ∷ xs) = by (p x) (length_filter p xs)
  where
    by : (b : Bool) → length (filter p xs) ≡ times p xs → length (cond b (x ∷ filter p xs) (filter p xs)) ≡ cond b 1 0 + times p xs
    by true h = omega (arith, h)
    by false h = omega (arith, h)

-- ---- a place more, and one that changes

pub times_append : {A : Type 0} (p : A → Bool) (xs : List A) (y : A) → times p (xs ++ y ∷ []) ≡ times p xs + weight (p y)
times_append p [] y = omega arith
times_append p (x ∷ xs) y = omega (arith, times_append p xs y)

pub times_set : {A : Type 0} (p : A → Bool) (xs : List A) (place : ℕ) (x y : A) → slice_get xs place ≡ Some x → times p (slice_set xs place y) + weight (p x) ≡ times p xs + weight (p y)
times_set p [] place x y e = absurd (none-some x e)
times_set p (w ∷ ws) zero x y e =
    let same : weight (p w) ≡ weight (p x) = ap (λ z. weight (p z)) (same_Some w x e) in
    omega (arith, same)
times_set p (w ∷ ws) (suc place) x y e = omega (arith, times_set p ws place x y e)

-- ---- the first few

-- how many of the first n pass
abbrev pub first_times : {A : Type 0} → (A → Bool) → ℕ → List A → ℕ
first_times p zero xs = 0
first_times p (suc n) [] = 0
first_times p (suc n) (x ∷ xs) = weight (p x) + first_times p n xs

pub first_all : {A : Type 0} (p : A → Bool) (xs : List A) → first_times p (length xs) xs ≡ times p xs
first_all p [] = refl
first_all p (x ∷ xs) = ap (λ n. weight (p x) + n) (first_all p xs)

pub first_append : {A : Type 0} (p : A → Bool) (n : ℕ) (xs : List A) (y : A) → n ≤ length xs → first_times p n (xs ++ y ∷ []) ≡ first_times p n xs
first_append p zero xs y h = refl
first_append p (suc n) [] y h = absurd (omega (arith, h))
first_append p (suc n) (x ∷ xs) y h = ap (λ m. weight (p x) + m) (first_append p n xs y (omega (arith, h)))

pub first_set : {A : Type 0} (p : A → Bool) (n : ℕ) (xs : List A) (place : ℕ) (x y : A) → place < n → slice_get xs place ≡ Some x
    → first_times p n (slice_set xs place y) + weight (p x) ≡ first_times p n xs + weight (p y)
first_set p n [] place x y h e = absurd (none-some x e)
first_set p zero (w ∷ ws) place x y h e = absurd (omega (arith, h))
first_set p (suc n) (w ∷ ws) zero x y h e =
    let same : weight (p w) ≡ weight (p x) = ap (λ z. weight (p z)) (same_Some w x e) in
    omega (arith, same)
first_set p (suc n) (w ∷ ws) (suc place) x y h e = omega (arith, first_set p n ws place x y (omega (arith, h)) e)

-- ---- maps and filters

pub times_map : {A B : Type 0} (p : B → Bool) (f : A → B) (xs : List A) → times p (map f xs) ≡ times (λ x. p (f x)) xs
times_map p f [] = refl
times_map p f (x ∷ xs) = ap (λ n. weight (p (f x)) + n) (times_map p f xs)

pub times_filter : {A : Type 0} (p q : A → Bool) (xs : List A) → times p (filter q xs) ≡ times (λ x. q x && p x) xs
times_filter p q [] = refl
times_filter p q (x ∷ xs) = by (q x) (times_filter p q xs)
  where
    by : (b : Bool) → times p (filter q xs) ≡ times (λ x. q x && p x) xs → times p (cond b (x ∷ filter q xs) (filter q xs)) ≡ weight (b && p x) + times (λ x. q x && p x) xs
    by true h = omega (arith, h)
    by false h = omega (arith, h)

pub times_never : {A : Type 0} (p : A → Bool) (xs : List A) → ((x : A) → p x ≡ false) → times p xs ≡ 0
times_never p [] h = refl
times_never p (x ∷ xs) h = let none : weight (p x) ≡ 0 = ap weight (h x) in omega (arith, none, times_never p xs h)

-- ---- some or none

pub weight_one : (b : Bool) → b ≡ true → weight b ≡ 1
weight_one b e = ap weight e

pub weight_none : (b : Bool) → b ≡ false → weight b ≡ 0
weight_none b e = ap weight e

pub any_none : {A : Type 0} (p : A → Bool) (xs : List A) → times p xs ≡ 0 → list_any p xs ≡ false
any_none p [] h = refl
any_none p (x ∷ xs) h = by (p x) h (any_none p xs)
  where
    by : (b : Bool) → weight b + times p xs ≡ 0 → (times p xs ≡ 0 → list_any p xs ≡ false) → (b || list_any p xs) ≡ false
    by true none more = absurd (omega (arith, none))
    by false none more = more (omega (arith, none))

pub any_some : {A : Type 0} (p : A → Bool) (xs : List A) → 1 ≤ times p xs → list_any p xs ≡ true
any_some p [] h = absurd (omega (arith, h))
any_some p (x ∷ xs) h = by (p x) h (any_some p xs)
  where
    by : (b : Bool) → 1 ≤ weight b + times p xs → (1 ≤ times p xs → list_any p xs ≡ true) → (b || list_any p xs) ≡ true
    by true some more = refl
    by false some more = more (omega (arith, some))

pub some_any : {A : Type 0} (p : A → Bool) (xs : List A) → list_any p xs ≡ true → 1 ≤ times p xs
some_any p [] h = absurd (true≢false (sym h))
some_any p (x ∷ xs) h = by (p x) h (some_any p xs)
  where
    by : (b : Bool) → (b || list_any p xs) ≡ true → (list_any p xs ≡ true → 1 ≤ times p xs) → 1 ≤ weight b + times p xs
    by true some more = omega arith
    by false some more = omega (arith, more some)

pub none_any : {A : Type 0} (p : A → Bool) (xs : List A) → list_any p xs ≡ false → times p xs ≡ 0
none_any p [] h = refl
none_any p (x ∷ xs) h = by (p x) h (none_any p xs)
  where
    by : (b : Bool) → (b || list_any p xs) ≡ false → (list_any p xs ≡ false → times p xs ≡ 0) → weight b + times p xs ≡ 0
    by true none more = absurd (true≢false none)
    by false none more = omega (arith, more none)

-- two tests that hold where the other does are one
pub both_ways : (b c : Bool) → (b ≡ true → c ≡ true) → (c ≡ true → b ≡ true) → b ≡ c
both_ways true c f g = sym (f refl)
both_ways false true f g = g refl
both_ways false false f g = refl
