-- What holds of each element of a list, under maps, filters and tests.
use Rattle.std.proofs.Common.{◌≡◌, ◌∙◌, sym, ap, refl, true≢false, arith, ℕ, ◌<◌, zero, suc, Bool, true, false, cond, List, [], ◌∷◌, ◌++◌, map, length, get_or, Option, None, Some}
use Rattle.std.specs.Prelude.{◌&&◌, ◌||◌}
use Rattle.std.proofs.Math.Bool.{or-false}
use Rattle.std.specs.List.{AllByRecursion, cons_option, filter, filter_map, list_all, list_any}
use Rattle.wh_base.specs.Lists.{distinct_after, is_empty}

-- std's word for it, so that what a definition says by its own recursion is the same
abbrev pub Each : {A : Type 0} → (A → Type 0) → List A → Type 0
Each P xs = AllByRecursion P xs

pub Each-map : {A : Type 0} (P Q : A → Type 0) → ((x : A) → P x → Q x) → (xs : List A) → Each P xs → Each Q xs
Each-map P Q f [] h = tt
Each-map P Q f (x ∷ xs) h = (f x h.0, Each-map P Q f xs h.1)

pub Each-of : {A : Type 0} (P : A → Type 0) → ((x : A) → P x) → (xs : List A) → Each P xs
Each-of P f [] = tt
Each-of P f (x ∷ xs) = (f x, Each-of P f xs)

pub Each-both : {A : Type 0} (P Q : A → Type 0) (xs : List A) → Each P xs → Each Q xs → Each (λ x. P x × Q x) xs
Each-both P Q [] h k = tt
Each-both P Q (x ∷ xs) h k = ((h.0, k.0), Each-both P Q xs h.1 k.1)

pub Each-append : {A : Type 0} (P : A → Type 0) (xs ys : List A) → Each P xs → Each P ys → Each P (xs ++ ys)
Each-append P [] ys h k = k
Each-append P (x ∷ xs) ys h k = (h.0, Each-append P xs ys h.1 k)

pub Each-at : {A : Type 0} (P : A → Type 0) (xs : List A) (n : ℕ) (d : A) → Each P xs → n < length xs → P (get_or xs n d)
Each-at P [] n d h k = absurd (omega (arith, k))
Each-at P (x ∷ xs) zero d h k = h.0
Each-at P (x ∷ xs) (suc n) d h k = Each-at P xs n d h.1 (omega (arith, k))

-- what holds of each pair of two lists, from either side
pub Each-turn : {A B : Type 0} (R : A → B → Type 0) (xs : List A) (ys : List B) → Each (λ x. Each (R x) ys) xs → Each (λ y. Each (λ x. R x y) xs) ys
Each-turn R xs [] h = tt
Each-turn R xs (y ∷ ys) h = (
  Each-map (λ x. Each (R x) (y ∷ ys)) (λ x. R x y) (λ x k. k.0) xs h,
  Each-turn R xs ys (Each-map (λ x. Each (R x) (y ∷ ys)) (λ x. Each (R x) ys) (λ x k. k.1) xs h),
)

-- ---- what is made by a map

pub Each-of_map : {A B : Type 0} (P : B → Type 0) (f : A → B) → (xs : List A) → Each (λ x. P (f x)) xs → Each P (map f xs)
Each-of_map P f [] h = tt
Each-of_map P f (x ∷ xs) h = (h.0, Each-of_map P f xs h.1)

pub Each-of_mapped : {A B : Type 0} (P : B → Type 0) (f : A → B) (xs : List A) → Each P (map f xs) → Each (λ x. P (f x)) xs
Each-of_mapped P f [] h = tt
Each-of_mapped P f (x ∷ xs) h = (h.0, Each-of_mapped P f xs h.1)

-- two functions that are the same for each
pub map_alike : {A B : Type 0} (f g : A → B) (xs : List A) → Each (λ x. f x ≡ g x) xs → map f xs ≡ map g xs
map_alike f g [] h = refl
map_alike f g (x ∷ xs) h = λ i. h.0 i ∷ map_alike f g xs h.1 i

-- ---- what a filter leaves

pub Each-filter : {A : Type 0} (P : A → Type 0) (q : A → Bool) (xs : List A) → Each P xs → Each P (filter q xs)
Each-filter P q [] h = tt
Each-filter P q (x ∷ xs) h = by (q x) (Each-filter P q xs h.1)
  where
    by : (b : Bool) → Each P (filter q xs) → Each P (cond b (x ∷ filter q xs) (filter q xs))
    by true k = (h.0, k)
    by false k = k

-- each that is left passes
pub Each-passes : {A : Type 0} (q : A → Bool) (xs : List A) → Each (λ x. q x ≡ true) (filter q xs)
Each-passes q [] = tt
Each-passes {A} q (x ∷ xs) = by (q x) refl (Each-passes q xs)
  where
    by : (b : Bool) → q x ≡ b → Each (λ y. q y ≡ true) (filter q xs) → Each (λ y. q y ≡ true) (cond b (x ∷ filter q xs) (filter q xs))
    by true e k = (e, k)
    by false e k = k

-- what holds of each that is left holds of each that passes
pub Each-unfilter : {A : Type 0} (P : A → Type 0) (q : A → Bool) (xs : List A) → Each P (filter q xs) → Each (λ x. q x ≡ true → P x) xs
Each-unfilter P q [] h = tt
Each-unfilter {A} P q (x ∷ xs) h = by (q x) refl h (Each-unfilter P q xs)
  where
    by : (b : Bool) → q x ≡ b → Each P (cond b (x ∷ filter q xs) (filter q xs)) → (Each P (filter q xs) → Each (λ y. q y ≡ true → P y) xs) → Each (λ y. q y ≡ true → P y) (x ∷ xs)
    by true e h later = ((λ k. h.0), later h.1)
    by false e h later = ((λ k. absurd (true≢false (sym k ∙ e))), later h)

pub Each-distinct : {A : Type 0} (same : A → A → Bool) (P : A → Type 0) (seen xs : List A) → Each P xs → Each P (distinct_after same seen xs)
Each-distinct same P seen [] h = tt
Each-distinct {A} same P seen (x ∷ xs) h = by (list_any (same x) seen) (Each-distinct same P seen xs h.1) (Each-distinct same P (x ∷ seen) xs h.1)
  where
    by : (b : Bool) → Each P (distinct_after same seen xs) → Each P (distinct_after same (x ∷ seen) xs) → Each P (cond b (distinct_after same seen xs) (x ∷ distinct_after same (x ∷ seen) xs))
    by true k l = k
    by false k l = (h.0, l)

-- what holds of all that a function gives holds of each that it gave of a list
pub Each-given : {A B : Type 0} (P : B → Type 0) (f : A → Option B) → ((x : A) (y : B) → f x ≡ Some y → P y) → (xs : List A) → Each P (filter_map f xs)
Each-given P f k [] = tt
Each-given {B = B} P f k (x ∷ xs) = by (f x) refl (Each-given P f k xs)
  where
    by : (o : Option B) → f x ≡ o → Each P (filter_map f xs) → Each P (cons_option o (filter_map f xs))
    by None e h = h
    by (Some y) e h = (k x y e, h)

-- ---- tests that all pass, or none

pub Each-from_all : {A : Type 0} (p : A → Bool) (xs : List A) → list_all p xs ≡ true → Each (λ x. p x ≡ true) xs
Each-from_all p [] h = tt
Each-from_all p (x ∷ xs) h = by (p x) refl h (Each-from_all p xs)
  where
    by : (b : Bool) → p x ≡ b → (b && list_all p xs) ≡ true → (list_all p xs ≡ true → Each (λ y. p y ≡ true) xs) → Each (λ y. p y ≡ true) (x ∷ xs)
    by true e k l = (e, l k)
    by false e k l = cc

pub Each-from_none : {A : Type 0} (p : A → Bool) (xs : List A) → list_any p xs ≡ false → Each (λ x. p x ≡ false) xs
Each-from_none p [] h = tt
Each-from_none p (x ∷ xs) h = by (p x) refl h (Each-from_none p xs)
  where
    by : (b : Bool) → p x ≡ b → (b || list_any p xs) ≡ false → (list_any p xs ≡ false → Each (λ y. p y ≡ false) xs) → Each (λ y. p y ≡ false) (x ∷ xs)
    by true e k l = cc
    by false e k l = (e, l k)

-- a test that is the same for all of a list keeps all or nothing
pub filter_alike : {A : Type 0} (p : A → Bool) (b : Bool) (xs : List A) → Each (λ x. p x ≡ b) xs → filter p xs ≡ cond b xs []
filter_alike p true [] h = refl
filter_alike p false [] h = refl
filter_alike p true (x ∷ xs) h = ap (λ b. cond b (x ∷ filter p xs) (filter p xs)) h.0 ∙ ap (λ ys. x ∷ ys) (filter_alike p true xs h.1)
filter_alike p false (x ∷ xs) h = ap (λ b. cond b (x ∷ filter p xs) (filter p xs)) h.0 ∙ filter_alike p false xs h.1

pub any_alike : {A : Type 0} (p : A → Bool) (b : Bool) (xs : List A) → is_empty xs ≡ false → Each (λ x. p x ≡ b) xs → list_any p xs ≡ b
any_alike p b [] e h = cc
any_alike p b (x ∷ []) e h = ap (λ c. c || false) h.0 ∙ or-false b
any_alike p b (x ∷ y ∷ ys) e h = (λ i. h.0 i || any_alike p b (y ∷ ys) refl h.1 i) ∙ or_same b
  where
    or_same : (c : Bool) → (c || c) ≡ c
    or_same true = refl
    or_same false = refl

-- two tests that are the same for each
pub filter_same : {A : Type 0} (p q : A → Bool) (xs : List A) → Each (λ x. p x ≡ q x) xs → filter p xs ≡ filter q xs
filter_same p q [] h = refl
filter_same p q (x ∷ xs) h = λ i. cond (h.0 i) (x ∷ filter_same p q xs h.1 i) (filter_same p q xs h.1 i)
