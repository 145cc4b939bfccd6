-- Filters over products of lists.
use Rattle.std.proofs.Common.{◌≡◌, ◌∙◌, ap, refl, arith, ℕ, suc, Bool, true, false, cond, List, [], ◌∷◌, ◌++◌, ◌+◌, ◌≤◌, Option, Some, None, length, map}
use Rattle.std.proofs.lemmas.List.Elements.{filter-append}
use Rattle.std.proofs.lemmas.List.{append-nil, map-append}
use Rattle.std.specs.List.{All, AllPairs, cons_option, filter, filter_map, find, flat_map}
use Rattle.std.specs.Prelude.{◌&&◌}
use Rattle.wh_base.proofs.Sorting.{times}
use Rattle.wh_base.specs.Lists.{option_case}

-- the item of an option, as a list
abbrev pub listed : {A : Type 0} → Option A → List A
listed None = []
listed (Some x) = x ∷ []

pub filter-flat_map : {A B : Type 0} (p : B → Bool) (f : A → List B) (xs : List A) → filter p (flat_map f xs) ≡ flat_map (λ x. filter p (f x)) xs
filter-flat_map p f [] = refl
filter-flat_map p f (x ∷ xs) = filter-append p (f x) (flat_map f xs) ∙ ap (λ ys. filter p (f x) ++ ys) (filter-flat_map p f xs)

pub filter-false : {A : Type 0} (xs : List A) → filter (λ _. false) xs ≡ []
filter-false [] = refl
filter-false (x ∷ xs) = filter-false xs

-- a test that stands before another and doesn't look at the item
pub filter-guard : {A : Type 0} (b : Bool) (p : A → Bool) (xs : List A) → filter (λ x. b && p x) xs ≡ cond b (filter p xs) []
filter-guard true p xs = refl
filter-guard false p xs = filter-false xs

-- ---- at most one item

-- what an item adds to a count
abbrev pub weight : Bool → ℕ
weight b = cond b 1 0

-- how many items pass
pub times-filter : {A : Type 0} (p : A → Bool) (xs : List A) → times p xs ≡ length (filter p xs)
times-filter p [] = refl
times-filter p (x ∷ xs) = by (p x) (times-filter p xs)
  where
    by : (b : Bool) → times p xs ≡ length (filter p xs) → cond b 1 0 + times p xs ≡ length (cond b (x ∷ filter p xs) (filter p xs))
    by true same = omega (arith, same)
    by false same = omega (arith, same)

-- what is left where the first item passes, and where it doesn't
pub times-rest : {A : Type 0} (p : A → Bool) (x : A) (xs : List A) → times p (x ∷ xs) ≤ 1 → p x ≡ true → times p xs ≡ 0
times-rest p x xs h e = let one : weight (p x) ≡ 1 = ap weight e in omega (arith, h, one)

pub times-tail : {A : Type 0} (p : A → Bool) (x : A) (xs : List A) (n : ℕ) → times p (x ∷ xs) ≤ n → times p xs ≤ n
times-tail p x xs n h = omega (arith, h)

pub times-none : {A : Type 0} (p : A → Bool) (x : A) (xs : List A) → times p (x ∷ xs) ≡ 0 → p x ≡ false
times-none p x xs h = by (p x) refl
  where
    by : (b : Bool) → p x ≡ b → b ≡ false
    by true e = let one : weight (p x) ≡ 1 = ap weight e in absurd (omega (arith, h, one))
    by false e = refl

-- items each of which excludes the later ones
pub times-from_pairs : {A : Type 0} (p : A → Bool) (xs : List A) → AllPairs (λ x y. p x ≡ true → p y ≡ false) xs → times p xs ≤ 1
times-from_pairs p [] one = omega arith
times-from_pairs {A} p (x ∷ xs) one = by (p x) refl (times-from_pairs p xs (λ i j d h k. one (suc i) (suc j) d (omega arith) (omega arith)))
  where
    none : (ys : List A) → All (λ y. p y ≡ false) ys → times p ys ≡ 0
    none [] h = refl
    none (y ∷ ys) h = let zero : weight (p y) ≡ 0 = ap weight (h 0 y (omega arith)) in omega (arith, zero, none ys (λ k d l. h (suc k) d (omega arith)))

    by : (b : Bool) → p x ≡ b → times p xs ≤ 1 → cond b 1 0 + times p xs ≤ 1
    by true e rest = let others : times p xs ≡ 0 = none xs (λ k d l. one 0 (suc k) d (omega arith) (omega arith) e) in omega (arith, others)
    by false e rest = omega (arith, rest)

none_pass : {A B : Type 0} (p : A → Bool) (f : A → List B) (xs : List A) → times p xs ≡ 0 → flat_map (λ x. cond (p x) (f x) []) xs ≡ []
none_pass p f [] none = refl
none_pass p f (x ∷ xs) none =
    let here : p x ≡ false = times-none p x xs none in
    rw here (none_pass p f xs (omega (arith, none)))

-- where at most one item passes, all that passes is the first that does
pub flat_map-one : {A B : Type 0} (p : A → Bool) (f : A → List B) (xs : List A) → times p xs ≤ 1 → flat_map (λ x. cond (p x) (f x) []) xs ≡ option_case (find p xs) [] f
flat_map-one p f [] one = refl
flat_map-one {A} {B} p f (x ∷ xs) one = by (p x) refl (flat_map-one p f xs (times-tail p x xs 1 one))
  where
    by : (b : Bool) → p x ≡ b → flat_map (λ y. cond (p y) (f y) []) xs ≡ option_case (find p xs) [] f → cond b (f x) [] ++ flat_map (λ y. cond (p y) (f y) []) xs ≡ option_case (cond b (Some x) (find p xs)) [] f
    by true e later = ap (λ ys. f x ++ ys) (none_pass p f xs (times-rest p x xs one e)) ∙ append-nil (f x)
    by false e later = later

-- ---- lists made of lists

pub map-flat_map : {A B C : Type 0} (f : B → C) (g : A → List B) (xs : List A) → map f (flat_map g xs) ≡ flat_map (λ x. map f (g x)) xs
map-flat_map f g [] = refl
map-flat_map f g (x ∷ xs) = map-append f (g x) (flat_map g xs) ∙ ap (λ ys. map f (g x) ++ ys) (map-flat_map f g xs)

pub map-map : {A B C : Type 0} (f : B → C) (g : A → B) (xs : List A) → map f (map g xs) ≡ map (λ x. f (g x)) xs
map-map f g [] = refl
map-map f g (x ∷ xs) = ap (λ ys. f (g x) ∷ ys) (map-map f g xs)

pub flat_map-same : {A B : Type 0} (f g : A → List B) (xs : List A) → ((x : A) → f x ≡ g x) → flat_map f xs ≡ flat_map g xs
flat_map-same f g xs same = λ i. flat_map (λ x. same x i) xs

pub flat_map-listed : {A B : Type 0} (h : A → Option B) (xs : List A) → flat_map (λ x. listed (h x)) xs ≡ filter_map h xs
flat_map-listed h [] = refl
flat_map-listed h (x ∷ xs) = ap (λ ys. listed (h x) ++ ys) (flat_map-listed h xs) ∙ by (h x) (filter_map h xs)
  where
    by : {B : Type 0} (o : Option B) (ys : List B) → listed o ++ ys ≡ cons_option o ys
    by None ys = refl
    by (Some y) ys = refl

pub listed-case : {A B : Type 0} (o : Option A) (f : A → Option B) → option_case o [] (λ x. listed (f x)) ≡ listed (option_case o None f)
listed-case None f = refl
listed-case (Some x) f = refl
