-- The weight of a list: of two lists in a row, of what passes a test, of a map, of lists joined end to end.
use Rattle.std.proofs.Common.{◌≡◌, ◌∙◌, sym, ap, refl, arith, Bool, true, false, cond, not, List, [], ◌∷◌, ◌++◌, map}
use Rattle.std.specs.Prelude.{ℤ, pos, ◌+ℤ◌, flat_map, filter}
use Rattle.std.proofs.Math.IntN.{+ℤ_idl}
use Rattle.std.proofs.lemmas.Int.{ints}
use Rattle.law_delta.specs.Deltas.{weight}

pub weight-append : {A : Type 0} (f : A → ℤ) (xs ys : List A) → weight f (xs ++ ys) ≡ weight f xs +ℤ weight f ys
weight-append f [] ys = sym (+ℤ_idl (weight f ys))
weight-append f (x ∷ xs) ys = let h : weight f (xs ++ ys) ≡ weight f xs +ℤ weight f ys = weight-append f xs ys in omega (arith, ints)

pub weight-map : {A B : Type 0} (f : B → ℤ) (g : A → B) (xs : List A) → weight f (map g xs) ≡ weight (λ x. f (g x)) xs
weight-map f g [] = refl
weight-map f g (x ∷ xs) = ap (λ n. f (g x) +ℤ n) (weight-map f g xs)

filter_step : {A : Type 0} (f : A → ℤ) (x : A) (kept : List A) (rest : ℤ) → weight f kept ≡ rest → (b : Bool) → weight f (cond b (x ∷ kept) kept) ≡ cond b (f x) (pos 0) +ℤ rest
filter_step f x kept rest h true = ap (λ n. f x +ℤ n) h
filter_step f x kept rest h false = h ∙ sym (+ℤ_idl rest)

pub weight-filter : {A : Type 0} (f : A → ℤ) (p : A → Bool) (xs : List A) → weight f (filter p xs) ≡ weight (λ x. cond (p x) (f x) (pos 0)) xs
weight-filter f p [] = refl
weight-filter f p (x ∷ xs) = filter_step f x (filter p xs) (weight (λ x. cond (p x) (f x) (pos 0)) xs) (weight-filter f p xs) (p x)

pub weight-flat_map : {A B : Type 0} (f : B → ℤ) (g : A → List B) (xs : List A) → weight f (flat_map g xs) ≡ weight (λ x. weight f (g x)) xs
weight-flat_map f g [] = refl
weight-flat_map f g (x ∷ xs) = weight-append f (g x) (flat_map g xs) ∙ ap (λ n. weight f (g x) +ℤ n) (weight-flat_map f g xs)

-- the same weights item by item
pub weight-pointwise : {A : Type 0} (f g : A → ℤ) (xs : List A) → ((x : A) → f x ≡ g x) → weight f xs ≡ weight g xs
weight-pointwise f g xs h = ap (λ k. weight k xs) (λ i x. h x i)

-- a test parts the weight in two
part_step : {A : Type 0} (f : A → ℤ) (x : A) (ps qs : List A) (rest : ℤ) → weight f ps +ℤ weight f qs ≡ rest → (b : Bool) → weight f (cond b (x ∷ ps) ps) +ℤ weight f (cond (not b) (x ∷ qs) qs) ≡ f x +ℤ rest
part_step f x ps qs rest h true = omega (arith, ints)
part_step f x ps qs rest h false = omega (arith, ints)

pub weight-parts : {A : Type 0} (f : A → ℤ) (p : A → Bool) (xs : List A) → weight f (filter p xs) +ℤ weight f (filter (λ x. not (p x)) xs) ≡ weight f xs
weight-parts f p [] = refl
weight-parts f p (x ∷ xs) = part_step f x (filter p xs) (filter (λ x. not (p x)) xs) (weight f xs) (weight-parts f p xs) (p x)

-- a change where the test holds
change_step : {A : Type 0} (f : A → ℤ) (g : A → A) (x : A) (ps qs : List A) (rest : ℤ) → rest ≡ weight f (map g ps) +ℤ weight f qs → (b : Bool) → f (cond b (g x) x) +ℤ rest ≡ weight f (map g (cond b (x ∷ ps) ps)) +ℤ weight f (cond (not b) (x ∷ qs) qs)
change_step f g x ps qs rest h true = omega (arith, ints)
change_step f g x ps qs rest h false = omega (arith, ints)

pub weight-change : {A : Type 0} (f : A → ℤ) (p : A → Bool) (g : A → A) (xs : List A) → weight f (map (λ x. cond (p x) (g x) x) xs) ≡ weight f (map g (filter p xs)) +ℤ weight f (filter (λ x. not (p x)) xs)
weight-change f p g [] = refl
weight-change f p g (x ∷ xs) = change_step f g x (filter p xs) (filter (λ x. not (p x)) xs) (weight f (map (λ x. cond (p x) (g x) x) xs)) (weight-change f p g xs) (p x)
