-- Two lists side by side.
use Rattle.std.proofs.Common.{◌≡◌, ◌∙◌, ap, subst, refl, Bool, true, false, List, [], ◌∷◌, map, Option, Some, None}
use Rattle.std.specs.Prelude.{◌||◌, not, option_map}
use Rattle.std.specs.List.{list_any}
use Rattle.std.proofs.lemmas.Option.{same_Some}
use Rattle.wh_base.specs.Lists.{all_there, head, is_empty, option_case}
use Rattle.wh_base.proofs.Sorting.{SameCounts}
use Rattle.law_lists.proofs.Counts.{list_any_same}
use Rattle.law_nest.specs.Each.{Each}

abbrev pub Pairs : {A B : Type 0} → (A → B → Type 0) → List A → List B → Type 0
Pairs R [] [] = Unit {0}
Pairs R [] (y ∷ ys) = ⊥
Pairs R (x ∷ xs) [] = ⊥
Pairs R (x ∷ xs) (y ∷ ys) = R x y × Pairs R xs ys

-- where each is there, each is what its own option has
pub there_pairs : {A B : Type 0} (f : A → Option B) (xs : List A) (ys : List B) → all_there (map f xs) ≡ Some ys → Pairs (λ x y. f x ≡ Some y) xs ys
there_pairs f [] [] e = tt
there_pairs f [] (y ∷ ys) e = cc
there_pairs {A} {B} f (x ∷ xs) ys e = by (f x) refl (λ zs. there_pairs f xs zs) e
  where
    rest : ((zs : List B) → all_there (map f xs) ≡ Some zs → Pairs (λ x y. f x ≡ Some y) xs zs)
        → (y : B) → f x ≡ Some y → (o : Option (List B)) → all_there (map f xs) ≡ o → option_map (λ zs. y ∷ zs) o ≡ Some ys → Pairs (λ x y. f x ≡ Some y) (x ∷ xs) ys
    rest later y h None k e = cc
    rest later y h (Some zs) k e = subst (Pairs (λ x y. f x ≡ Some y) (x ∷ xs)) (same_Some (y ∷ zs) ys e) (h, later zs k)

    by : (o : Option B) → f x ≡ o → ((zs : List B) → all_there (map f xs) ≡ Some zs → Pairs (λ x y. f x ≡ Some y) xs zs) → all_there (o ∷ map f xs) ≡ Some ys → Pairs (λ x y. f x ≡ Some y) (x ∷ xs) ys
    by None h later e = cc
    by (Some y) h later e = rest later y h (all_there (map f xs)) refl e

pub pairs_map : {A B C : Type 0} (R : A → B → Type 0) (P : B → Type 0) (g : A → C) (h : B → C) → ((x : A) (y : B) → R x y → P y → g x ≡ h y)
    → (xs : List A) (ys : List B) → Pairs R xs ys → Each P ys → map g xs ≡ map h ys
pairs_map R P g h f [] [] p k = refl
pairs_map R P g h f [] (y ∷ ys) p k = absurd p
pairs_map R P g h f (x ∷ xs) [] p k = absurd p
pairs_map R P g h f (x ∷ xs) (y ∷ ys) p k = λ i. f x y p.0 k.0 i ∷ pairs_map R P g h f xs ys p.1 k.1 i

-- a test that all of one list pass, all of another with the same elements pass
none_fails : {A : Type 0} (p : A → Bool) (xs : List A) → Each (λ x. p x ≡ true) xs → list_any (λ x. not (p x)) xs ≡ false
none_fails p [] h = refl
none_fails p (x ∷ xs) h = ap (λ b. not b || list_any (λ y. not (p y)) xs) h.0 ∙ none_fails p xs h.1

all_pass : {A : Type 0} (p : A → Bool) (xs : List A) → list_any (λ x. not (p x)) xs ≡ false → Each (λ x. p x ≡ true) xs
all_pass p [] h = tt
all_pass p (x ∷ xs) h = by (p x) refl (all_pass p xs) h
  where
    by : (b : Bool) → p x ≡ b → (list_any (λ y. not (p y)) xs ≡ false → Each (λ y. p y ≡ true) xs) → (not b || list_any (λ y. not (p y)) xs) ≡ false → Each (λ y. p y ≡ true) (x ∷ xs)
    by true e later k = (e, later k)
    by false e later k = cc

pub Each-same : {A : Type 0} (p : A → Bool) (xs ys : List A) → SameCounts xs ys → Each (λ y. p y ≡ true) ys → Each (λ x. p x ≡ true) xs
Each-same p xs ys h k = all_pass p xs (list_any_same (λ x. not (p x)) xs ys h ∙ none_fails p ys k)

-- what all have, the first has
pub first_is : {A B : Type 0} (f : A → B) (none w : B) (xs : List A) → is_empty xs ≡ false → Each (λ x. f x ≡ w) xs → option_case (head xs) none f ≡ w
first_is f none w [] e h = cc
first_is f none w (x ∷ xs) e h = h.0
