-- The first refusal of lists that stand one behind another.
use Rattle.std.proofs.Common.{◌≡◌, ◌∙◌, ap, refl, sym, List, [], ◌∷◌, ◌++◌, map, Option, Some, None}
use Rattle.std.specs.Prelude.{flat_map}
use Rattle.wh_base.specs.Lists.{first_of, first_some}
use Rattle.wh_base.specs.declared.queries.ColName.{ColName}

here_by : {B : Type 0} (o : Option B) (os ps : List (Option B)) (b : B) → (Some b ≡ first_some os → Some b ≡ first_some ps) → Some b ≡ first_some (o ∷ os) → Some b ≡ first_some (o ∷ ps)
here_by None os ps b more e = more e
here_by (Some c) os ps b more e = e

pub first_here : {A B : Type 0} (h : A → Option B) (xs ys : List A) (b : B) → Some b ≡ first_of h xs → Some b ≡ first_of h (xs ++ ys)
first_here h [] ys b e = cc
first_here h (x ∷ xs) ys b e = here_by (h x) (map h xs) (map h (xs ++ ys)) b (first_here h xs ys b) e

later_by : {B : Type 0} (o : Option B) (os ps qs : List (Option B)) → (None ≡ first_some os → first_some ps ≡ first_some qs) → None ≡ first_some (o ∷ os) → first_some (o ∷ ps) ≡ first_some qs
later_by None os ps qs more e = more e
later_by (Some c) os ps qs more e = cc

pub first_later : {A B : Type 0} (h : A → Option B) (xs ys : List A) → None ≡ first_of h xs → first_of h (xs ++ ys) ≡ first_of h ys
first_later h [] ys e = refl
first_later h (x ∷ xs) ys e = later_by (h x) (map h xs) (map h (xs ++ ys)) (map h ys) (first_later h xs ys) e

-- the first of two lists
append_by : {B : Type 0} (o : Option B) (os ps qs : List (Option B)) → first_some ps ≡ first_some (first_some os ∷ first_some qs ∷ []) → first_some (o ∷ ps) ≡ first_some (first_some (o ∷ os) ∷ first_some qs ∷ [])
append_by None os ps qs e = e
append_by (Some b) os ps qs e = refl

none_first : {B : Type 0} (o : Option B) → o ≡ first_some (o ∷ [])
none_first None = refl
none_first (Some b) = refl

first_append : {A B : Type 0} (h : A → Option B) (xs ys : List A) → first_of h (xs ++ ys) ≡ first_some (first_of h xs ∷ first_of h ys ∷ [])
first_append h [] ys = none_first (first_of h ys)
first_append h (x ∷ xs) ys = append_by (h x) (map h xs) (map h (xs ++ ys)) (map h ys) (first_append h xs ys)

first_same : {B : Type 0} (o p : Option B) (os : List (Option B)) → p ≡ first_some os → first_some (o ∷ p ∷ []) ≡ first_some (o ∷ os)
first_same None p os e = sym (none_first p) ∙ e
first_same (Some b) p os e = refl

pub singles : (cs : List ColName) → flat_map (λ c. c ∷ []) cs ≡ cs
singles [] = refl
singles (c ∷ cs) = ap (λ ds. c ∷ ds) (singles cs)

-- part by part is the same as all in one list
nested : {A B C : Type 0} (h : B → Option C) (f : A → List B) (xs : List A) → first_of (λ x. first_of h (f x)) xs ≡ first_of h (flat_map f xs)
nested h f [] = refl
nested h f (x ∷ xs) = sym (first_append h (f x) (flat_map f xs) ∙ first_same (first_of h (f x)) (first_of h (flat_map f xs)) (map (λ y. first_of h (f y)) xs) (sym (nested h f xs)))

pub by_parts : {A B C : Type 0} (h : B → Option C) (f : A → List B) (xs : List A) (r : Option C) → r ≡ first_of (λ x. first_of h (f x)) xs → r ≡ first_of h (flat_map f xs)
by_parts h f xs r e = e ∙ nested h f xs

pub ruleset firsts = (by_parts)

pub ruleset names = (first_here, first_later, singles)
