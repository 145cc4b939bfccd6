-- Facts on lists by recursion.
use Rattle.std.proofs.Common.{◌≡◌, ◌∙◌, ap, refl, Bool, true, false, cond, List, [], ◌∷◌, ◌++◌, map, Some}
use Rattle.std.specs.List.{All, filter, find, list_any}
use Rattle.std.specs.Prelude.{option_map, ◌||◌}
use Rattle.std.proofs.lemmas.List.Elements.{All-cons, All-head, All-nil, All-tail}
use Rattle.wh_base.specs.Lists.{change_where, is_empty}

-- ---- of each item

abbrev pub Each : {A : Type 0} → (A → Type 0) → List A → Type 0
Each P [] = Unit {0}
Each P (x ∷ xs) = P x × Each P xs

pub each_from : {A : Type 0} (P : A → Type 0) (xs : List A) → All P xs → Each P xs
each_from P [] h = tt
each_from P (x ∷ xs) h = (All-head P x xs h, each_from P xs (All-tail P x xs h))

pub all_from : {A : Type 0} (P : A → Type 0) (xs : List A) → Each P xs → All P xs
all_from P [] h = All-nil P
all_from P (x ∷ xs) h = All-cons P x xs h.0 (all_from P xs h.1)

pub each_weaker : {A : Type 0} (P Q : A → Type 0) → ((x : A) → P x → Q x) → (xs : List A) → Each P xs → Each Q xs
each_weaker P Q f [] h = tt
each_weaker P Q f (x ∷ xs) h = (f x h.0, each_weaker P Q f xs h.1)

pub each_both : {A : Type 0} (P Q R : A → Type 0) → ((x : A) → P x → Q x → R x) → (xs : List A) → Each P xs → Each Q xs → Each R xs
each_both P Q R f [] h k = tt
each_both P Q R f (x ∷ xs) h k = (f x h.0 k.0, each_both P Q R f xs h.1 k.1)

pub each_append : {A : Type 0} (P : A → Type 0) (xs ys : List A) → Each P xs → Each P ys → Each P (xs ++ ys)
each_append P [] ys h k = k
each_append P (x ∷ xs) ys h k = (h.0, each_append P xs ys h.1 k)

pub each_made : {A B : Type 0} (Q : B → Type 0) (f : A → B) → ((x : A) → Q (f x)) → (xs : List A) → Each Q (map f xs)
each_made Q f k [] = tt
each_made Q f k (x ∷ xs) = (k x, each_made Q f k xs)

pub each_map : {A B : Type 0} (P : A → Type 0) (Q : B → Type 0) (f : A → B) → ((x : A) → P x → Q (f x)) → (xs : List A) → Each P xs → Each Q (map f xs)
each_map P Q f k [] h = tt
each_map P Q f k (x ∷ xs) h = (k x h.0, each_map P Q f k xs h.1)

pub each_unmap : {A B : Type 0} (Q : B → Type 0) (f : A → B) (xs : List A) → Each Q (map f xs) → Each (λ x. Q (f x)) xs
each_unmap Q f [] h = tt
each_unmap Q f (x ∷ xs) h = (h.0, each_unmap Q f xs h.1)

pub each_filter : {A : Type 0} (P : A → Type 0) (p : A → Bool) (xs : List A) → Each P xs → Each P (filter p xs)
each_filter P p [] h = tt
each_filter P p (x ∷ xs) h = by (p x) h.0 (each_filter P p xs h.1)
  where
    by : (b : Bool) → P x → Each P (filter p xs) → Each P (cond b (x ∷ filter p xs) (filter p xs))
    by true first rest = (first, rest)
    by false first rest = rest

pub each_changed : {A : Type 0} (P : A → Type 0) (p : A → Bool) (f : A → A) → ((x : A) → P x → P (f x)) → (xs : List A) → Each P xs → Each P (change_where p f xs)
each_changed P p f k [] h = tt
each_changed P p f k (x ∷ xs) h = (by (p x), each_changed P p f k xs h.1)
  where
    by : (b : Bool) → P (cond b (f x) x)
    by true = k x h.0
    by false = h.0

-- ---- what is made of lists

pub map_map : {A B C : Type 0} (f : A → B) (g : B → C) (xs : List A) → map g (map f xs) ≡ map (λ x. g (f x)) xs
map_map f g [] = refl
map_map f g (x ∷ xs) = ap (λ ys. g (f x) ∷ ys) (map_map f g xs)

pub any_map : {A B : Type 0} (f : A → B) (p : B → Bool) (xs : List A) → list_any p (map f xs) ≡ list_any (λ x. p (f x)) xs
any_map f p [] = refl
any_map f p (x ∷ xs) = ap (λ b. p (f x) || b) (any_map f p xs)

pub find_map : {A B : Type 0} (f : A → B) (p : B → Bool) (xs : List A) → find p (map f xs) ≡ option_map f (find (λ x. p (f x)) xs)
find_map f p [] = refl
find_map f p (x ∷ xs) = by (p (f x)) (find_map f p xs)
  where
    by : (b : Bool) → find p (map f xs) ≡ option_map f (find (λ y. p (f y)) xs)
        → cond b (Some (f x)) (find p (map f xs)) ≡ option_map f (cond b (Some x) (find (λ y. p (f y)) xs))
    by true h = refl
    by false h = h

-- each has a change there that is the one here
pub map_changed : {A B : Type 0} (P : A → Type 0) (f : A → B) (p : B → Bool) (change : A → A) (there : B → B) → ((x : A) → P x → f (change x) ≡ there (f x)) → (xs : List A)
    → Each P xs → map f (change_where (λ x. p (f x)) change xs) ≡ change_where p there (map f xs)
map_changed P f p change there same [] h = refl
map_changed P f p change there same (x ∷ xs) h = (λ i. by (p (f x)) i ∷ map_changed P f p change there same xs h.1 i)
  where
    by : (b : Bool) → f (cond b (change x) x) ≡ cond b (there (f x)) (f x)
    by true = same x h.0
    by false = refl

pub map_filter : {A B : Type 0} (f : A → B) (p : B → Bool) (xs : List A) → map f (filter (λ x. p (f x)) xs) ≡ filter p (map f xs)
map_filter f p [] = refl
map_filter f p (x ∷ xs) = by (p (f x)) (map_filter f p xs)
  where
    by : (b : Bool) → map f (filter (λ y. p (f y)) xs) ≡ filter p (map f xs)
        → map f (cond b (x ∷ filter (λ y. p (f y)) xs) (filter (λ y. p (f y)) xs)) ≡ cond b (f x ∷ filter p (map f xs)) (filter p (map f xs))
    by true h = ap (λ ys. f x ∷ ys) h
    by false h = h

-- tests that agree on each item leave the same
pub filter_alike : {A : Type 0} (p q : A → Bool) (xs : List A) → Each (λ x. p x ≡ q x) xs → filter p xs ≡ filter q xs
filter_alike p q [] h = refl
filter_alike p q (x ∷ xs) h = (λ i. cond (h.0 i) (x ∷ filter_alike p q xs h.1 i) (filter_alike p q xs h.1 i))

pub filter_none : {A : Type 0} (p : A → Bool) (xs : List A) → Each (λ x. p x ≡ false) xs → filter p xs ≡ []
filter_none p [] h = refl
filter_none p (x ∷ xs) h = ap (λ b. cond b (x ∷ filter p xs) (filter p xs)) h.0 ∙ filter_none p xs h.1

pub nonempty_left : {A : Type 0} (xs ys : List A) → is_empty xs ≡ false → is_empty (xs ++ ys) ≡ false
nonempty_left [] ys h = absurd (cc)
nonempty_left (x ∷ xs) ys h = refl

pub nonempty_right : {A : Type 0} (xs ys : List A) → is_empty ys ≡ false → is_empty (xs ++ ys) ≡ false
nonempty_right [] ys h = h
nonempty_right (x ∷ xs) ys h = refl

pub empty_map : {A B : Type 0} (f : A → B) (xs : List A) → is_empty (map f xs) ≡ is_empty xs
empty_map f [] = refl
empty_map f (x ∷ xs) = refl
