-- Facts on lists by recursion, and what is found in lists that grow, lose items or have some changed.
use Rattle.std.proofs.Common.{◌≡◌, ◌∙◌, sym, ap, refl, subst, arith, ℕ, ◌<◌, ◌≤◌, Bool, true, false, cond, not, List, [], ◌∷◌, ◌++◌, map, None, Some, ◌==◌, ◌||◌}
use Rattle.std.specs.List.{All, AllPairs, filter, find, flat_map, list_any}
use Rattle.std.specs.Prelude.{option_map}
use Rattle.std.proofs.lemmas.Bool.{eqb-true}
use Rattle.std.proofs.lemmas.List.Elements.{All-cons, All-nil}
use Rattle.std.proofs.lemmas.List.Kept.{AllPairs-cons}
pub use Rattle.law_lists.proofs.Each.{Each, Each-append as each_append, Each-both as each_two, Each-filter as each_filter, Each-map as each_weaker, Each-of as each_every, Each-of_mapped as each_unmap}

-- ---- of each item, and of each item with each later one

abbrev pub Pairs : {A : Type 0} → (A → A → Type 0) → List A → Type 0
Pairs R [] = Unit {0}
Pairs R (x ∷ xs) = Each (R x) xs × Pairs R xs

pub all_from : {A : Type 0} (P : A → Type 0) (xs : List A) → Each P xs → All P xs
all_from P [] h = All-nil P
all_from P (x ∷ xs) h = All-cons P x xs h.0 (all_from P xs h.1)

pub pairs_from : {A : Type 0} (R : A → A → Type 0) (xs : List A) → Pairs R xs → AllPairs R xs
pairs_from R [] h = λ i j d below within. absurd (omega (arith, within))
pairs_from R (x ∷ xs) h = AllPairs-cons R x xs (all_from (R x) xs h.0) (pairs_from R xs h.1)

pub each_left : {A : Type 0} (P : A → Type 0) (xs ys : List A) → Each P (xs ++ ys) → Each P xs
each_left P [] ys h = tt
each_left P (x ∷ xs) ys h = (h.0, each_left P xs ys h.1)

pub each_right : {A : Type 0} (P : A → Type 0) (xs ys : List A) → Each P (xs ++ ys) → Each P ys
each_right P [] ys h = h
each_right P (x ∷ xs) ys h = each_right P xs ys h.1

pub each_map : {A B : Type 0} (P : A → Type 0) (Q : B → Type 0) (f : A → B) → ((x : A) → P x → Q (f x)) → (xs : List A) → Each P xs → Each Q (map f xs)
each_map P Q f k [] h = tt
each_map P Q f k (x ∷ xs) h = (k x h.0, each_map P Q f k xs h.1)

pub each_made : {A B : Type 0} (Q : B → Type 0) (f : A → B) → ((x : A) → Q (f x)) → (xs : List A) → Each Q (map f xs)
each_made Q f k [] = tt
each_made Q f k (x ∷ xs) = (k x, each_made Q f k xs)

pub each_flat : {A B : Type 0} (Q : B → Type 0) (f : A → List B) → ((x : A) → Each Q (f x)) → (xs : List A) → Each Q (flat_map f xs)
each_flat Q f k [] = tt
each_flat Q f k (x ∷ xs) = each_append Q (f x) (flat_map f xs) (k x) (each_flat Q f k xs)

pub pairs_append : {A : Type 0} (R : A → A → Type 0) (xs ys : List A) → Pairs R xs → Pairs R ys → Each (λ x. Each (R x) ys) xs → Pairs R (xs ++ ys)
pairs_append R [] ys h k across = k
pairs_append R (x ∷ xs) ys h k across = (each_append (R x) xs ys h.0 across.0, pairs_append R xs ys h.1 k across.1)

pub pairs_left : {A : Type 0} (R : A → A → Type 0) (xs ys : List A) → Pairs R (xs ++ ys) → Pairs R xs
pairs_left R [] ys h = tt
pairs_left R (x ∷ xs) ys h = (each_left (R x) xs ys h.0, pairs_left R xs ys h.1)

pub pairs_right : {A : Type 0} (R : A → A → Type 0) (xs ys : List A) → Pairs R (xs ++ ys) → Pairs R ys
pairs_right R [] ys h = h
pairs_right R (x ∷ xs) ys h = pairs_right R xs ys h.1

pub pairs_across : {A : Type 0} (R : A → A → Type 0) (xs ys : List A) → Pairs R (xs ++ ys) → Each (λ x. Each (R x) ys) xs
pairs_across R [] ys h = tt
pairs_across R (x ∷ xs) ys h = (each_right (R x) xs ys h.0, pairs_across R xs ys h.1)

pub pairs_map : {A : Type 0} (R : A → A → Type 0) (f : A → A) → ((x y : A) → R x y → R (f x) (f y)) → (xs : List A) → Pairs R xs → Pairs R (map f xs)
pairs_map R f k [] h = tt
pairs_map R f k (x ∷ xs) h = (each_map (R x) (R (f x)) f (k x) xs h.0, pairs_map R f k xs h.1)

pub pairs_filter : {A : Type 0} (R : A → A → Type 0) (p : A → Bool) (xs : List A) → Pairs R xs → Pairs R (filter p xs)
pairs_filter R p [] h = tt
pairs_filter R p (x ∷ xs) h = by (p x) (each_filter (R x) p xs h.0) (pairs_filter R p xs h.1)
  where
    by : (b : Bool) → Each (R x) (filter p xs) → Pairs R (filter p xs) → Pairs R (cond b (x ∷ filter p xs) (filter p xs))
    by true first rest = (first, rest)
    by false first rest = rest

pub pairs_push : {A : Type 0} (R : A → A → Type 0) (xs : List A) (y : A) → Pairs R xs → Each (λ x. R x y) xs → Pairs R (xs ++ y ∷ [])
pairs_push R [] y h k = (tt, tt)
pairs_push R (x ∷ xs) y h k = (each_append (R x) xs (y ∷ []) h.0 (k.0, tt), pairs_push R xs y h.1 k.1)

-- items of one level never fall
pub pairs_level : {A : Type 0} (level : A → ℕ) (n : ℕ) (xs : List A) → Each (λ x. level x ≡ n) xs → Pairs (λ x y. level x ≤ level y) xs
pairs_level level n [] h = tt
pairs_level level n (x ∷ xs) h =
    let first : level x ≡ n = h.0 in
    (each_weaker (λ y. level y ≡ n) (λ y. level x ≤ level y) (λ y same. omega arith) xs h.1, pairs_level level n xs h.1)

-- what holds of each item holds of one that is found
pub each_found : {A : Type 0} (P : A → Type 0) (p : A → Bool) (xs : List A) (x : A) → Each P xs → find p xs ≡ Some x → P x
each_found P p [] x h e = absurd (cc)
each_found P p (y ∷ xs) x h e = by (p y) e (each_found P p xs x h.1)
  where
    by : (b : Bool) → cond b (Some y) (find p xs) ≡ Some x → (find p xs ≡ Some x → P x) → P x
    by true found more = let same : y ≡ x = cc in subst P same h.0
    by false found more = more found

-- ---- what is found

-- numbers of items, and the test for one
module _ {A : Type 0} (key : A → ℕ) where
  abbrev pub keyed : ℕ → A → Bool
  keyed n x = key x == n

  -- what has another number than was taken out is still found
  pub find_without : (m n : ℕ) (xs : List A) → (m == n) ≡ false → find (keyed n) (filter (λ y. not (keyed m y)) xs) ≡ find (keyed n) xs
  find_without m n [] differ = refl
  find_without m n (x ∷ xs) differ = by (key x == m) refl (find_without m n xs differ)
    where
      by : (b : Bool) → (key x == m) ≡ b → find (keyed n) (filter (λ y. not (keyed m y)) xs) ≡ find (keyed n) xs
          → find (keyed n) (cond (not b) (x ∷ filter (λ y. not (keyed m y)) xs) (filter (λ y. not (keyed m y)) xs)) ≡ find (keyed n) (x ∷ xs)
      by true e h =
          let other : (key x == n) ≡ false = ap (λ k. k == n) (eqb-true (key x) m e) ∙ differ in
          h ∙ sym (ap (λ c. cond c (Some x) (find (keyed n) xs)) other)
      by false e h = ap (λ o. cond (key x == n) (Some x) o) h

  -- what was taken out isn't
  pub find_taken : (n : ℕ) (xs : List A) → find (keyed n) (filter (λ y. not (keyed n y)) xs) ≡ None
  find_taken n [] = refl
  find_taken n (x ∷ xs) = by (key x == n) refl (find_taken n xs)
    where
      by : (b : Bool) → (key x == n) ≡ b → find (keyed n) (filter (λ y. not (keyed n y)) xs) ≡ None
          → find (keyed n) (cond (not b) (x ∷ filter (λ y. not (keyed n y)) xs) (filter (λ y. not (keyed n y)) xs)) ≡ None
      by true e h = h
      by false e h = ap (λ c. cond c (Some x) (find (keyed n) (filter (λ y. not (keyed n y)) xs))) e ∙ h

  -- what is found after one was taken out was found before
  pub find_left : (m n : ℕ) (xs : List A) (w : A) → find (keyed n) (filter (λ y. not (keyed m y)) xs) ≡ Some w → find (keyed n) xs ≡ Some w
  find_left m n xs w found = by (m == n) refl
    where
      by : (b : Bool) → (m == n) ≡ b → find (keyed n) xs ≡ Some w
      by true e =
          let gone : find (keyed n) (filter (λ y. not (keyed m y)) xs) ≡ None =
          subst (λ k. find (keyed n) (filter (λ y. not (keyed k y)) xs) ≡ None) (sym (eqb-true m n e)) (find_taken n xs) in
          cc
      by false e = sym (find_without m n xs e) ∙ found

  -- what is found has the number
  pub find_has : (n : ℕ) (xs : List A) (w : A) → find (keyed n) xs ≡ Some w → key w ≡ n
  find_has n [] w found = absurd (cc)
  find_has n (x ∷ xs) w found = by (key x == n) refl found (find_has n xs w)
    where
      by : (b : Bool) → (key x == n) ≡ b → cond b (Some x) (find (keyed n) xs) ≡ Some w → (find (keyed n) xs ≡ Some w → key w ≡ n) → key w ≡ n
      by true e f h = let same : x ≡ w = cc in ap key (sym same) ∙ eqb-true (key x) n e
      by false e f h = h f

  -- an item behind with another number isn't found
  pub find_pushed : (n : ℕ) (xs : List A) (y : A) → (key y == n) ≡ false → find (keyed n) (xs ++ y ∷ []) ≡ find (keyed n) xs
  find_pushed n [] y differ = ap (λ c. cond c (Some y) None) differ
  find_pushed n (x ∷ xs) y differ = ap (λ o. cond (key x == n) (Some x) o) (find_pushed n xs y differ)

  -- items that keep their numbers are found as they are now
  pub find_changed : (f : A → A) → ((x : A) → key (f x) ≡ key x) → (n : ℕ) (xs : List A) → find (keyed n) (map f xs) ≡ option_map f (find (keyed n) xs)
  find_changed f keeps n [] = refl
  find_changed f keeps n (x ∷ xs) =
      ap (λ k. cond (k == n) (Some (f x)) (find (keyed n) (map f xs))) (keeps x) ∙ by (key x == n) (find_changed f keeps n xs)
    where
      by : (b : Bool) → find (keyed n) (map f xs) ≡ option_map f (find (keyed n) xs)
          → cond b (Some (f x)) (find (keyed n) (map f xs)) ≡ option_map f (cond b (Some x) (find (keyed n) xs))
      by true h = refl
      by false h = h

-- what stands in front of what passes isn't found
pub find_behind : {A : Type 0} (p : A → Bool) (xs ys : List A) → Each (λ x. p x ≡ false) xs → find p (xs ++ ys) ≡ find p ys
find_behind p [] ys h = refl
find_behind p (x ∷ xs) ys h = ap (λ b. cond b (Some x) (find p (xs ++ ys))) h.0 ∙ find_behind p xs ys h.1

-- where each passes both tests they find the same
pub find_alike : {A : Type 0} (p q : A → Bool) (xs : List A) → Each (λ x. (p x ≡ true) × (q x ≡ true)) xs → find p xs ≡ find q xs
find_alike p q [] h = refl
find_alike p q (x ∷ xs) h = ap (λ b. cond b (Some x) (find p xs)) h.0.0 ∙ sym (ap (λ b. cond b (Some x) (find q xs)) h.0.1)

-- nothing is left where nothing passes
pub filter_none : {A : Type 0} (p : A → Bool) (xs : List A) → Each (λ x. p x ≡ false) xs → filter p xs ≡ []
filter_none p [] h = refl
filter_none p (x ∷ xs) h = ap (λ b. cond b (x ∷ filter p xs) (filter p xs)) h.0 ∙ filter_none p xs h.1

pub filter_behind : {A : Type 0} (p : A → Bool) (xs ys : List A) → Each (λ x. p x ≡ false) ys → filter p (xs ++ ys) ≡ filter p xs
filter_behind p [] ys h = filter_none p ys h
filter_behind p (x ∷ xs) ys h = ap (λ rest. cond (p x) (x ∷ rest) rest) (filter_behind p xs ys h)

-- ---- tests of numbers

pub eq_false : (m n : ℕ) → m < n → (n == m) ≡ false
eq_false m n h = by (n == m) refl
  where
    by : (b : Bool) → (n == m) ≡ b → (n == m) ≡ false
    by true e = let same : n ≡ m = eqb-true n m e in absurd (omega arith)
    by false e = e

pub below_differs : (m n : ℕ) → m < n → (m == n) ≡ false
below_differs m n low = by (m == n) refl
  where
    by : (b : Bool) → (m == n) ≡ b → (m == n) ≡ false
    by true e = let same : m ≡ n = eqb-true m n e in absurd (omega arith)
    by false e = e

pub any_false : {A : Type 0} (p : A → Bool) (xs : List A) → Each (λ x. p x ≡ false) xs → list_any p xs ≡ false
any_false p [] h = refl
any_false p (x ∷ xs) h = ap (λ b. b || list_any p xs) h.0 ∙ any_false p xs h.1
