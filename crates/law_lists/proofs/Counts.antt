-- Lists whose tests hold as often.
use Rattle.std.proofs.Common.{◌≡◌, ◌∙◌, sym, ap, refl, arith, ℕ, zero, suc, ◌+◌, Bool, true, false, cond, not, List, [], ◌∷◌, ◌++◌, map}
use Rattle.std.specs.Prelude.{◌&&◌, ◌||◌}
use Rattle.std.proofs.Math.Bool.{or-true}
use Rattle.std.specs.Bool.{Decides}
use Rattle.std.specs.List.{filter, flat_map, list_any}
use Rattle.wh_base.specs.Lists.{distinct, distinct_after}
use Rattle.wh_base.proofs.Sorting.{times, SameCounts}

abbrev pub one_if : Bool → ℕ
one_if b = cond b 1 0

pub times-append : {A : Type 0} (p : A → Bool) (xs ys : List A) → times p (xs ++ ys) ≡ times p xs + times p ys
times-append p [] ys = omega arith
times-append p (x ∷ xs) ys = omega (arith, times-append p xs ys)

pub times-map : {A B : Type 0} (f : A → B) (p : B → Bool) (xs : List A) → times p (map f xs) ≡ times (λ x. p (f x)) xs
times-map f p [] = refl
times-map f p (x ∷ xs) = ap (λ n. cond (p (f x)) 1 0 + n) (times-map f p xs)

pub times-filter : {A : Type 0} (q p : A → Bool) (xs : List A) → times p (filter q xs) ≡ times (λ x. q x && p x) xs
times-filter q p [] = refl
times-filter {A} q p (x ∷ xs) = by (q x) (times-filter q p xs)
  where
    by : (b : Bool) → times p (filter q xs) ≡ times (λ y. q y && p y) xs → times p (cond b (x ∷ filter q xs) (filter q xs)) ≡ cond (b && p x) 1 0 + times (λ y. q y && p y) xs
    by true h = ap (λ n. cond (p x) 1 0 + n) h
    by false h = omega (arith, h)

pub times_agree : {A : Type 0} (p q : A → Bool) → ((x : A) → p x ≡ q x) → (xs : List A) → times p xs ≡ times q xs
times_agree p q h xs = ap (λ r. times r xs) (λ i x. h x i)

pub SameCounts-trans : {A : Type 0} (xs ys zs : List A) → SameCounts xs ys → SameCounts ys zs → SameCounts xs zs
SameCounts-trans xs ys zs h k p = h p ∙ k p

pub SameCounts-sym : {A : Type 0} (xs ys : List A) → SameCounts xs ys → SameCounts ys xs
SameCounts-sym xs ys h p = sym (h p)

pub SameCounts-is : {A : Type 0} (xs ys : List A) → xs ≡ ys → SameCounts xs ys
SameCounts-is xs ys e p = ap (times p) e

pub SameCounts-map : {A B : Type 0} (f : A → B) (xs ys : List A) → SameCounts xs ys → SameCounts (map f xs) (map f ys)
SameCounts-map f xs ys h p = times-map f p xs ∙ h (λ x. p (f x)) ∙ sym (times-map f p ys)

pub SameCounts-filter : {A : Type 0} (q : A → Bool) (xs ys : List A) → SameCounts xs ys → SameCounts (filter q xs) (filter q ys)
SameCounts-filter q xs ys h p = times-filter q p xs ∙ h (λ x. q x && p x) ∙ sym (times-filter q p ys)

-- ---- whether some element passes

unfoldable pub is_positive : ℕ → Bool
is_positive zero = false
is_positive (suc n) = true

pub positive_sum : (b : Bool) (n : ℕ) → is_positive (cond b 1 0 + n) ≡ (b || is_positive n)
unfolding is_positive
positive_sum true n = let e : 1 + n ≡ suc n = omega arith in ap is_positive e
positive_sum false n = let e : 0 + n ≡ n = omega arith in ap is_positive e

pub list_any_times : {A : Type 0} (p : A → Bool) (xs : List A) → list_any p xs ≡ is_positive (times p xs)
unfolding is_positive
list_any_times p [] = refl
list_any_times p (x ∷ xs) = ap (λ b. p x || b) (list_any_times p xs) ∙ sym (positive_sum (p x) (times p xs))

pub list_any_same : {A : Type 0} (p : A → Bool) (xs ys : List A) → SameCounts xs ys → list_any p xs ≡ list_any p ys
list_any_same p xs ys h = list_any_times p xs ∙ ap is_positive (h p) ∙ sym (list_any_times p ys)

-- ---- distinct elements

module _ {A : Type 0} (same : A → A → Bool) (decides : (x y : A) → Decides (same x y) (x ≡ y)) where
  pub itself : (x : A) → same x x ≡ true
  itself x = (decides x x).1 refl

  distinct_step : (k x : A) (seen xs : List A) (s t : Bool) → same k x ≡ s → list_any (same x) seen ≡ t
      → ((more : List A) → times (same k) (distinct_after same more xs) ≡ cond (list_any (same k) xs && not (list_any (same k) more)) 1 0)
      → times (same k) (cond t (distinct_after same seen xs) (x ∷ distinct_after same (x ∷ seen) xs)) ≡ cond ((s || list_any (same k) xs) && not (list_any (same k) seen)) 1 0
  distinct_step k x seen xs true true e f h =
      let there : list_any (same k) seen ≡ true = ap (λ y. list_any (same y) seen) ((decides k x).0 e) ∙ f in
      h seen ∙ ap (λ b. one_if (list_any (same k) xs && not b)) there ∙ none (list_any (same k) xs) ∙ sym (ap (λ b. one_if (not b)) there)
    where
      none : (b : Bool) → one_if (b && false) ≡ 0
      none true = refl
      none false = refl
  distinct_step k x seen xs false true e f h = h seen
  distinct_step k x seen xs true false e f h =
      let apart : list_any (same k) seen ≡ false = ap (λ y. list_any (same y) seen) ((decides k x).0 e) ∙ f in
      let rest : times (same k) (distinct_after same (x ∷ seen) xs) ≡ 0 = h (x ∷ seen) ∙ ap (λ b. one_if (list_any (same k) xs && not (b || list_any (same k) seen))) e ∙ none (list_any (same k) xs) in
      ap (λ b. one_if b + times (same k) (distinct_after same (x ∷ seen) xs)) e ∙ ap (λ n. 1 + n) rest ∙ sym (ap (λ b. one_if (not b)) apart)
    where
      none : (b : Bool) → one_if (b && false) ≡ 0
      none true = refl
      none false = refl
  distinct_step k x seen xs false false e f h =
      let rest : times (same k) (distinct_after same (x ∷ seen) xs) ≡ cond (list_any (same k) xs && not (list_any (same k) seen)) 1 0
      = h (x ∷ seen) ∙ ap (λ b. one_if (list_any (same k) xs && not (b || list_any (same k) seen))) e in
      ap (λ b. one_if b + times (same k) (distinct_after same (x ∷ seen) xs)) e ∙ omega (arith, rest)

  distinct_after_times : (k : A) (seen xs : List A) → times (same k) (distinct_after same seen xs) ≡ cond (list_any (same k) xs && not (list_any (same k) seen)) 1 0
  distinct_after_times k seen [] = refl
  distinct_after_times k seen (x ∷ xs) = distinct_step k x seen xs (same k x) (list_any (same x) seen) refl refl (λ more. distinct_after_times k more xs)

  -- each element stands once
  pub distinct_times : (k : A) (xs : List A) → times (same k) (distinct same xs) ≡ cond (list_any (same k) xs) 1 0
  distinct_times k xs = distinct_after_times k [] xs ∙ by (list_any (same k) xs)
    where
      by : (b : Bool) → one_if (b && true) ≡ one_if b
      by true = refl
      by false = refl

  -- ---- lists in which each element stands as often

  unfoldable pub without : A → List A → List A
  without x [] = []
  without x (y ∷ ys) = cond (same x y) ys (y ∷ without x ys)

  pub times-without : (p : A → Bool) (x : A) (ys : List A) → list_any (same x) ys ≡ true → times p ys ≡ cond (p x) 1 0 + times p (without x ys)
  unfolding without
  times-without p x [] h = cc
  times-without p x (y ∷ ys) h = by (same x y) refl (times-without p x ys) h
    where
      by : (b : Bool) → same x y ≡ b → (list_any (same x) ys ≡ true → times p ys ≡ cond (p x) 1 0 + times p (without x ys)) → (b || list_any (same x) ys) ≡ true
          → cond (p y) 1 0 + times p ys ≡ cond (p x) 1 0 + times p (cond b ys (y ∷ without x ys))
      by true e ih h = ap (λ z. cond (p z) 1 0 + times p ys) (sym ((decides x y).0 e))
      by false e ih h = omega (arith, ih h)

  pub same_each : (xs ys : List A) → ((k : A) → times (same k) xs ≡ times (same k) ys) → SameCounts xs ys
  unfolding is_positive
  same_each [] [] h p = refl
  same_each [] (y ∷ ys) h p =
      let one : times (same y) (y ∷ ys) ≡ 1 + times (same y) ys = ap (λ b. one_if b + times (same y) ys) (itself y) in
      absurd (omega (arith, h y, one))
  same_each (x ∷ xs) ys h p =
      let one : times (same x) (x ∷ xs) ≡ 1 + times (same x) xs = ap (λ b. one_if b + times (same x) xs) (itself x) in
      let more : times (same x) ys ≡ suc (times (same x) xs) = omega (arith, h x, one) in
      let there : list_any (same x) ys ≡ true = list_any_times (same x) ys ∙ ap is_positive more in
      let rest : (k : A) → times (same k) xs ≡ times (same k) (without x ys) = λ k. omega (arith, h k, times-without (same k) x ys there) in
      omega (arith, same_each xs (without x ys) rest p, times-without p x ys there)

  -- the distinct elements are determined by which elements there are
  pub distinct_same : (xs ys : List A) → ((k : A) → list_any (same k) xs ≡ list_any (same k) ys) → SameCounts (distinct same xs) (distinct same ys)
  distinct_same xs ys h = same_each (distinct same xs) (distinct same ys) (λ k. distinct_times k xs ∙ ap one_if (h k) ∙ sym (distinct_times k ys))

  -- ---- the parts of a list by a key, put together

  module _ {T : Type 0} (key : T → A) where
    abbrev pub part_of : List T → A → List T
    part_of ts k = filter (λ t. same (key t) k) ts

    no_parts : (p : T → Bool) (ks : List A) → times p (flat_map (part_of []) ks) ≡ 0
    no_parts p [] = refl
    no_parts p (k ∷ ks) = no_parts p ks

    one_more : (p : T → Bool) (t : T) (ts : List T) (ks : List A) → times p (flat_map (part_of (t ∷ ts)) ks) ≡ cond (p t) (times (same (key t)) ks) 0 + times p (flat_map (part_of ts) ks)
    one_more p t ts [] = nothing (p t)
      where
        nothing : (b : Bool) → 0 ≡ cond b 0 0 + 0
        nothing true = omega arith
        nothing false = omega arith
    one_more p t ts (k ∷ ks) =
        times-append p (part_of (t ∷ ts) k) (flat_map (part_of (t ∷ ts)) ks)
        ∙ step (same (key t) k) (p t) refl (one_more p t ts ks)
        ∙ ap (λ n. cond (p t) (cond (same (key t) k) 1 0 + times (same (key t)) ks) 0 + n) (sym (times-append p (part_of ts k) (flat_map (part_of ts) ks)))
      where
        step : (b c : Bool) → p t ≡ c → times p (flat_map (part_of (t ∷ ts)) ks) ≡ cond c (times (same (key t)) ks) 0 + times p (flat_map (part_of ts) ks)
            → times p (cond b (t ∷ part_of ts k) (part_of ts k)) + times p (flat_map (part_of (t ∷ ts)) ks) ≡ cond c (cond b 1 0 + times (same (key t)) ks) 0 + (times p (part_of ts k) + times p (flat_map (part_of ts) ks))
        step true true e h = let d : cond (p t) 1 0 ≡ 1 = ap one_if e in omega (arith, h, d)
        step true false e h = let d : cond (p t) 1 0 ≡ 0 = ap one_if e in omega (arith, h, d)
        step false true e h = omega (arith, h)
        step false false e h = omega (arith, h)

    parts_together : (ks : List A) (ts : List T) → ((k : A) → list_any (same k) (map key ts) ≡ true → times (same k) ks ≡ 1) → SameCounts (flat_map (part_of ts) ks) ts
    parts_together ks [] once p = no_parts p ks
    parts_together ks (t ∷ ts) once p =
        let here : times (same (key t)) ks ≡ 1 = once (key t) (ap (λ b. b || list_any (same (key t)) (map key ts)) (itself (key t))) in
        let later : (k : A) → list_any (same k) (map key ts) ≡ true → times (same k) ks ≡ 1 = λ k h. once k (ap (λ b. same k (key t) || b) h ∙ or-true (same k (key t))) in
        one_more p t ts ks ∙ ap (λ n. cond (p t) n 0 + times p (flat_map (part_of ts) ks)) here ∙ ap (λ n. cond (p t) 1 0 + n) (parts_together ks ts later p)

    -- the parts of the distinct keys are the list
    pub distinct_parts : (ts : List T) → SameCounts (flat_map (part_of ts) (distinct same (map key ts))) ts
    distinct_parts ts = parts_together (distinct same (map key ts)) ts (λ k h. distinct_times k (map key ts) ∙ ap one_if h)
