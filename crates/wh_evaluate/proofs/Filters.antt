-- Tests on lists, and what stays of them in sorted lists and in products.
use Rattle.std.proofs.Common.{◌≡◌, ◌∙◌, ap, refl, arith, ℕ, suc, Bool, true, false, cond, not, List, [], ◌∷◌, ◌++◌, ◌≤◌, Option, Some, None, length, map}
use Rattle.std.proofs.lemmas.Bool.{and_from, and_parts, not-false}
use Rattle.std.proofs.lemmas.List.Elements.{All-cons}
use Rattle.std.specs.List.{All, cons_option, filter, filter_map, flat_map, list_all}
use Rattle.std.specs.Prelude.{◌&&◌}
use Rattle.std.specs.declared.cmp.Ordering.{Ordering}
use Rattle.wh_base.proofs.Sorting.{sorted_counts, times}
use Rattle.wh_base.specs.Lists.{sorted_by}
use Rattle.def_meaning.specs.Joined.{product}
use Rattle.wh_star.proofs.Products.{times-none, weight}

module _ {A : Type 0} (p : A → Bool) where
  pub all-each : (xs : List A) → list_all p xs ≡ true → All (λ x. p x ≡ true) xs
  all-each [] h = λ k d l. absurd (omega arith)
  all-each (x ∷ xs) h = let parts = and_parts (p x) (list_all p xs) h in All-cons (λ y. p y ≡ true) x xs parts.0 (all-each xs parts.1)

  -- ---- sorted lists

  all-counts : (xs : List A) → list_all p xs ≡ true → times (λ x. not (p x)) xs ≡ 0
  all-counts [] h = refl
  all-counts (x ∷ xs) h =
      let parts = and_parts (p x) (list_all p xs) h in
      let none : weight (not (p x)) ≡ 0 = ap (λ b. weight (not b)) parts.0 in
      omega (arith, none, all-counts xs parts.1)

  counts-all : (xs : List A) → times (λ x. not (p x)) xs ≡ 0 → list_all p xs ≡ true
  counts-all [] h = refl
  counts-all (x ∷ xs) h =
      and_from (p x) (list_all p xs) (not-false (p x) (times-none (λ y. not (p y)) x xs h)) (counts-all xs (omega (arith, h)))

  pub all-sorted : (cmp : A → A → Ordering) (xs : List A) → list_all p xs ≡ true → list_all p (sorted_by cmp xs) ≡ true
  all-sorted cmp xs h = counts-all (sorted_by cmp xs) (sorted_counts cmp xs (λ x. not (p x)) ∙ all-counts xs h)

  -- ---- filters and products

  pub all-filter : (test : A → Bool) (xs : List A) → list_all p xs ≡ true → list_all p (filter test xs) ≡ true
  all-filter test [] h = refl
  all-filter test (x ∷ xs) h = let parts = and_parts (p x) (list_all p xs) h in by (test x) parts.0 (all-filter test xs parts.1)
    where
      by : (b : Bool) → p x ≡ true → list_all p (filter test xs) ≡ true → list_all p (cond b (x ∷ filter test xs) (filter test xs)) ≡ true
      by true e rest = and_from (p x) (list_all p (filter test xs)) e rest
      by false e rest = rest

  pub all-append : (xs ys : List A) → list_all p xs ≡ true → list_all p ys ≡ true → list_all p (xs ++ ys) ≡ true
  all-append [] ys h k = k
  all-append (x ∷ xs) ys h k =
      let parts = and_parts (p x) (list_all p xs) h in and_from (p x) (list_all p (xs ++ ys)) parts.0 (all-append xs ys parts.1 k)

-- two tests of each item
pub all-both : {A : Type 0} (p q : A → Bool) (xs : List A) → list_all p xs ≡ true → list_all q xs ≡ true → list_all (λ x. p x && q x) xs ≡ true
all-both p q [] h k = refl
all-both p q (x ∷ xs) h k =
    let ps = and_parts (p x) (list_all p xs) h in
    let qs = and_parts (q x) (list_all q xs) k in
    and_from (p x && q x) (list_all (λ y. p y && q y) xs) (and_from (p x) (q x) ps.0 qs.0) (all-both p q xs ps.1 qs.1)

module _ {A : Type 0} (p : A → Bool) where
  begin-all : (x : A) (all : List (List A)) → p x ≡ true → list_all (list_all p) all ≡ true → list_all (list_all p) (map (λ rest. x ∷ rest) all) ≡ true
  begin-all x [] h k = refl
  begin-all x (t ∷ ts) h k =
      let parts = and_parts (list_all p t) (list_all (list_all p) ts) k in
      and_from (p x && list_all p t) (list_all (list_all p) (map (λ rest. x ∷ rest) ts)) (and_from (p x) (list_all p t) h parts.0) (begin-all x ts h parts.1)

  begin-each : (xs : List A) (all : List (List A)) → list_all p xs ≡ true → list_all (list_all p) all ≡ true → list_all (list_all p) (flat_map (λ x. map (λ rest. x ∷ rest) all) xs) ≡ true
  begin-each [] all h k = refl
  begin-each (x ∷ xs) all h k =
      let parts = and_parts (p x) (list_all p xs) h in
      all-append (list_all p) (map (λ rest. x ∷ rest) all) (flat_map (λ y. map (λ rest. y ∷ rest) all) xs) (begin-all x all parts.0 k) (begin-each xs all parts.1 k)

  -- what each row of these tables passes, each row of each tuple passes
  pub all-product : (rows : ℕ → List A) (ns : List ℕ) → ((n : ℕ) → list_all p (rows n) ≡ true) → list_all (list_all p) (product (map rows ns)) ≡ true
  all-product rows [] h = refl
  all-product rows (n ∷ ns) h = begin-each (rows n) (product (map rows ns)) (h n) (all-product rows ns h)

-- ---- lengths

pub filter-shorter : {A : Type 0} (p : A → Bool) (xs : List A) → length (filter p xs) ≤ length xs
filter-shorter p [] = omega arith
filter-shorter p (x ∷ xs) = by (p x) (filter-shorter p xs)
  where
    by : (b : Bool) → length (filter p xs) ≤ length xs → length (cond b (x ∷ filter p xs) (filter p xs)) ≤ suc (length xs)
    by true h = omega (arith, h)
    by false h = omega (arith, h)

pub filter_map-shorter : {A B : Type 0} (h : A → Option B) (xs : List A) → length (filter_map h xs) ≤ length xs
filter_map-shorter h [] = omega arith
filter_map-shorter h (x ∷ xs) = by (h x) (filter_map h xs) (filter_map-shorter h xs)
  where
    by : {B : Type 0} (o : Option B) (ys : List B) → length ys ≤ length xs → length (cons_option o ys) ≤ suc (length xs)
    by None ys k = omega (arith, k)
    by (Some y) ys k = omega (arith, k)
