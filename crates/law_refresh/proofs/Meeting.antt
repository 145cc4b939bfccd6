-- How many rows have a changed rowid, counted by the rows and by the rowids.
use Rattle.std.proofs.Common.{◌≡◌, ◌∙◌, sym, ap, refl, arith, ℕ, suc, ◌+◌, ◌<◌, Bool, true, false, cond, List, [], ◌∷◌, length, map, ◌==◌, ◌||◌, true≢false}
use Rattle.std.specs.List.{filter, list_any}
use Rattle.std.specs.Prelude.{nat_eq}
use Rattle.std.proofs.lemmas.Bool.{eqb-true, or_parts}
use Rattle.std.proofs.lemmas.List.{length-map}
use Rattle.wh_base.specs.Lists.{distinct, distinct_after, has_number}
use Rattle.law_lists.proofs.Lists.{filter-map, list_any-map}
use Rattle.law_lists.proofs.Numbers.{equal_turned}
use Rattle.law_refresh.specs.Planned.{Distinct}
use Rattle.law_trace.proofs.Listed.{Each, Pairs, each_weaker}

either : {A : Type 0} (p q : A → Bool) → ((x : A) → p x ≡ true → q x ≡ false) → (xs : List A) → length (filter (λ x. p x || q x) xs) ≡ length (filter p xs) + length (filter q xs)
either p q h [] = refl
either p q h (x ∷ xs) = by (p x) (q x) refl refl (either p q h xs)
  where
    by : (a b : Bool) → p x ≡ a → q x ≡ b → length (filter (λ x. p x || q x) xs) ≡ length (filter p xs) + length (filter q xs)
        → length (cond (a || b) (x ∷ filter (λ x. p x || q x) xs) (filter (λ x. p x || q x) xs)) ≡ length (cond a (x ∷ filter p xs) (filter p xs)) + length (cond b (x ∷ filter q xs) (filter q xs))
    by true true e f k = absurd (true≢false (sym f ∙ h x e))
    by true false e f k = omega (arith, k)
    by false true e f k = omega (arith, k)
    by false false e f k = k

one_of : (n : ℕ) (ns : List ℕ) → Distinct ns → length (filter (λ m. n == m) ns) ≡ cond (has_number ns n) 1 0
one_of n [] h = refl
one_of n (m ∷ ms) h = ap (λ b. length (cond b (m ∷ filter (λ m. n == m) ms) (filter (λ m. n == m) ms))) (equal_turned n m) ∙ by (m == n) refl (one_of n ms h.1)
  where
    by : (b : Bool) → (m == n) ≡ b → length (filter (λ m. n == m) ms) ≡ cond (has_number ms n) 1 0 → length (cond b (m ∷ filter (λ m. n == m) ms) (filter (λ m. n == m) ms)) ≡ cond (b || has_number ms n) 1 0
    by true e k = let none : has_number ms n ≡ false = ap (has_number ms) (sym (eqb-true m n e)) ∙ h.0 in ap suc (k ∙ ap (λ b. cond b 1 0) none)
    by false e k = k

nothing : {A : Type 0} (xs : List A) → length (filter (λ x. false) xs) ≡ 0
nothing [] = refl
nothing (x ∷ xs) = nothing xs

-- of two lists of numbers, each once, as many of the first are in the second as of the second in the first
pub meet : (xs ys : List ℕ) → Distinct xs → Distinct ys → length (filter (has_number ys) xs) ≡ length (filter (has_number xs) ys)
meet [] ys h k = sym (nothing ys)
meet (x ∷ xs) ys h k =
    by (has_number ys x) (meet xs ys h.1 k)
    ∙ ap (λ n. n + length (filter (has_number xs) ys)) (sym (one_of x ys k))
    ∙ sym (either (λ y. x == y) (has_number xs) (λ y e. ap (has_number xs) (sym (eqb-true x y e)) ∙ h.0) ys)
  where
    by : (b : Bool) → length (filter (has_number ys) xs) ≡ length (filter (has_number xs) ys) → length (cond b (x ∷ filter (has_number ys) xs) (filter (has_number ys) xs)) ≡ cond b 1 0 + length (filter (has_number xs) ys)
    by true e = omega (arith, e)
    by false e = omega (arith, e)

-- ---- each number once

any_turned : (n : ℕ) (seen : List ℕ) → list_any (nat_eq n) seen ≡ has_number seen n
any_turned n [] = refl
any_turned n (m ∷ ms) = λ i. equal_turned n m i || any_turned n ms i

distinct_once : (seen xs : List ℕ) → Each (λ n. has_number seen n ≡ false) (distinct_after nat_eq seen xs) × Distinct (distinct_after nat_eq seen xs)
distinct_once seen [] = (tt, tt)
distinct_once seen (x ∷ xs) = by (list_any (nat_eq x) seen) refl (distinct_once seen xs) (distinct_once (x ∷ seen) xs)
  where
    fewer : (n : ℕ) → ((x == n) || has_number seen n) ≡ false → has_number seen n ≡ false
    fewer n e = (or_parts (x == n) (has_number seen n) e).1

    apart : (ns : List ℕ) → Each (λ n. ((x == n) || has_number seen n) ≡ false) ns → has_number ns x ≡ false
    apart [] h = refl
    apart (n ∷ ns) h = (λ i. (equal_turned n x ∙ (or_parts (x == n) (has_number seen n) h.0).0) i || apart ns h.1 i)

    by : (b : Bool) → list_any (nat_eq x) seen ≡ b → Each (λ n. has_number seen n ≡ false) (distinct_after nat_eq seen xs) × Distinct (distinct_after nat_eq seen xs)
        → Each (λ n. ((x == n) || has_number seen n) ≡ false) (distinct_after nat_eq (x ∷ seen) xs) × Distinct (distinct_after nat_eq (x ∷ seen) xs)
        → Each (λ n. has_number seen n ≡ false) (cond b (distinct_after nat_eq seen xs) (x ∷ distinct_after nat_eq (x ∷ seen) xs)) × Distinct (cond b (distinct_after nat_eq seen xs) (x ∷ distinct_after nat_eq (x ∷ seen) xs))
    by true e old new = old
    by false e old new = (
      (sym (any_turned x seen) ∙ e, each_weaker (λ n. ((x == n) || has_number seen n) ≡ false) (λ n. has_number seen n ≡ false) fewer (distinct_after nat_eq (x ∷ seen) xs) new.0),
      (apart (distinct_after nat_eq (x ∷ seen) xs) new.0, new.1),
    )

distinct_has : (n : ℕ) (seen xs : List ℕ) → has_number seen n ≡ false → has_number (distinct_after nat_eq seen xs) n ≡ has_number xs n
distinct_has n seen [] none = refl
distinct_has n seen (x ∷ xs) none = by (list_any (nat_eq x) seen) refl (x == n) refl (distinct_has n seen xs none) (λ apart. distinct_has n (x ∷ seen) xs ((λ i. apart i || none i)))
  where
    by : (b : Bool) → list_any (nat_eq x) seen ≡ b → (a : Bool) → (x == n) ≡ a → has_number (distinct_after nat_eq seen xs) n ≡ has_number xs n
        → ((x == n) ≡ false → has_number (distinct_after nat_eq (x ∷ seen) xs) n ≡ has_number xs n)
        → has_number (cond b (distinct_after nat_eq seen xs) (x ∷ distinct_after nat_eq (x ∷ seen) xs)) n ≡ (a || has_number xs n)
    by true e true f old new = absurd (true≢false (sym e ∙ any_turned x seen ∙ ap (has_number seen) (eqb-true x n f) ∙ none))
    by true e false f old new = old
    by false e true f old new = ap (λ b. b || has_number (distinct_after nat_eq (x ∷ seen) xs) n) f
    by false e false f old new = ap (λ b. b || has_number (distinct_after nat_eq (x ∷ seen) xs) n) f ∙ new f

rising_once : {A : Type 0} (num : A → ℕ) (rs : List A) → Pairs (λ a b. num a < num b) rs → Distinct (map num rs)
rising_once num [] h = tt
rising_once {A} num (r ∷ rs) h = (later rs h.0, rising_once num rs h.1)
  where
    above : (m n : ℕ) → m < n → (b : Bool) → (n == m) ≡ b → b ≡ false
    above m n low true e = let same : n ≡ m = eqb-true n m e in absurd (omega arith)
    above m n low false e = refl

    later : (qs : List A) → Each (λ q. num r < num q) qs → has_number (map num qs) (num r) ≡ false
    later [] h = refl
    later (q ∷ qs) h = λ i. above (num r) (num q) h.0 (num q == num r) refl i || later qs h.1 i

-- rows with numbers that ascend, of which the number is among these, are as many as the numbers, each once, of which a row is there
pub rows_met : {A : Type 0} (num : A → ℕ) (rs : List A) (ns : List ℕ) → Pairs (λ a b. num a < num b) rs
    → length (filter (λ r. has_number ns (num r)) rs) ≡ length (filter (λ n. list_any (λ r. num r == n) rs) (distinct nat_eq ns))
rows_met num rs ns rise =
    sym (length-map (filter (λ r. has_number ns (num r)) rs) num)
    ∙ ap (λ (xs : List ℕ). length xs) (sym (filter-map (has_number ns) num rs))
    ∙ (λ i. length (filter (λ n. sym (distinct_has n [] ns refl) i) (map num rs)))
    ∙ meet (map num rs) (distinct nat_eq ns) (rising_once num rs rise) (distinct_once [] ns).1
    ∙ (λ i. length (filter (λ n. list_any-map (λ m. m == n) num rs i) (distinct nat_eq ns)))
