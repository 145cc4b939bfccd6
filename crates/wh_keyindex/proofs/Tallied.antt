-- How many entries of a map have a value, after an entry more and an entry less.
use Rattle.std.proofs.Common.{◌≡◌, ◌∙◌, sym, ap, refl, Bool, true, false, cond, List, [], ◌∷◌, ◌+◌, ◌≤◌, Some, None, ℕ, suc, length, map, arith}
use Rattle.std.specs.Cmp.{IsTotalOrder, eq_by_cmp_equiv}
use Rattle.std.specs.List.{filter}
use Rattle.std.specs.Ordering.{eq_by_cmp, is_eq}
use Rattle.std.specs.declared.cmp.Ordering.{Ordering}
use Rattle.std.specs.declared.cmp.Ordering.TheVariants.{Less, Equal, Greater}
use Rattle.std.specs.FinMap as fin
use Rattle.wh_keyindex.proofs.Looked.{is_equal}

-- how many pass
abbrev pub passing : {X : Type 0} → (X → Bool) → List X → ℕ
passing p xs = length (filter p xs)

-- 1 for one that passes
abbrev pub one_if : Bool → ℕ
one_if true = 1
one_if false = 0

passing-cons : {X : Type 0} (p : X → Bool) (x : X) (xs : List X) → passing p (x ∷ xs) ≡ one_if (p x) + passing p xs
passing-cons p x xs = by (p x)
  where
    by : (b : Bool) → length (cond b (x ∷ filter p xs) (filter p xs)) ≡ one_if b + length (filter p xs)
    by true = omega arith
    by false = omega arith

pub passing-most : {X : Type 0} (p : X → Bool) (xs : List X) → passing p xs ≤ length xs
passing-most p [] = omega arith
passing-most p (x ∷ xs) = by (p x) (passing-cons p x xs) (passing-most p xs)
  where
    by : (b : Bool) → passing p (x ∷ xs) ≡ one_if b + passing p xs → passing p xs ≤ length xs → passing p (x ∷ xs) ≤ suc (length xs)
    by true e h = omega arith
    by false e h = omega arith

module _ {K X : Type 0} {R : K → K → Ordering} (o : IsTotalOrder R) (same : fin.IsAntisymmetric R) where
  passing-put : (p : X → Bool) (k : K) (v : X) (es : List (K × X)) → fin.find R k es ≡ None
      → passing p (map (λ e. e.1) (fin.put R k v es)) ≡ one_if (p v) + passing p (map (λ e. e.1) es)
  passing-put p k v [] absent = passing-cons p v []
  passing-put p k v (e ∷ es) absent = by (R k e.0) absent (passing-put p k v es)
    where
      by : (r : Ordering) → cond (is_eq r) (Some e.1) (fin.find R k es) ≡ None
          → (fin.find R k es ≡ None → passing p (map (λ e. e.1) (fin.put R k v es)) ≡ one_if (p v) + passing p (map (λ e. e.1) es))
          → passing p (map (λ e. e.1) ((elim r as (λ x. List (K × X) → List (K × X) → List (K × X) → List (K × X)) [ Less ↦ λ a b c. a | Equal ↦ λ a b c. b | Greater ↦ λ a b c. c ]) ((k, v) ∷ e ∷ es) ((e.0, v) ∷ es) (e ∷ fin.put R k v es)))
          ≡ one_if (p v) + passing p (e.1 ∷ map (λ e. e.1) es)
      by Less none more = passing-cons p v (e.1 ∷ map (λ e. e.1) es)
      by Equal none more = cc
      by Greater none more =
          let rest = more none in
          let first = passing-cons p e.1 (map (λ e. e.1) (fin.put R k v es)) in
          let second = passing-cons p e.1 (map (λ e. e.1) es) in
          omega (arith, rest, first, second)

  pub passing-insert : (p : X → Bool) (m : fin.FinMap R X) (k : K) (v : X) → fin.get m k ≡ None
      → passing p (fin.values (fin.insert m k v)) ≡ one_if (p v) + passing p (fin.values m)
  passing-insert p m k v absent =
      ap (λ es. passing p (map (λ e. e.1) es)) (fin.entries-insert o m k v)
      ∙ passing-put p k v (fin.entries m) (sym (fin.get-entries m k) ∙ absent)

  put_back : (m : fin.FinMap R X) (k : K) (v : X) → fin.get m k ≡ Some v → m ≡ fin.insert (fin.remove m k) k v
  put_back m k v there = fin.same_map o same _ _ (λ q. sym (fin.get-insert o (fin.remove m k) k v q ∙ ap (cond (eq_by_cmp R q k) (Some v)) (fin.get-remove o m k q) ∙ by q (eq_by_cmp R q k) refl))
    where
      by : (q : K) (b : Bool) → eq_by_cmp R q k ≡ b → cond b (Some v) (cond b None (fin.get m q)) ≡ fin.get m q
      by q true e = sym (ap (fin.get m) (same q k (is_equal (R q k) e)) ∙ there)
      by q false e = refl

  pub passing-remove : (p : X → Bool) (m : fin.FinMap R X) (k : K) (v : X) → fin.get m k ≡ Some v
      → passing p (fin.values m) ≡ one_if (p v) + passing p (fin.values (fin.remove m k))
  passing-remove p m k v there =
      ap (λ n. passing p (fin.values n)) (put_back m k v there)
      ∙ passing-insert p (fin.remove m k) k v (fin.get-remove o m k k ∙ ap (λ b. cond b None (fin.get m k)) ((eq_by_cmp_equiv o).refl k))
