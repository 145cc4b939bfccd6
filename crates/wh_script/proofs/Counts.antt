-- The lines of places, counted from a place before.
use Rattle.std.proofs.Common.{◌≡◌, ℕ, ◌≤◌, ◌+◌, ◌-◌, List, ◌++◌, drop, take, Bool, cond, ap, ◌∙◌, arith}
use Rattle.std.proofs.Math.Seq.{take-add}
use Rattle.std.proofs.lemmas.List.Sums.{sum_by-append}
use Rattle.std.specs.Prelude.{count_by}

pub count_by-append : {X : Type 0} (p : X → Bool) (xs ys : List X) → count_by p (xs ++ ys) ≡ count_by p xs + count_by p ys
count_by-append p xs ys = sum_by-append (λ x. cond (p x) 1 0) xs ys

-- the count up to a place is that up to one before and that between the two
pub count_by-between : {X : Type 0} (p : X → Bool) (xs : List X) (a b : ℕ) → a ≤ b → count_by p (take b xs) ≡ count_by p (take a xs) + count_by p (take (b - a) (drop a xs))
count_by-between p xs a b h =
    let sum : b ≡ a + (b - a) = omega arith in
    ap (λ n. count_by p (take n xs)) sum ∙ ap (count_by p) (take-add a (b - a) xs) ∙ count_by-append p (take a xs) (take (b - a) (drop a xs))

pub ruleset counts = (count_by-between)
