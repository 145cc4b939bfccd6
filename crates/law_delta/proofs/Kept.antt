-- What is kept of a group whose tuples balance: rows, counts and sums balance too.
use Rattle.std.proofs.Common.{◌≡◌, ◌∙◌, sym, ap, refl, arith, ℕ, ◌+◌, Bool, true, false, cond, List, [], ◌∷◌, length, map}
use Rattle.std.specs.Prelude.{ℤ, pos, ◌+ℤ◌}
use Rattle.std.proofs.lemmas.Int.{ints}
use Rattle.wh_base.proofs.Sorting.{SameCounts, times}
use Rattle.wh_base.specs.declared.columns.ColRef.{ColRef}
use Rattle.wh_base.specs.declared.columns.Expr.{Expr}
use Rattle.wh_base.specs.declared.values.Value.{Value}
use Rattle.def_meaning.specs.Meaning.{values_of, expr_value, not_null, number_of, total_of}
use Rattle.law_delta.specs.Deltas.{weight, Balanced}
use Rattle.law_delta.proofs.Tuples.{Balanced-map, Balanced-filter}

weight-one : {A : Type 0} (xs : List A) → weight (λ _. pos 1) xs ≡ pos (length xs)
weight-one [] = refl
weight-one (x ∷ xs) = let h : weight (λ _. pos 1) xs ≡ pos (length xs) = weight-one xs in omega (arith, ints)

weight-times : {A : Type 0} (p : A → Bool) (xs : List A) → weight (λ x. cond (p x) (pos 1) (pos 0)) xs ≡ pos (times p xs)
weight-times p [] = refl
weight-times {A} p (x ∷ xs) = by (p x) (times p xs) (weight (λ x. cond (p x) (pos 1) (pos 0)) xs) (weight-times p xs)
  where
    by : (b : Bool) (n : ℕ) (w : ℤ) → w ≡ pos n → cond b (pos 1) (pos 0) +ℤ w ≡ pos (cond b 1 0 + n)
    by true n w h = omega (arith, ints)
    by false n w h = omega (arith, ints)

weight-total : (vs : List Value) → total_of vs ≡ weight number_of vs
weight-total [] = refl
weight-total (v ∷ vs) = ap (λ n. number_of v +ℤ n) (weight-total vs)

-- as many rows
pub length_balanced : {A : Type 0} (now olds before news : List A) → Balanced now olds before news → length now + length olds ≡ length before + length news
length_balanced now olds before news h =
    let e : pos (length now) +ℤ pos (length olds) ≡ pos (length before) +ℤ pos (length news) =
    sym (λ i. weight-one now i +ℤ weight-one olds i) ∙ h (λ _. pos 1) ∙ (λ i. weight-one before i +ℤ weight-one news i) in
    omega (arith, ints)

pub times_balanced : {A : Type 0} (p : A → Bool) (now olds before news : List A) → Balanced now olds before news → times p now + times p olds ≡ times p before + times p news
times_balanced p now olds before news h =
    let e : pos (times p now) +ℤ pos (times p olds) ≡ pos (times p before) +ℤ pos (times p news) =
    sym (λ i. weight-times p now i +ℤ weight-times p olds i) ∙ h (λ x. cond (p x) (pos 1) (pos 0)) ∙ (λ i. weight-times p before i +ℤ weight-times p news i) in
    omega (arith, ints)

pub total_balanced : (now olds before news : List Value) → Balanced now olds before news → total_of now +ℤ total_of olds ≡ total_of before +ℤ total_of news
total_balanced now olds before news h =
    (λ i. weight-total now i +ℤ weight-total olds i) ∙ h number_of ∙ sym (λ i. weight-total before i +ℤ weight-total news i)

-- with nothing taken and nothing new, each test holds of as many
pub balanced_same : {A : Type 0} (now before : List A) → Balanced now [] before [] → SameCounts now before
balanced_same now before h p = let e : times p now + 0 ≡ times p before + 0 = times_balanced p now [] before [] h in omega arith

-- the values of an expression
pub values_balanced : {T : Type 0} (value : T → ColRef → Value) (e : Expr) (now olds before news : List T) → Balanced now olds before news → Balanced (values_of value e now) (values_of value e olds) (values_of value e before) (values_of value e news)
values_balanced value e now olds before news h =
    Balanced-filter not_null (map (λ t. expr_value (value t) e) now) (map (λ t. expr_value (value t) e) olds) (map (λ t. expr_value (value t) e) before) (map (λ t. expr_value (value t) e) news)
    (Balanced-map (λ t. expr_value (value t) e) now olds before news h)
