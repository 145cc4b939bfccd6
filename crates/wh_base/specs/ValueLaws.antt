-- The order of values is total, and tells all values apart.
use Rattle.std.proofs.Common.{◌≡◌, ◌∙◌, sym, ap, subst, refl, arith, ℕ, suc, ◌*◌, ◌<◌, true, List, [], ◌∷◌}
use Rattle.std.specs.Prelude.{ℤ, pos, negsuc, ◌/◌}
use Rattle.std.proofs.Math.Nat.{mul-div_cancel}
use Rattle.std.proofs.lemmas.Cmp.{then_total, on_total, nat_cmp_total, int_cmp_total}
use Rattle.std.proofs.lemmas.Map.Lookups.{CmpEqualImpliesEq, exact_signed, exact_bytes}
use Rattle.std.specs.Cmp.{IsTotalOrder}
use Rattle.std.specs.Cmp.Lexicographic.{slice_cmp, nat_list_cmp_total, lists_total}
use Rattle.std.specs.Ordering.{nat_cmp, int_cmp, ordering_then, eq_by_cmp, is_eq}
use Rattle.std.specs.Hash as fed
use Rattle.std.specs.declared.cmp.Ordering.{Ordering}
use Rattle.std.specs.declared.cmp.Ordering.TheVariants.{Less, Equal, Greater}
use Rattle.wh_base.specs.Average.{Average, count_of}
use Rattle.wh_base.specs.Fraction.{cross_cmp, is_same, fraction_antisymm, fraction_trans, fraction_congr}
use Rattle.wh_base.specs.Values.{value_cmp, values_cmp, average_cmp, fraction_cmp, kind_rank}
use Rattle.wh_base.specs.declared.values.Value.{Value}
use Rattle.wh_base.specs.declared.values.Value.TheVariants.{Day, Null, Num, Text, Ratio}

-- ---- pairs

pub fraction_total : IsTotalOrder fraction_cmp
fraction_total = record {
  antisymm = λ a b. fraction_antisymm a.sum (count_of a) b.sum (count_of b);
  trans = λ a b c h k. fraction_trans a.sum (count_of a) b.sum (count_of b) c.sum (count_of c) (omega arith) (omega arith) (omega arith) h k;
  congr = λ a b c h. fraction_congr a.sum (count_of a) b.sum (count_of b) c.sum (count_of c) (omega arith) (omega arith) h;
}

pub average_total : IsTotalOrder average_cmp
average_total = then_total fraction_total (on_total (λ a. a.more) nat_cmp_total)

pub first_equal : (o p : Ordering) → ordering_then o p ≡ Equal → o ≡ Equal
first_equal Less p h = cc
first_equal Equal p h = refl
first_equal Greater p h = cc

pub second_equal : (o p : Ordering) → ordering_then o p ≡ Equal → p ≡ Equal
second_equal Less p h = cc
second_equal Equal p h = h
second_equal Greater p h = cc

same_factor : (a b c : ℕ) → 0 < c → a * c ≡ b * c → a ≡ b
same_factor a b c p e = sym (mul-div_cancel a p) ∙ ap (λ n. n / c) e ∙ mul-div_cancel b p

same_sum : (s t : ℤ) (c : ℕ) → 0 < c → cross_cmp s c t c ≡ Equal → s ≡ t
same_sum (pos a) (pos b) c p h = ap pos (same_factor a b c p (is_same (a * c) (b * c) h))
same_sum (pos a) (negsuc b) c p h = cc
same_sum (negsuc a) (pos b) c p h = cc
same_sum (negsuc a) (negsuc b) c p h =
    let e : suc a ≡ suc b = same_factor (suc a) (suc b) c p (sym (is_same (suc b * c) (suc a * c) h)) in
    let d : a ≡ b = omega arith in
    ap negsuc d

pub average_exact : CmpEqualImpliesEq average_cmp
average_exact a b h =
    let counts : a.more ≡ b.more = is_same a.more b.more (second_equal (fraction_cmp a b) (nat_cmp a.more b.more) h) in
    let fractions : cross_cmp a.sum (suc a.more) b.sum (suc b.more) ≡ Equal = first_equal (fraction_cmp a b) (nat_cmp a.more b.more) h in
    let at_one : cross_cmp a.sum (suc b.more) b.sum (suc b.more) ≡ Equal = subst (λ n. cross_cmp a.sum (suc n) b.sum (suc b.more) ≡ Equal) counts fractions in
    let sums : a.sum ≡ b.sum = same_sum a.sum b.sum (suc b.more) (omega arith) at_one in
    λ i. record { sum = sums i; more = counts i }

-- ---- values: by kind, and then by the part of each kind

number_part : Value → ℤ
number_part (Num n) = n
number_part (Text t) = pos 0
number_part (Ratio a) = pos 0
number_part (Day n) = n
number_part Null = pos 0

text_part : Value → List ℕ
text_part (Num n) = []
text_part (Text t) = t
text_part (Ratio a) = []
text_part (Day n) = []
text_part Null = []

average_part : Value → Average
average_part (Num n) = record { sum = pos 0; more = 0 }
average_part (Text t) = record { sum = pos 0; more = 0 }
average_part (Ratio a) = a
average_part (Day n) = record { sum = pos 0; more = 0 }
average_part Null = record { sum = pos 0; more = 0 }

ranked : Value → Value → Ordering
ranked v w = ordering_then (nat_cmp (kind_rank v) (kind_rank w)) (ordering_then (int_cmp (number_part v) (number_part w)) (ordering_then (slice_cmp nat_cmp (text_part v) (text_part w)) (average_cmp (average_part v) (average_part w))))

ranked_total : IsTotalOrder ranked
unfolding ranked
ranked_total = then_total (on_total kind_rank nat_cmp_total) (then_total (on_total number_part int_cmp_total) (then_total (on_total text_part nat_list_cmp_total) (on_total average_part average_total)))

then_nothing : (o : Ordering) → o ≡ ordering_then o Equal
then_nothing Less = refl
then_nothing Equal = refl
then_nothing Greater = refl

value_cmp_ranked : (v w : Value) → value_cmp v w ≡ ranked v w
unfolding ranked number_part text_part average_part
value_cmp_ranked (Num m) (Num n) = then_nothing (int_cmp m n)
value_cmp_ranked (Text s) (Text t) = then_nothing (slice_cmp nat_cmp s t)
value_cmp_ranked (Ratio a) (Ratio b) = refl
value_cmp_ranked (Day m) (Day n) = then_nothing (int_cmp m n)
value_cmp_ranked Null Null = refl
value_cmp_ranked v w = refl

pub value_total : IsTotalOrder value_cmp
value_total = let e : ranked ≡ value_cmp = λ i v w. sym (value_cmp_ranked v w) i in subst IsTotalOrder e ranked_total

pub value_exact : CmpEqualImpliesEq value_cmp
value_exact (Num m) (Num n) h = ap Num (exact_signed m n h)
value_exact (Text s) (Text t) h = ap Text (exact_bytes s t h)
value_exact (Ratio a) (Ratio b) h = ap Ratio (average_exact a b h)
value_exact (Day m) (Day n) h = ap Day (exact_signed m n h)
value_exact Null Null h = refl
value_exact v w h = cc

-- ---- lists of values

pub values_total : IsTotalOrder values_cmp
values_total = lists_total value_total

pub values_exact : CmpEqualImpliesEq values_cmp
values_exact [] [] h = refl
values_exact [] (w ∷ ws) h = cc
values_exact (v ∷ vs) [] h = cc
values_exact (v ∷ vs) (w ∷ ws) h =
    let heads : v ≡ w = value_exact v w (first_equal (value_cmp v w) (values_cmp vs ws) h) in
    let tails : vs ≡ ws = values_exact vs ws (second_equal (value_cmp v w) (values_cmp vs ws) h) in
    λ i. heads i ∷ tails i

-- ---- equal values are one value, and what a hash reads of one

pub equal_values : (v w : Value) → eq_by_cmp value_cmp v w ≡ true → v ≡ w
equal_values v w h = value_exact v w (was_equal (value_cmp v w) h) where
  was_equal : (o : Ordering) → is_eq o ≡ true → o ≡ Equal
  was_equal Less h = cc
  was_equal Equal h = refl
  was_equal Greater h = cc

abbrev pub hashed : Value → fed.HashWrites
hashed Null = fed.u8 0
hashed (Num n) = fed.i128 n
hashed (Text t) = fed.slice fed.u8 t
hashed (Ratio a) = fed.u64 (count_of a)
hashed (Day n) = fed.i64 n
