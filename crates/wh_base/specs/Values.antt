-- The order of values, when a comparison is true, and how a value prints.
use Rattle.std.specs.Cmp.Lexicographic.{pointwise, slice_cmp}
use Rattle.std.specs.Ordering.{int_cmp, int_eq, is_eq, is_ge, is_gt, is_le, is_lt, is_ne, nat_cmp, ordering_then}
use Rattle.std.specs.Prelude.{Bool, List, None, Option, Some, [], cond, decimal, false, flat_map, nat_abs, nat_le, nat_lt, negsuc, ◌^◌, not, pos, suc, true, ℕ, ℤ, ◌&&◌, ◌*ℤ◌, ◌*◌, ◌++◌, ◌+ℤ◌, ◌+◌, ◌-◌, ◌==◌, ◌||◌, ◌∷◌}
use Rattle.std.specs.declared.cmp.Ordering.{Ordering}
use Rattle.wh_base.specs.Average.{Average, count_of}
use Rattle.wh_base.specs.Days.{day_text, is_day}
use Rattle.wh_base.specs.Fraction.{cross_cmp}
use Rattle.wh_base.specs.Lists.{option_case, same_text}
use Rattle.wh_base.specs.declared.values.Interval.{Interval}
use Rattle.wh_base.specs.declared.values.Literal.{Literal}
use Rattle.wh_base.specs.declared.values.Literal.TheVariants.{Dated, Number, Quoted}
use Rattle.wh_base.specs.declared.values.Op.{Op}
use Rattle.wh_base.specs.declared.values.Op.TheVariants.{Eq, Ge, Gt, Le, Lt, Ne}
use Rattle.wh_base.specs.declared.values.Value.{Value}
use Rattle.wh_base.specs.declared.values.Value.TheVariants.{Day, Null, Num, Ratio, Text}
use Rattle.wh_base.specs.declared.values.Version.{Version}
use Rattle.wh_base.specs.declared.values.Version.TheVariants.{One, Two}

-- ---- order

-- pairs as fractions
abbrev pub fraction_cmp : Average → Average → Ordering
fraction_cmp a b = cross_cmp a.sum (count_of a) b.sum (count_of b)

-- by the fraction and then by the count
abbrev pub average_cmp : Average → Average → Ordering
average_cmp a b = ordering_then (fraction_cmp a b) (nat_cmp a.more b.more)

-- numbers before texts before days before pairs before NULL
abbrev pub kind_rank : Value → ℕ
kind_rank (Num n) = 0
kind_rank (Text t) = 1
kind_rank (Day n) = 2
kind_rank (Ratio a) = 3
kind_rank Null = 4

-- the order of values: numbers by size, texts by bytes, days by their number, pairs by their fraction, NULL last
abbrev pub value_cmp : Value → Value → Ordering
value_cmp (Num m) (Num n) = int_cmp m n
value_cmp (Text s) (Text t) = slice_cmp nat_cmp s t
value_cmp (Ratio a) (Ratio b) = average_cmp a b
value_cmp (Day m) (Day n) = int_cmp m n
value_cmp v w = nat_cmp (kind_rank v) (kind_rank w)

-- ---- sameness

abbrev pub same_average : Average → Average → Bool
same_average a b = int_eq a.sum b.sum && (a.more == b.more)

abbrev pub same_value : Value → Value → Bool
same_value Null Null = true
same_value (Num m) (Num n) = int_eq m n
same_value (Text s) (Text t) = same_text s t
same_value (Ratio a) (Ratio b) = same_average a b
same_value (Day m) (Day n) = int_eq m n
same_value _ _ = false

-- lists of values, item by item from the left
abbrev pub values_cmp : List Value → List Value → Ordering
values_cmp = slice_cmp value_cmp

abbrev pub same_values : List Value → List Value → Bool
same_values vs ws = pointwise same_value vs ws

abbrev pub is_null : Value → Bool
is_null Null = true
is_null v = false

-- both the same, and not NULL
abbrev pub equal_not_null : Value → Value → Bool
equal_not_null v w = not (is_null v) && same_value v w

-- ---- comparisons

abbrev pub whole : ℤ → Average
whole n = record { sum = n; more = 0 }

-- how two values compare; nothing where one is NULL. A pair and a number compare as fractions
abbrev pub compared : Value → Value → Option Ordering
compared Null w = None
compared v Null = None
compared (Num m) (Ratio b) = Some (fraction_cmp (whole m) b)
compared (Ratio a) (Num n) = Some (fraction_cmp a (whole n))
compared v w = Some (value_cmp v w)

abbrev pub op_holds : Op → Ordering → Bool
op_holds Eq o = is_eq o
op_holds Ne o = is_ne o
op_holds Lt o = is_lt o
op_holds Le o = is_le o
op_holds Gt o = is_gt o
op_holds Ge o = is_ge o

-- the comparison is true: neither side is NULL and the order says so
abbrev pub is_true_that : Value → Op → Value → Bool
is_true_that v op w = option_case (compared v w) false (op_holds op)

-- ---- intervals

-- the value is at least the lower bound and below the upper one
abbrev pub interval_has : Interval → Value → Bool
interval_has i v = option_case i.lo true (λ lo. is_ge (value_cmp v lo)) && option_case i.hi true (λ hi. is_lt (value_cmp v hi))

-- ---- literals

-- a text of length zero is NULL
abbrev pub text_value : List ℕ → Value
text_value [] = Null
text_value (b ∷ bs) = Text (b ∷ bs)

abbrev pub literal_value : Literal → Value
literal_value (Number n) = Num n
literal_value (Quoted t) = text_value t
literal_value (Dated n) = Day n

-- what stands for a value in a row; none is NULL
abbrev pub given_value : Option Literal → Value
given_value l = option_case l Null literal_value

-- the size of a number that a column or a literal may have is below this
abbrev pub number_limit : ℕ
number_limit = 10 ^ 15

-- a number below the limit in size, or no number
abbrev pub is_small : Value → Bool
is_small (Num n) = nat_lt (nat_abs n) number_limit
is_small v = true

-- ---- arithmetic: NULL where a side is NULL

abbrev pub product_value : Value → Value → Value
product_value (Num m) (Num n) = Num (m *ℤ n)
product_value v w = Null

-- the day of a number; a number outside the calendar stays one, which no DATE column holds
abbrev pub day_value : ℤ → Value
day_value n = cond (is_day n) (Day n) (Num n)

-- a number, or so many days later
abbrev pub added_value : Value → ℤ → Value
added_value (Num m) n = Num (m +ℤ n)
added_value (Day m) n = day_value (m +ℤ n)
added_value v n = Null

-- ---- printed form

abbrev pub int_text : ℤ → List ℕ
int_text (pos n) = decimal n
int_text (negsuc n) = 45 ∷ decimal (suc n)

-- a backslash before each backslash and each bar
abbrev pub escaped_byte : ℕ → List ℕ
escaped_byte b = cond ((b == 92) || (b == 124)) (92 ∷ b ∷ []) (b ∷ [])

-- a day: YYYY-MM-DD, and its number in the first version
abbrev pub versioned_day : Version → ℤ → List ℕ
versioned_day One n = int_text n
versioned_day Two n = day_text n

-- nothing for NULL, decimal, the escaped text, sum/count, or a day as the version has it
abbrev pub value_text : Version → Value → List ℕ
value_text version Null = []
value_text version (Num n) = int_text n
value_text version (Text t) = flat_map escaped_byte t
value_text version (Ratio a) = int_text a.sum ++ (47 ∷ decimal (count_of a))
value_text version (Day n) = versioned_day version n

-- the parts with the byte between each two
abbrev pub parted_by : ℕ → List (List ℕ) → List ℕ
parted_by b [] = []
parted_by b (x ∷ []) = x
parted_by b (x ∷ y ∷ more) = x ++ (b ∷ parted_by b (y ∷ more))

-- ---- decimal digits as a number

-- digits behind a number that was begun; none where a byte is no digit
abbrev pub digits_value : ℕ → List ℕ → Option ℕ
digits_value n [] = Some n
digits_value n (b ∷ bs) = cond (nat_le 48 b && nat_le b 57) (digits_value (n * 10 + (b - 48)) bs) None

abbrev pub digits_number : List ℕ → Option ℕ
digits_number [] = None
digits_number (b ∷ bs) = digits_value 0 (b ∷ bs)
