-- When one condition on a column implies another on the same column, and when two conditions are the same word for word.
use Rattle.std.specs.List.{list_all}
use Rattle.std.specs.Prelude.{Bool, List, [], false, filter, true, ◌&&◌, ◌∷◌}
use Rattle.wh_base.specs.Values.{is_true_that, same_value, same_values}
use Rattle.wh_base.specs.declared.queries.Condition.{Condition}
use Rattle.wh_base.specs.declared.queries.Condition.TheVariants.{Compare, IsNull, NotNull, OneOf}
use Rattle.wh_base.specs.declared.values.Op.{Op}
use Rattle.wh_base.specs.declared.values.Op.TheVariants.{Eq, Ge, Gt, Le, Lt, Ne}
use Rattle.wh_base.specs.declared.values.Value.{Value}
use Rattle.def_meaning.specs.Joined.{condition_true}
use Rattle.def_meaning.specs.Meaning.{not_null}

-- Each of these values that isn't NULL makes the condition true.
abbrev pub all_make : List Value → Condition → Bool
all_make vs c = list_all (λ v. condition_true (λ _. v) c) (filter not_null vs)

-- What `< a` implies: `< b`, `<= b` and `<> b` with a at most b, and IS NOT NULL. A comparison with NULL never holds, here and below.
abbrev pub below_implies : Value → Condition → Bool
below_implies a (Compare c Lt b) = is_true_that a Le b
below_implies a (Compare c Le b) = is_true_that a Le b
below_implies a (Compare c Ne b) = is_true_that a Le b
below_implies a (NotNull c) = true
below_implies a _ = false

-- What `<= a` implies: `<= b` with a at most b, `< b` and `<> b` with a below b, and IS NOT NULL.
abbrev pub at_most_implies : Value → Condition → Bool
at_most_implies a (Compare c Lt b) = is_true_that a Lt b
at_most_implies a (Compare c Le b) = is_true_that a Le b
at_most_implies a (Compare c Ne b) = is_true_that a Lt b
at_most_implies a (NotNull c) = true
at_most_implies a _ = false

-- What `> a` implies: `> b`, `>= b` and `<> b` with a at least b, and IS NOT NULL.
abbrev pub above_implies : Value → Condition → Bool
above_implies a (Compare c Gt b) = is_true_that a Ge b
above_implies a (Compare c Ge b) = is_true_that a Ge b
above_implies a (Compare c Ne b) = is_true_that a Ge b
above_implies a (NotNull c) = true
above_implies a _ = false

-- What `>= a` implies: `>= b` with a at least b, `> b` and `<> b` with a above b, and IS NOT NULL.
abbrev pub at_least_implies : Value → Condition → Bool
at_least_implies a (Compare c Gt b) = is_true_that a Gt b
at_least_implies a (Compare c Ge b) = is_true_that a Ge b
at_least_implies a (Compare c Ne b) = is_true_that a Gt b
at_least_implies a (NotNull c) = true
at_least_implies a _ = false

-- What `<> a` implies: `<> a` itself, and IS NOT NULL.
abbrev pub other_implies : Value → Condition → Bool
other_implies a (Compare c Ne b) = is_true_that a Eq b
other_implies a (NotNull c) = true
other_implies a _ = false

-- What a comparison with a implies. `= a` implies each condition that a makes true; `= NULL` is never true and so implies every condition.
abbrev pub op_implies : Op → Value → Condition → Bool
op_implies Eq a c = all_make (a ∷ []) c
op_implies Ne a c = other_implies a c
op_implies Lt a c = below_implies a c
op_implies Le a c = at_most_implies a c
op_implies Gt a c = above_implies a c
op_implies Ge a c = at_least_implies a c

-- The condition is IS NULL.
abbrev pub is_null_test : Condition → Bool
is_null_test (IsNull c) = true
is_null_test _ = false

-- The condition is IS NOT NULL.
abbrev pub is_not_null_test : Condition → Bool
is_not_null_test (NotNull c) = true
is_not_null_test _ = false

-- The first condition implies the second, where both are taken to be on one column. An IN implies what each of its values makes true.
abbrev pub implies : Condition → Condition → Bool
implies (Compare d op a) c = op_implies op a c
implies (OneOf d vs) c = all_make vs c
implies (IsNull d) c = is_null_test c
implies (NotNull d) c = is_not_null_test c

-- ---- the same, word for word, on one column

-- The two operators are the same.
abbrev pub same_op : Op → Op → Bool
same_op Eq Eq = true
same_op Ne Ne = true
same_op Lt Lt = true
same_op Le Le = true
same_op Gt Gt = true
same_op Ge Ge = true
same_op _ _ = false

-- The two conditions are the same word for word, where their columns are taken to be one: the same
-- operator and value, the same list of values in its order, or the same test for NULL.
abbrev pub same_test : Condition → Condition → Bool
same_test (Compare c op v) (Compare d op' w) = same_op op op' && same_value v w
same_test (OneOf c vs) (OneOf d ws) = same_values vs ws
same_test (IsNull c) (IsNull d) = true
same_test (NotNull c) (NotNull d) = true
same_test _ _ = false
