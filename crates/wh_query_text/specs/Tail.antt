-- What stands behind the column of a condition, as a value of its own: the alternatives of `condition_on` without the column.
use Rattle.std.specs.Prelude.{codes}
use Rattle.def_grammar.specs.Query.{column, literal, operator}
use Rattle.def_grammar.specs.Reading.{Rule, bracketed, gives, listed, mapped, mark, word, ◌>>=◌, ◌>>◌, ◌or◌}
use Rattle.wh_base.specs.declared.queries.ColName.{ColName}
use Rattle.wh_base.specs.declared.queries.RawCondition.{RawCondition}
use Rattle.wh_base.specs.declared.queries.RawCondition.TheVariants as raw
use Rattle.wh_query_text.specs.declared.query.conditions.ConditionTail.{ConditionTail}
use Rattle.wh_query_text.specs.declared.query.conditions.ConditionTail.TheVariants as tails

-- op literal
abbrev pub compare_tail : Rule ConditionTail
compare_tail = do
  o ← operator
  l ← literal
  gives (tails.Compare o l)

-- BETWEEN literal AND literal
abbrev pub between_tail : Rule ConditionTail
between_tail = do
  word (codes "BETWEEN")
  l ← literal
  word (codes "AND")
  m ← literal
  gives (tails.Between l m)

-- '=' column
abbrev pub equal_tail : Rule ConditionTail
equal_tail = do
  mark (codes "=")
  d ← column
  gives (tails.Equal d)

-- IN ( literal {, literal} )
abbrev pub one_of_tail : Rule ConditionTail
one_of_tail = mapped tails.OneOf (word (codes "IN") >> bracketed (listed literal))

-- IS NULL
abbrev pub null_tail : Rule ConditionTail
null_tail = mapped (λ _. tails.IsNull) (word (codes "IS") >> word (codes "NULL"))

-- IS NOT NULL
abbrev pub not_null_tail : Rule ConditionTail
not_null_tail = mapped (λ _. tails.NotNull) (word (codes "IS") >> word (codes "NOT") >> word (codes "NULL"))

-- one of these
abbrev pub any_tail : Rule ConditionTail
any_tail = compare_tail or between_tail or equal_tail or one_of_tail or null_tail or not_null_tail

-- the condition of a column and what stands behind it
abbrev pub condition_with : ColName → ConditionTail → RawCondition
condition_with c (tails.Compare o l) = raw.Compare c o l
condition_with c (tails.Between l m) = raw.Between c l m
condition_with c (tails.Equal d) = raw.Equal c d
condition_with c (tails.OneOf ls) = raw.OneOf c ls
condition_with c tails.IsNull = raw.IsNull c
condition_with c tails.NotNull = raw.NotNull c
