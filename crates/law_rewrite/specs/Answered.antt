-- The law of an answer.
use Rattle.std.specs.Prelude.{Bool, is_none, true, ◌≡◌}
use Rattle.wh_base.specs.declared.queries.StarQuery.{StarQuery}
use Rattle.wh_base.specs.declared.statements.Asked.{Asked}
use Rattle.wh_base.specs.declared.views.Class.{Class}
use Rattle.def_choice.specs.Choice.{plan_meaning}
use Rattle.def_history.specs.Catalog.{Catalog}
use Rattle.def_journal.specs.Answers.{chosen, means_query, plan_rows}
use Rattle.def_journal.specs.State.{Session}
use Rattle.law_rewrite.specs.Chosen.{ViewFine}
use Rattle.law_rewrite.specs.Words.{Each}

-- **The rows of an answer are those that the plan which is printed gives, in each session, whatever classes are built.** Where the rows are to be the
-- query's meaning, this asks of each view what `ViewFine` says.
abbrev pub AnswersMean : Type 0
AnswersMean =
    (built : Class → Bool) (c : Catalog) (x : Session) (a : Asked) (q : StarQuery)
    → (means_query c x.level ≡ true → is_none q.as_of ≡ true → Each (ViewFine c q a.tokens x.level) c.views)
    → plan_rows c q x.level (chosen built c x a q) ≡ plan_meaning c q (chosen built c x a q)
