-- From the rows that an answer has to those that its plan gives.
use Rattle.std.proofs.Common.{◌≡◌, sym, refl, Bool, true, false, cond, List}
use Rattle.std.specs.Prelude.{is_none}
use Rattle.wh_base.specs.declared.queries.StarQuery.{StarQuery}
use Rattle.wh_base.specs.declared.statements.Asked.{Asked}
use Rattle.wh_base.specs.declared.statements.Level.{Level}
use Rattle.wh_base.specs.declared.statements.Level.TheVariants.{Enforced, StaleTolerated, Trusted}
use Rattle.wh_base.specs.declared.views.Class.{Class}
use Rattle.wh_base.specs.declared.tokens.Token.{Token}
use Rattle.def_choice.specs.Choice.{base_then, choice, plan_meaning}
use Rattle.def_history.specs.Catalog.{Catalog}
use Rattle.def_history.specs.Declared.{relations_hold}
use Rattle.def_journal.specs.Answers.{chosen, means_query, plan_rows}
use Rattle.def_journal.specs.State.{Session}
use Rattle.def_meaning.specs.Meaning.{meaning}
use Rattle.law_rewrite.specs.Words.{Each}
use Rattle.law_rewrite.specs.Chosen.{ViewFine}
use Rattle.law_rewrite.proofs.Choosing.{choice_means}

rows_mean : (built : Class → Bool) (c : Catalog) (q : StarQuery) (text : List Token) (level : Level) (enabled : Bool)
    → (means_query c level ≡ true → is_none q.as_of ≡ true → Each (ViewFine c q text level) c.views)
    → plan_rows c q level (choice built c q text level enabled) ≡ plan_meaning c q (choice built c q text level enabled)
rows_mean built c q text Enforced enabled fine = sym (choice_means built c q text Enforced enabled refl (fine refl))
rows_mean built c q text Trusted enabled fine = by (relations_hold c) refl
  where
    by : (b : Bool) → relations_hold c ≡ b → cond b (meaning q (base_then c q)) (plan_meaning c q (choice built c q text Trusted enabled)) ≡ plan_meaning c q (choice built c q text Trusted enabled)
    by true e = sym (choice_means built c q text Trusted enabled refl (fine e))
    by false e = refl
rows_mean built c q text StaleTolerated enabled fine = refl

pub answers_mean : (built : Class → Bool) (c : Catalog) (x : Session) (a : Asked) (q : StarQuery)
    → (means_query c x.level ≡ true → is_none q.as_of ≡ true → Each (ViewFine c q a.tokens x.level) c.views)
    → plan_rows c q x.level (chosen built c x a q) ≡ plan_meaning c q (chosen built c x a q)
answers_mean built c x a q fine = rows_mean built c q a.tokens x.level x.rewrite fine
