-- The law of the plan that is chosen.
use Rattle.std.specs.Prelude.{Bool, List, Some, is_none, true, ℕ, ◌≡◌}
use Rattle.wh_base.specs.declared.queries.StarQuery.{StarQuery}
use Rattle.wh_base.specs.declared.statements.Level.{Level}
use Rattle.wh_base.specs.declared.views.Class.{Class}
use Rattle.wh_base.specs.declared.tokens.Token.{Token}
use Rattle.def_choice.specs.Choice.{base_then, choice, plan_meaning}
use Rattle.def_choice.specs.Eligible.{asks_freshness}
use Rattle.def_history.specs.Catalog.{Catalog, View, view_numbered}
use Rattle.def_meaning.specs.Meaning.{meaning}
use Rattle.law_rewrite.specs.Standing.{StarsKept, TextsKept, ViewKept}
use Rattle.law_rewrite.specs.Words.{Each}

-- what is asked of each view of the catalog
pub record ViewFine (c : Catalog) (q : StarQuery) (text : List Token) (level : Level) (v : View) : Type 0 where
  pub stars : (p : ℕ) → v.point ≡ Some p → StarsKept c level q v p
  pub kept : (p : ℕ) → v.point ≡ Some p → ViewKept c v p
  pub texts : TextsKept q text v
  -- it is found by its number
  pub numbered : view_numbered c v.def.view ≡ Some v

-- **The rows of the plan that is chosen are what the query means at its SCN, whatever classes are built, at the levels that ask how fresh a view
-- is.** A query with AS OF has the plan BASE, so nothing is asked of views there.
abbrev pub ChoiceMeans : Type 0
ChoiceMeans =
    (built : Class → Bool) (c : Catalog) (q : StarQuery) (text : List Token) (level : Level) (enabled : Bool)
    → asks_freshness level ≡ true → (is_none q.as_of ≡ true → Each (ViewFine c q text level) c.views)
    → plan_meaning c q (choice built c q text level enabled) ≡ meaning q (base_then c q)
