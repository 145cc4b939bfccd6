-- What texts that read as queries owe to the law of eligible views.
use Rattle.std.specs.Prelude.{List, Ok, Some, ◌≡◌}
use Rattle.wh_base.specs.declared.queries.RawQuery.{RawQuery}
use Rattle.wh_base.specs.declared.queries.StarQuery.{StarQuery}
use Rattle.wh_base.specs.declared.tokens.Token.{Token}
use Rattle.def_choice.specs.Eligible.{own_text}
use Rattle.def_grammar.specs.Query.{select}
use Rattle.def_grammar.specs.Reading.{whole}
use Rattle.def_history.specs.Catalog.{Catalog, View, defs_now}
use Rattle.def_resolve.specs.Resolve.{resolve}
use Rattle.law_rewrite.specs.Fine.{StarFine}
use Rattle.law_rewrite.specs.Standing.{TextsKept}

-- the query has this text; and the view's own text reads as a query whose form is the definition's, over the tables as they are now too
pub record TextsRead (c : Catalog) (q : StarQuery) (text : List Token) (v : View) : Type 0 where
  pub asked : RawQuery
  pub asked_is : whole select text ≡ Some asked
  pub asked_form : resolve (defs_now c) asked ≡ Ok q
  pub given : (tokens : List Token) → own_text v ≡ Some tokens → (b : RawQuery) × ((whole select tokens ≡ Some b) × (resolve (defs_now c) b ≡ Ok v.def.query))

-- what follows
pub record TextsGive (c : Catalog) (q : StarQuery) (text : List Token) (v : View) : Type 0 where
  pub star_q : StarFine (defs_now c) q
  pub star_v : (tokens : List Token) → own_text v ≡ Some tokens → StarFine (defs_now c) v.def.query
  pub texts : TextsKept q text v

-- **What is asked of texts and star forms holds where the texts read as the queries.** A view over a view has no text of its own, so its star form is
-- left out.
abbrev pub TextsOwe : Type 0
TextsOwe = (c : Catalog) (q : StarQuery) (text : List Token) (v : View) → TextsRead c q text v → TextsGive c q text v
