-- What is so part by part is so of the whole.
use Rattle.std.proofs.Common.{◌≡◌, ◌∙◌, ap, ℕ, List, Option}
use Rattle.def_effect.specs.Block.{only_source, own_column, own_kinds_refusal, set_refusal}
use Rattle.def_resolve.specs.Names.{Source, column_named}
use Rattle.wh_base.specs.Lists.{first_of}
use Rattle.wh_base.specs.declared.queries.RawCondition.{RawCondition}
use Rattle.wh_base.specs.declared.replies.Refusal.{Refusal}
use Rattle.wh_base.specs.declared.statements.SetColumn.{SetColumn}
use Rattle.wh_base.specs.declared.tables.TableDef.{TableDef}
use Rattle.wh_dml.specs.Setting.{set_misfit}

pub by_item : (d : TableDef) (ss : List SetColumn) (r : Option Refusal) → r ≡ first_of (set_misfit d) ss → r ≡ first_of (set_refusal d) ss
unfolding set_misfit
by_item d ss r e = e

pub ruleset sets = (by_item)

pub by_condition : (n : ℕ) (d : TableDef) (sources : List Source) (cs : List RawCondition) (r : Option Refusal) → sources ≡ only_source n d
    → r ≡ first_of (own_kinds_refusal d (column_named sources)) cs → r ≡ first_of (own_kinds_refusal d (own_column n d)) cs
by_condition n d sources cs r same e = e ∙ ap (λ s. first_of (own_kinds_refusal d (column_named s)) cs) same

pub ruleset conditions = (by_condition)
