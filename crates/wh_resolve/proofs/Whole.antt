-- A query is refused for its first table that isn't there, before its names are asked.
use Rattle.std.proofs.Common.{◌≡◌, ◌∙◌, ap, List, [], ◌∷◌, Option, Some, None, Err, Ok, Bool, true, false, not}
use Rattle.std.specs.Prelude.{Result}
use Rattle.def_resolve.specs.Names.{Source, column_named, names_refusal, sources_of, table_refusal}
use Rattle.def_resolve.specs.Resolve.{first_table, kinds_refusal, resolve, star_form}
use Rattle.wh_base.specs.Lists.{first_some, unless, unless_then, where_true}
use Rattle.wh_base.specs.declared.queries.RawQuery.{RawQuery}
use Rattle.wh_base.specs.declared.queries.StarQuery.{StarQuery}
use Rattle.wh_base.specs.declared.replies.Refusal.{Refusal}
use Rattle.wh_base.specs.declared.tables.TableDef.{TableDef}

-- what a query gives once its tables are there
abbrev pub form_with : List TableDef → RawQuery → List Source → Result StarQuery Refusal
form_with defs q sources = unless_then (first_some (names_refusal sources q ∷ kinds_refusal defs (first_table sources) (column_named sources) q ∷ [])) (star_form defs q sources)

by_tables : (o : Option Refusal) (rest : List (Option Refusal)) (form : Result StarQuery Refusal) (r : Refusal) → Some r ≡ o → Err r ≡ unless_then (first_some (o ∷ rest)) form
by_tables None rest form r e = cc
by_tables (Some s) rest form r e = cc

pub no_table : (defs : List TableDef) (q : RawQuery) (r : Refusal) → Some r ≡ table_refusal defs q → Err r ≡ resolve defs q
no_table defs q r e = by_tables (table_refusal defs q) (names_refusal (sources_of defs q) q ∷ kinds_refusal defs (first_table (sources_of defs q)) (column_named (sources_of defs q)) q ∷ []) (star_form defs q (sources_of defs q)) r e

pub all_there : (defs : List TableDef) (q : RawQuery) (form : Result StarQuery Refusal) → None ≡ table_refusal defs q → form ≡ form_with defs q (sources_of defs q) → form ≡ resolve defs q
all_there defs q form e h = h ∙ ap (λ o. unless_then (first_some (o ∷ names_refusal (sources_of defs q) q ∷ kinds_refusal defs (first_table (sources_of defs q)) (column_named (sources_of defs q)) q ∷ [])) (star_form defs q (sources_of defs q))) e

-- the value of what isn't refused
pub held : (r b : Bool) (e : Refusal) (x y : StarQuery) → r ≡ b → r ≡ true → x ≡ y → Ok x ≡ unless (where_true (not b) e) y
held true true e x y f g h = ap Ok h
held true false e x y f g h = cc
held false b e x y f g h = cc

pub ruleset whole = (no_table)
