-- The star form of a query without its ORDER BY.
use Rattle.std.proofs.Common.{◌≡◌, List, [], ◌∷◌, refl, ap, sym, ◌∙◌, map, Option, Some, None, Result, Ok, option_map}
use Rattle.std.proofs.lemmas.Option.{same_Some}
use Rattle.wh_base.specs.Lists.{or_refuse, unless, unless_then, ◌>>=◌}
use Rattle.wh_base.specs.declared.columns.ColRef.{ColRef}
use Rattle.wh_base.specs.declared.queries.ColName.{ColName}
use Rattle.wh_base.specs.declared.queries.RawQuery.{RawQuery}
use Rattle.wh_base.specs.declared.queries.StarQuery.{StarQuery}
use Rattle.wh_base.specs.declared.replies.Refusal.{Refusal}
use Rattle.wh_base.specs.declared.replies.Refusal.TheVariants.{NotGrouped, NotStar}
use Rattle.wh_base.specs.declared.tables.TableDef.{TableDef}
use Rattle.def_resolve.specs.Names.{column_named, names_refusal, sources_of, table_refusal}
use Rattle.def_resolve.specs.Resolve.{first_table, grouping_holds, joins_of, kinds_refusal, resolve, resolved_item, star_form, star_query}
use Rattle.def_resolve.specs.Star.{Tree, star_of}
use Rattle.wh_base.specs.Lists.{first_some, where_true}
use Rattle.std.specs.Prelude.{not}
use Rattle.law_text.specs.Unordered.{from_formed, from_written, unordered, without_order}

-- the star form by the query's tree, where it has one, without the order of its answer
abbrev formed : List TableDef → RawQuery → Option StarQuery
formed defs q =
    let column : (ColName → ColRef) = column_named (sources_of defs q) in
    option_map (λ tree. unordered (star_query q column tree)) (star_of defs (joins_of column q) (map (λ s. s.table) (sources_of defs q)))

pub after-refusals : {A E : Type 0} (o : Option E) (r : Result A E) (x : A) → unless_then o r ≡ Ok x → r ≡ Ok x
after-refusals None r x h = h
after-refusals (Some e) r x h = cc

pub no-refusal : {A E : Type 0} (o : Option E) (r : Result A E) (x : A) → unless_then o r ≡ Ok x → o ≡ None
no-refusal None r x h = refl
no-refusal (Some e) r x h = cc

after-refusal : {A E : Type 0} (o : Option E) (y x : A) → unless o y ≡ Ok x → y ≡ x
after-refusal None y x h = cc
after-refusal (Some e) y x h = cc

at-tree : (o : Option Tree) (f : Tree → Option Refusal) (g : Tree → StarQuery) (x : StarQuery) → (or_refuse o NotStar >>= (λ tree. unless (f tree) (g tree))) ≡ Ok x
    → option_map (λ tree. unordered (g tree)) o ≡ Some (unordered x)
at-tree None f g x h = cc
at-tree (Some tree) f g x h = ap (λ (y : StarQuery). Some (unordered y)) (after-refusal (f tree) (g tree) x h)

resolved-formed : (defs : List TableDef) (a : RawQuery) (q : StarQuery) → resolve defs a ≡ Ok q → formed defs a ≡ Some (unordered q)
resolved-formed defs a q h =
    let sources = sources_of defs a in
    let column : (ColName → ColRef) = column_named sources in
    let items = map (λ i. resolved_item column i.what) a.items in
    let refusals : Option Refusal = first_some (table_refusal defs a ∷ names_refusal sources a ∷ kinds_refusal defs (first_table sources) column a ∷ []) in
    at-tree (star_of defs (joins_of column a) (map (λ s. s.table) sources)) (λ tree. where_true (not (grouping_holds a column items (map column a.groups))) NotGrouped) (star_query a column) q
    (after-refusals refusals (star_form defs a sources) q h)

pub same-stars : (defs : List TableDef) (a b : RawQuery) (q r : StarQuery) → without_order a ≡ without_order b → resolve defs a ≡ Ok q → resolve defs b ≡ Ok r → unordered q ≡ unordered r
same-stars defs a b q r h left right =
    let same : formed defs a ≡ formed defs b = ap (λ (x : RawQuery). formed defs x) h in
    same_Some (unordered q) (unordered r) (sym (resolved-formed defs a q left) ∙ same ∙ resolved-formed defs b r right)

-- ---- from FROM on

abbrev formed-from : List TableDef → RawQuery → Option StarQuery
formed-from defs q =
    let column : (ColName → ColRef) = column_named (sources_of defs q) in
    option_map (λ tree. from_formed (star_query q column tree)) (star_of defs (joins_of column q) (map (λ s. s.table) (sources_of defs q)))

at-tree-from : (o : Option Tree) (f : Tree → Option Refusal) (g : Tree → StarQuery) (x : StarQuery) → (or_refuse o NotStar >>= (λ tree. unless (f tree) (g tree))) ≡ Ok x
    → option_map (λ tree. from_formed (g tree)) o ≡ Some (from_formed x)
at-tree-from None f g x h = cc
at-tree-from (Some tree) f g x h = ap (λ (y : StarQuery). Some (from_formed y)) (after-refusal (f tree) (g tree) x h)

resolved-from : (defs : List TableDef) (a : RawQuery) (q : StarQuery) → resolve defs a ≡ Ok q → formed-from defs a ≡ Some (from_formed q)
resolved-from defs a q h =
    let sources = sources_of defs a in
    let column : (ColName → ColRef) = column_named sources in
    let items = map (λ i. resolved_item column i.what) a.items in
    let refusals : Option Refusal = first_some (table_refusal defs a ∷ names_refusal sources a ∷ kinds_refusal defs (first_table sources) column a ∷ []) in
    at-tree-from (star_of defs (joins_of column a) (map (λ s. s.table) sources)) (λ tree. where_true (not (grouping_holds a column items (map column a.groups))) NotGrouped) (star_query a column) q
    (after-refusals refusals (star_form defs a sources) q h)

pub same-from : (defs : List TableDef) (a b : RawQuery) (q r : StarQuery) → from_written a ≡ from_written b → resolve defs a ≡ Ok q → resolve defs b ≡ Ok r → from_formed q ≡ from_formed r
same-from defs a b q r h left right =
    let same : formed-from defs a ≡ formed-from defs b = ap (λ (x : RawQuery). formed-from defs x) h in
    same_Some (from_formed q) (from_formed r) (sym (resolved-from defs a q left) ∙ same ∙ resolved-from defs b r right)
