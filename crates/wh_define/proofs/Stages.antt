-- The first refusal, step by step: the table's name, the counts, the lists, and the partitions.
use Rattle.std.proofs.Common.{◌≡◌, refl, sym, arith, rules, ℕ, ◌≤◌, List, [], ◌∷◌, ◌++◌, length, Option, Some, None, Ok, Err, Bool, true, false, not}
use Rattle.std.proofs.lemmas.Bool.{and_from, not-false}
use Rattle.std.specs.List.{list_all}
use Rattle.std.specs.Prelude.{nat_le, nat_lt, option_and_then, option_map}
use Rattle.std.proofs.lemmas.Bool.Decides.{nat_tests}
use Rattle.def_effect.specs.Define.{foreign_refusal, max_columns, max_objects, max_parts, new_column_refusal, new_key_refusal, new_ranges, numbered_parts, partitioning_refusal, size_holds}
use Rattle.def_resolve.specs.Earlier.{first_after, first_in_turn}
use Rattle.wh_base.specs.Lists.{first_of, first_some, unless, where_true}
use Rattle.wh_base.specs.declared.replies.Counted.{Counted}
use Rattle.wh_base.specs.declared.replies.Counted.TheVariants.{Columns, Partitions, Tables}
use Rattle.wh_base.specs.declared.replies.Refusal.{Refusal}
use Rattle.wh_base.specs.declared.replies.Refusal.TheVariants.{TooManyObjects}
use Rattle.wh_base.specs.declared.statements.NewColumn.{NewColumn}
use Rattle.wh_base.specs.declared.statements.NewForeign.{NewForeign}
use Rattle.wh_base.specs.declared.statements.NewKey.{NewKey}
use Rattle.wh_base.specs.declared.statements.NewTable.{NewTable}
use Rattle.wh_base.specs.declared.tables.Part.{Part}
use Rattle.wh_base.specs.declared.tables.TableDef.{TableDef}
use Rattle.wh_define.specs.Made.{counted, defined_from, lists_refusal, parts_from, table_from}
use Rattle.wh_define.specs.Sizes.{AreSized}
use Rattle.wh_define.specs.declared.define.Defined.{Defined}

-- ---- what follows where nothing was refused

none_first : {A : Type 0} (o : Option A) (os : List (Option A)) → None ≡ first_some (o ∷ os) → None ≡ o
none_first None os e = refl
none_first (Some x) os e = cc

none_later : {A : Type 0} (o : Option A) (os : List (Option A)) → None ≡ first_some (o ∷ os) → None ≡ first_some os
none_later None os e = e
none_later (Some x) os e = cc

not_true : {A : Type 0} (b : Bool) (x : A) → None ≡ where_true b x → b ≡ false
not_true true x e = cc
not_true false x e = refl

sizes_hold : (table : List ℕ) (earlier cs : List NewColumn) → None ≡ first_after (new_column_refusal table) earlier cs → list_all (λ c. size_holds c.kind) cs ≡ true
sizes_hold table earlier [] e = refl
sizes_hold table earlier (c ∷ cs) e =
    let here : None ≡ new_column_refusal table earlier c = none_first (new_column_refusal table earlier c) (first_after (new_column_refusal table) (earlier ++ c ∷ []) cs ∷ []) e in
    let later = none_first _ [] (none_later (new_column_refusal table earlier c) (first_after (new_column_refusal table) (earlier ++ c ∷ []) cs ∷ []) e) in
    let size = none_first _ [] (none_later _ (where_true (not (size_holds c.kind)) _ ∷ []) here) in
    and_from (size_holds c.kind) (list_all (λ d. size_holds d.kind) cs) (not-false (size_holds c.kind) (not_true (not (size_holds c.kind)) _ size)) (sizes_hold table (earlier ++ c ∷ []) cs later)

-- the sizes are in range
pub are_sized : (defs : List TableDef) (table : List ℕ) (columns : List NewColumn) (keys : List NewKey) (foreign : List NewForeign) → None ≡ lists_refusal defs table columns keys foreign → AreSized columns
are_sized defs table columns keys foreign e =
    let sized : list_all (λ c. size_holds c.kind) columns ≡ true = sizes_hold table [] columns (none_first (first_in_turn (new_column_refusal table) columns) (first_in_turn (new_key_refusal columns) keys ∷ first_of (foreign_refusal defs table columns) foreign ∷ []) e) in
    search (rules, sized)

-- there are few columns
pub are_few : (tables columns parts : ℕ) → None ≡ counted tables columns parts → columns ≤ 16
are_few tables columns parts e =
    let more = none_first (where_true (nat_lt max_columns columns) Columns) (where_true (nat_lt max_parts parts) Partitions ∷ []) (none_later (where_true (nat_le max_objects tables) Tables) (where_true (nat_lt max_columns columns) Columns ∷ where_true (nat_lt max_parts parts) Partitions ∷ []) e) in
    let few : nat_lt max_columns columns ≡ false = not_true (nat_lt max_columns columns) Columns more in
    grind (arith, nat_tests, few)

-- ---- one step after the other

count_first : {A : Type 0} (o : Option Counted) (os : List (Option Refusal)) (x : A) (k : Counted) → Some k ≡ o → Err (TooManyObjects k) ≡ unless (first_some (option_map TooManyObjects o ∷ os)) x
count_first o os x k e = rw (sym e) refl

list_second : {A : Type 0} (o : Option Counted) (p : Option Refusal) (os : List (Option Refusal)) (x : A) (r : Refusal) → None ≡ o → Some r ≡ p → Err r ≡ unless (first_some (option_map TooManyObjects o ∷ p ∷ os)) x
list_second o p os x r e f = rw (sym e, sym f) refl

third : {A B : Type 0} (o : Option Counted) (p q : Option Refusal) (x : A) (y : B) (r : Refusal) → None ≡ o → None ≡ p → Err r ≡ unless q y → Err r ≡ unless (first_some (option_map TooManyObjects o ∷ p ∷ q ∷ [])) x
third None None None x y r e f g = cc
third None None (Some s) x y r e f g = cc
third None (Some s) q x y r e f g = cc
third (Some s) p q x y r e f g = cc

-- a table with its partitions
abbrev pub the_defined : TableDef → List Part → Defined
the_defined def parts = record { def = def; parts = parts }

-- the table is made
fourth : (o : Option Counted) (p q : Option Refusal) (made : TableDef) (numbered : List Part) (def : TableDef) (parts : List Part) → None ≡ o → None ≡ p → Ok parts ≡ unless q numbered → def ≡ made → Ok (the_defined def parts) ≡ unless (first_some (option_map TooManyObjects o ∷ p ∷ q ∷ [])) (the_defined made numbered)
fourth None None None made numbered def parts e f g h = cc
fourth None None (Some s) made numbered def parts e f g h = cc
fourth None (Some s) q made numbered def parts e f g h = cc
fourth (Some s) p q made numbered def parts e f g h = cc

pub by_count : (defs : List TableDef) (s : NewTable) (columns : List NewColumn) (keys : List NewKey) (foreign : List NewForeign) (k : Counted) → Some k ≡ counted (length defs) (length columns) (length (new_ranges s)) → Err (TooManyObjects k) ≡ defined_from defs s columns keys foreign
by_count defs s columns keys foreign k e = count_first (counted (length defs) (length columns) (length (new_ranges s))) _ _ k e

pub by_lists : (defs : List TableDef) (s : NewTable) (columns : List NewColumn) (keys : List NewKey) (foreign : List NewForeign) (r : Refusal) → None ≡ counted (length defs) (length columns) (length (new_ranges s)) → Some r ≡ lists_refusal defs s.name columns keys foreign → Err r ≡ defined_from defs s columns keys foreign
by_lists defs s columns keys foreign r e f = list_second (counted (length defs) (length columns) (length (new_ranges s))) (lists_refusal defs s.name columns keys foreign) _ _ r e f

pub by_parts : (defs : List TableDef) (s : NewTable) (columns : List NewColumn) (keys : List NewKey) (foreign : List NewForeign) (r : Refusal) → None ≡ counted (length defs) (length columns) (length (new_ranges s)) → None ≡ lists_refusal defs s.name columns keys foreign → Err r ≡ parts_from s columns → Err r ≡ defined_from defs s columns keys foreign
by_parts defs s columns keys foreign r e f g =
    third (counted (length defs) (length columns) (length (new_ranges s))) (lists_refusal defs s.name columns keys foreign) (option_and_then (partitioning_refusal s.name columns) s.partitioning) _ (numbered_parts 1 (new_ranges s)) r e f g

pub by_none : (defs : List TableDef) (s : NewTable) (columns : List NewColumn) (keys : List NewKey) (foreign : List NewForeign) (def : TableDef) (parts : List Part) → None ≡ counted (length defs) (length columns) (length (new_ranges s)) → None ≡ lists_refusal defs s.name columns keys foreign → Ok parts ≡ parts_from s columns → def ≡ table_from defs s columns keys foreign → Ok (the_defined def parts) ≡ defined_from defs s columns keys foreign
by_none defs s columns keys foreign def parts e f g h =
    fourth (counted (length defs) (length columns) (length (new_ranges s))) (lists_refusal defs s.name columns keys foreign) (option_and_then (partitioning_refusal s.name columns) s.partitioning) (table_from defs s columns keys foreign) (numbered_parts 1 (new_ranges s)) def parts e f g h

pub ruleset stages = (are_sized, are_few, by_count, by_lists, by_parts, by_none)
