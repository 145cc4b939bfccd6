-- The steps together are the first refusal of the statement, and the table's name goes before all.
use Rattle.std.proofs.Common.{◌≡◌, ◌∙◌, ap, refl, sym, List, [], ◌∷◌, length, ℕ, Option, Some, None, Err, Bool, true, false}
use Rattle.std.specs.Prelude.{Result, nat_le, nat_lt, option_and_then, option_map}
use Rattle.def_effect.specs.Define.{foreign_refusal, max_columns, max_objects, max_parts, new_column_refusal, new_columns, new_foreign, new_key_refusal, new_keys, new_ranges, numbered_parts, partitioning_refusal, table_def}
use Rattle.def_resolve.specs.Earlier.{first_in_turn}
use Rattle.wh_base.specs.Lists.{first_of, first_some, has_text, unless, where_true}
use Rattle.wh_base.specs.declared.replies.Counted.TheVariants.{Columns, Partitions, Tables}
use Rattle.wh_base.specs.declared.replies.Refusal.{Refusal}
use Rattle.wh_base.specs.declared.replies.Refusal.TheVariants.{NameTaken, TooManyObjects}
use Rattle.wh_base.specs.declared.statements.NewColumn.{NewColumn}
use Rattle.wh_base.specs.declared.statements.NewForeign.{NewForeign}
use Rattle.wh_base.specs.declared.statements.NewKey.{NewKey}
use Rattle.wh_base.specs.declared.statements.NewTable.{NewTable}
use Rattle.wh_base.specs.declared.tables.TableDef.{TableDef}
use Rattle.wh_define.specs.Made.{defined_from, defined_or_refused}
use Rattle.wh_define.specs.Places.{place_in}
use Rattle.wh_define.specs.declared.define.Defined.{Defined}
use Rattle.wh_define.proofs.Stages.{the_defined}

-- the refusals in groups are the refusals in one list
regroup : (a b c : Bool) (x y z p : Option Refusal) → first_some (option_map TooManyObjects (first_some (where_true a Tables ∷ where_true b Columns ∷ where_true c Partitions ∷ [])) ∷ first_some (x ∷ y ∷ z ∷ []) ∷ p ∷ []) ≡ first_some (where_true a (TooManyObjects Tables) ∷ where_true b (TooManyObjects Columns) ∷ where_true c (TooManyObjects Partitions) ∷ x ∷ y ∷ z ∷ p ∷ [])
regroup true b c x y z p = refl
regroup false true c x y z p = refl
regroup false false true x y z p = refl
regroup false false false (Some r) y z p = refl
regroup false false false None (Some r) z p = refl
regroup false false false None None (Some r) p = refl
regroup false false false None None None p = refl

all_steps : (defs : List TableDef) (s : NewTable) → defined_from defs s (new_columns s) (new_keys s) (new_foreign s) ≡ defined_or_refused [] defs s
unfolding place_in
all_steps defs s =
    ap (λ o. unless o (the_defined (table_def defs s) (numbered_parts 1 (new_ranges s))))
    (regroup (nat_le max_objects (length defs)) (nat_lt max_columns (length (new_columns s))) (nat_lt max_parts (length (new_ranges s)))
    (first_in_turn (new_column_refusal s.name) (new_columns s)) (first_in_turn (new_key_refusal (new_columns s)) (new_keys s)) (first_of (foreign_refusal defs s.name (new_columns s)) (new_foreign s))
    (option_and_then (partitioning_refusal s.name (new_columns s)) s.partitioning))

-- the lists are those of the statement
pub of_statement : (defs : List TableDef) (s : NewTable) (columns : List NewColumn) (keys : List NewKey) (foreign : List NewForeign) (d : Result Defined Refusal) → columns ≡ new_columns s → keys ≡ new_keys s → foreign ≡ new_foreign s → d ≡ defined_from defs s columns keys foreign → d ≡ defined_or_refused [] defs s
of_statement defs s columns keys foreign d e f g h =
    h
    ∙ ap (λ cs. defined_from defs s cs keys foreign) e
    ∙ ap (λ ks. defined_from defs s (new_columns s) ks foreign) f
    ∙ ap (λ fs. defined_from defs s (new_columns s) (new_keys s) fs) g
    ∙ all_steps defs s

-- all refusals but that of the table's name
abbrev others : List TableDef → NewTable → List (Option Refusal)
others defs s =
    where_true (nat_le max_objects (length defs)) (TooManyObjects Tables)
    ∷ where_true (nat_lt max_columns (length (new_columns s))) (TooManyObjects Columns)
    ∷ where_true (nat_lt max_parts (length (new_ranges s))) (TooManyObjects Partitions)
    ∷ first_in_turn (new_column_refusal s.name) (new_columns s)
    ∷ first_in_turn (new_key_refusal (new_columns s)) (new_keys s)
    ∷ first_of (foreign_refusal defs s.name (new_columns s)) (new_foreign s)
    ∷ option_and_then (partitioning_refusal s.name (new_columns s)) s.partitioning
    ∷ []

abbrev named : Bool → List TableDef → NewTable → Result Defined Refusal
named b defs s = unless (first_some (where_true b (NameTaken s.name) ∷ others defs s)) (the_defined (table_def defs s) (numbered_parts 1 (new_ranges s)))

pub name_taken : (taken : List (List ℕ)) (is_taken : Bool) (defs : List TableDef) (s : NewTable) → is_taken ≡ true → has_text taken s.name ≡ is_taken → Err (NameTaken s.name) ≡ defined_or_refused taken defs s
name_taken taken is_taken defs s e f = ap (λ b. named b defs s) (sym (f ∙ e))

pub name_free : (taken : List (List ℕ)) (is_taken : Bool) (defs : List TableDef) (s : NewTable) (d : Result Defined Refusal) → is_taken ≡ false → d ≡ defined_or_refused [] defs s → has_text taken s.name ≡ is_taken → d ≡ defined_or_refused taken defs s
name_free taken is_taken defs s d e h f = h ∙ ap (λ b. named b defs s) (sym (f ∙ e))
