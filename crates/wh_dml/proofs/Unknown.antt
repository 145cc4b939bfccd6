-- The first unknown column of a SET list, item by item.
use Rattle.std.proofs.Common.{◌≡◌, ◌∙◌, sym, ap, refl, List, [], ◌∷◌, ◌++◌, Bool, true, false, cond, map, Option, Some, None, ℕ}
use Rattle.std.specs.Prelude.{find, flat_map, is_none, option_map}
use Rattle.def_effect.specs.Block.{set_names, unknown_column}
use Rattle.wh_base.specs.Lists.{first_of, first_some}
use Rattle.wh_base.specs.Tables.{column_number}
use Rattle.wh_base.specs.declared.replies.Refusal.{Refusal}
use Rattle.wh_base.specs.declared.replies.Refusal.TheVariants.{NoSuchColumn}
use Rattle.wh_base.specs.declared.statements.SetColumn.{SetColumn}
use Rattle.wh_base.specs.declared.tables.TableDef.{TableDef}

-- ---- two lists of names

only : {B : Type 0} (o : Option B) → o ≡ first_some (o ∷ [])
only None = refl
only (Some b) = refl

append : (d : TableDef) (xs ys : List (List ℕ)) → unknown_column d (xs ++ ys) ≡ first_some (unknown_column d xs ∷ unknown_column d ys ∷ [])
append d [] ys = only (unknown_column d ys)
append d (x ∷ xs) ys = by (is_none (column_number d x)) (append d xs ys)
  where
    by : (b : Bool) → unknown_column d (xs ++ ys) ≡ first_some (unknown_column d xs ∷ unknown_column d ys ∷ [])
        → option_map NoSuchColumn (cond b (Some x) (find (λ n. is_none (column_number d n)) (xs ++ ys)))
        ≡ first_some (option_map NoSuchColumn (cond b (Some x) (find (λ n. is_none (column_number d n)) xs)) ∷ unknown_column d ys ∷ [])
    by true h = refl
    by false h = h

-- ---- an item: the column that is set, and then the column of its new value

pub column_first : (d : TableDef) (x : List ℕ) (ys : List (List ℕ)) (r : Refusal) → Some r ≡ unknown_column d (x ∷ []) → Some r ≡ unknown_column d (x ∷ ys)
column_first d x ys r h = ap (λ o. first_some (o ∷ unknown_column d ys ∷ [])) h ∙ sym (append d (x ∷ []) ys)

pub column_known : (d : TableDef) (x : List ℕ) (ys : List (List ℕ)) (r : Option Refusal) → None ≡ unknown_column d (x ∷ []) → r ≡ unknown_column d ys → r ≡ unknown_column d (x ∷ ys)
column_known d x ys r h e = e ∙ only (unknown_column d ys) ∙ ap (λ o. first_some (o ∷ unknown_column d ys ∷ [])) h ∙ sym (append d (x ∷ []) ys)

pub ruleset items = (column_first, column_known)

-- ---- a SET list

first_two : {B : Type 0} (o p : Option B) (os : List (Option B)) → p ≡ first_some os → first_some (o ∷ p ∷ []) ≡ first_some (o ∷ os)
first_two None p os e = sym (only p) ∙ e
first_two (Some b) p os e = refl

each : (d : TableDef) (ss : List SetColumn) → first_of (λ s. unknown_column d (set_names s)) ss ≡ unknown_column d (flat_map set_names ss)
each d [] = refl
each d (s ∷ ss) =
    sym (first_two (unknown_column d (set_names s)) (unknown_column d (flat_map set_names ss)) (map (λ t. unknown_column d (set_names t)) ss) (sym (each d ss)))
    ∙ sym (append d (set_names s) (flat_map set_names ss))

pub by_items : (d : TableDef) (ss : List SetColumn) (r : Option Refusal) → r ≡ first_of (λ s. unknown_column d (set_names s)) ss → r ≡ unknown_column d (flat_map set_names ss)
by_items d ss r e = e ∙ each d ss

pub ruleset lists = (by_items)
