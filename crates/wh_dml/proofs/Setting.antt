-- The SET list with its columns found gives a row the values that the SET list as it is written does.
use Rattle.std.proofs.Common.{◌≡◌, ◌∙◌, sym, ap, refl, ℕ, ◌+◌, ◌<◌, ◌==◌, List, [], ◌∷◌, ◌++◌, Bool, true, false, cond, length, map, drop, get_or, Some}
use Rattle.std.proofs.lemmas.List.{append_assoc, drop_more}
use Rattle.std.specs.List.{enumerate_from, find}
use Rattle.def_effect.specs.Block.{new_value, set_or_old, set_value, updated_row}
use Rattle.wh_base.specs.Lists.{option_case}
use Rattle.wh_base.specs.declared.statements.NewValue.{NewValue}
use Rattle.wh_base.specs.declared.statements.NewValue.TheVariants.{Given, Moved}
use Rattle.wh_base.specs.declared.statements.SetColumn.{SetColumn}
use Rattle.wh_base.specs.declared.tables.TableDef.{TableDef}
use Rattle.wh_base.specs.declared.values.Value.{Value}
use Rattle.wh_dml.specs.Changing.{row_set, value_set}
use Rattle.wh_dml.specs.Setting.{placed_set, set_to, value_after}
use Rattle.wh_dml.specs.declared.set_list.PlacedSet.{PlacedSet}
use Rattle.wh_dml.specs.declared.set_list.SetList.{SetList}

-- ---- the columns found

same_value : (d : TableDef) (old : List Value) (v : NewValue) → value_set old (set_to d v) ≡ new_value d old v
same_value d old (Given l) = refl
same_value d old (Moved from n) = refl

-- the places of the columns that are set, each with its new value
abbrev pairs : List Value → List PlacedSet → List (ℕ × Value)
pairs old ps = map (λ p. (p.column, value_set old p.to)) ps

same_pairs : (d : TableDef) (old : List Value) (ss : List SetColumn) → pairs old (map (placed_set d) ss) ≡ map (set_value d old) ss
same_pairs d old [] = refl
same_pairs d old (s ∷ ss) = (λ i. ((placed_set d s).column, same_value d old s.value i) ∷ same_pairs d old ss i)

pub placed_is : (d : TableDef) (ss : List SetColumn) (all : List PlacedSet) → all ≡ map (placed_set d) ss → (old : List Value) → row_set (record { sets = all }) old ≡ updated_row d ss old
placed_is d ss all is old = ap (λ ps. map (set_or_old ps) (enumerate_from 0 old)) (ap (pairs old) is ∙ same_pairs d old ss)

pub ruleset placing = (placed_is)

-- ---- a row

-- the value that is set for a column, by the list as it is kept
same_found : (ps : List PlacedSet) (old : List Value) (q : ℕ × Value) → value_after ps old q ≡ set_or_old (pairs old ps) q
same_found [] old q = refl
same_found (p ∷ ps) old q = by (p.column == q.0) (same_found ps old q)
  where
    by : (b : Bool) → value_after ps old q ≡ set_or_old (pairs old ps) q
        → option_case (cond b (Some p) (find (λ s. s.column == q.0) ps)) q.1 (λ s. value_set old s.to)
        ≡ option_case (cond b (Some (p.column, value_set old p.to)) (find (λ r. r.0 == q.0) (pairs old ps))) q.1 (λ r. r.1)
    by true h = refl
    by false h = h

same_row : (ps : List PlacedSet) (old : List Value) (qs : List (ℕ × Value)) → map (value_after ps old) qs ≡ map (set_or_old (pairs old ps)) qs
same_row ps old [] = refl
same_row ps old (q ∷ qs) = (λ i. same_found ps old q i ∷ same_row ps old qs i)

pub row_is : (s : SetList) (old values : List Value) → values ≡ map (value_after s.sets old) (enumerate_from 0 old) → values ≡ row_set s old
row_is s old values is = is ∙ same_row s.sets old (enumerate_from 0 old)

-- ---- one turn of a loop over the places of a row

pub value_more : (ps : List PlacedSet) (old : List Value) (at : ℕ) (v w : Value) (done more whole : List Value) → at < length old → v ≡ get_or old at v → w ≡ value_after ps old (at, v) → more ≡ done ++ w ∷ []
    → done ++ map (value_after ps old) (enumerate_from at (drop at old)) ≡ whole → more ++ map (value_after ps old) (enumerate_from (at + 1) (drop (at + 1) old)) ≡ whole
value_more ps old at v w done more whole within v_is w_is pushed h =
    let rest : List Value = map (value_after ps old) (enumerate_from (at + 1) (drop (at + 1) old)) in
    let cut : drop at old ≡ v ∷ drop (at + 1) old = drop_more old at v within ∙ ap (λ x. x ∷ drop (at + 1) old) (sym v_is) in
    ap (λ xs. xs ++ rest) pushed
    ∙ append_assoc done (w ∷ []) rest
    ∙ ap (λ x. done ++ x ∷ rest) w_is
    ∙ ap (λ xs. done ++ map (value_after ps old) (enumerate_from at xs)) (sym cut)
    ∙ h

pub ruleset values = (value_more)
