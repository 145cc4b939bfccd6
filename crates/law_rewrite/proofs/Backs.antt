-- Joining a table back keeps that rows stand for groups.
use Rattle.std.proofs.Common.{◌≡◌, ◌∙◌, sym, ap, refl, Bool, true, false, cond, List, [], ◌∷◌, ◌++◌, map, Option, Some, None}
use Rattle.std.specs.Prelude.{filter_map, find, is_some, option_map}
use Rattle.std.specs.List.{cons_option, filter}
use Rattle.std.proofs.lemmas.Simd.{map-map}
use Rattle.wh_base.specs.Lists.{option_case}
use Rattle.wh_base.specs.Tables.{Base}
use Rattle.wh_base.specs.declared.columns.ColRef.{ColRef}
use Rattle.wh_base.specs.declared.values.Value.{Value}
use Rattle.wh_base.specs.declared.views.Back.{Back}
use Rattle.def_meaning.specs.Joined.{rows_at}
use Rattle.def_meaning.specs.Meaning.{Grouped}
use Rattle.def_rewriting.specs.PlanRows.{back_row, exact_value, gained, meets_back}
use Rattle.law_lists.proofs.Counts.{SameCounts-is, SameCounts-map}
use Rattle.law_lists.proofs.Groups.{Agree, Stands, Stands-filter}
use Rattle.law_lists.proofs.Each.{Each-map}
use Rattle.law_rewrite.specs.Words.{Each}

module _ {T R S : Type 0} (row : Grouped T → R) (found : R → Option S) (found_t : T → Option S) (join : R → S → R) where
  -- a row with what was found for it
  abbrev pub with_found : R → R
  with_found r = option_case (found r) r (join r)

  map_cond : (b : Bool) (r : R) (rows : List R) → map with_found (cond b (r ∷ rows) rows) ≡ cond b (with_found r ∷ map with_found rows) (map with_found rows)
  map_cond true r rows = refl
  map_cond false r rows = refl

  filter_map_is : (rows : List R) → filter_map (λ r. option_map (join r) (found r)) rows ≡ map with_found (filter (λ r. is_some (found r)) rows)
  filter_map_is [] = refl
  filter_map_is (r ∷ rows) =
      ap (cons_option (option_map (join r) (found r))) (filter_map_is rows)
      ∙ by (found r) (map with_found (filter (λ x. is_some (found x)) rows))
      ∙ sym (map_cond (is_some (found r)) r (filter (λ x. is_some (found x)) rows))
    where
      by : (o : Option S) (ys : List R) → cons_option (option_map (join r) o) ys ≡ cond (is_some o) (option_case o r (join r) ∷ ys) ys
      by None ys = refl
      by (Some s) ys = refl

  -- **rows with what is found for them stand for the groups for which something is found**
  pub Stands-back : (gs : List (Grouped T)) (rows : List R) (ts : List T)
      → Each (Agree row found_t found) gs → Stands row gs rows ts
      → Stands (λ g. with_found (row g)) (filter (λ g. is_some (found (row g))) gs) (filter_map (λ r. option_map (join r) (found r)) rows) (filter (λ t. is_some (found_t t)) ts)
  Stands-back gs rows ts h s =
      let kept : Stands row (filter (λ g. is_some (found (row g))) gs) (filter (λ r. is_some (found r)) rows) (filter (λ t. is_some (found_t t)) ts)
      = Stands-filter row (λ t. is_some (found_t t)) (λ r. is_some (found r)) gs rows ts
      (Each-map (Agree row found_t found) (Agree row (λ t. is_some (found_t t)) (λ r. is_some (found r))) (λ g. Each-map (λ t. found_t t ≡ found (row g)) (λ t. is_some (found_t t) ≡ is_some (found (row g))) (λ t. ap is_some) g.1) gs h) s in
      record {
        rows_are = λ p. SameCounts-is (filter_map (λ r. option_map (join r) (found r)) rows) (map with_found (filter (λ r. is_some (found r)) rows)) (filter_map_is rows) p
            ∙ SameCounts-map with_found (filter (λ r. is_some (found r)) rows) (map row (filter (λ g. is_some (found (row g))) gs)) kept.rows_are p
            ∙ SameCounts-is (map with_found (map row (filter (λ g. is_some (found (row g))) gs))) (map (λ g. with_found (row g)) (filter (λ g. is_some (found (row g))) gs)) (map-map with_found row (filter (λ g. is_some (found (row g))) gs)) p;
        tuples_are = kept.tuples_are;
      }

-- one table joined back
pub Stands-joined : {T : Type 0} (value : T → ColRef → Value) (row : Grouped T → List Value) (base : Base) (columns : List (Option ColRef)) (b : Back)
    (gs : List (Grouped T)) (rows : List (List Value)) (ts : List T)
    → Each (λ g. Each (λ t. value t b.source ≡ exact_value columns (row g) b.source) g.1) gs → Stands row gs rows ts
    → Stands (λ g. with_found row (λ r. find (meets_back b (exact_value columns r b.source)) (rows_at base b.table)) (λ t. find (meets_back b (value t b.source)) (rows_at base b.table)) (λ r s. r ++ gained b s) (row g))
    (filter (λ g. is_some (find (meets_back b (exact_value columns (row g) b.source)) (rows_at base b.table))) gs)
    (filter_map (back_row base columns b) rows)
    (filter (λ t. is_some (find (meets_back b (value t b.source)) (rows_at base b.table))) ts)
Stands-joined {T} value row base columns b gs rows ts h s =
    Stands-back row (λ r. find (meets_back b (exact_value columns r b.source)) (rows_at base b.table)) (λ t. find (meets_back b (value t b.source)) (rows_at base b.table)) (λ r x. r ++ gained b x) gs rows ts
    (Each-map (λ g. Each (λ t. value t b.source ≡ exact_value columns (row g) b.source) g.1) (Agree row (λ t. find (meets_back b (value t b.source)) (rows_at base b.table)) (λ r. find (meets_back b (exact_value columns r b.source)) (rows_at base b.table)))
    (λ g. Each-map (λ t. value t b.source ≡ exact_value columns (row g) b.source) (λ t. find (meets_back b (value t b.source)) (rows_at base b.table) ≡ find (meets_back b (exact_value columns (row g) b.source)) (rows_at base b.table))
    (λ t. ap (λ w. find (meets_back b w) (rows_at base b.table))) g.1) gs h) s
