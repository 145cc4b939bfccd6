-- Conditions over the rows of the view are the composed conditions over the tuples.
use Rattle.std.proofs.Common.{◌≡◌, ◌∙◌, sym, ap, refl, Bool, true, false, List, [], ◌∷◌, map, Option, Some, None}
use Rattle.std.specs.Prelude.{◌&&◌, is_some, not, unwrap_or}
use Rattle.std.specs.List.{flat_map, list_all, list_any}
use Rattle.std.proofs.lemmas.List.Folds.{list_all-append}
use Rattle.std.proofs.lemmas.Bool.{and_parts}
use Rattle.std.proofs.Math.Bool.{and-true}
use Rattle.wh_base.specs.Lists.{option_case}
use Rattle.wh_base.specs.Values.{is_null, is_true_that, literal_value}
use Rattle.wh_base.specs.declared.values.Literal.{Literal}
use Rattle.wh_base.specs.declared.values.Op.TheVariants.{Eq, Ge, Le}
use Rattle.wh_base.specs.declared.values.Value.{Value}
use Rattle.wh_base.specs.declared.columns.ColRef.{ColRef}
use Rattle.wh_base.specs.declared.queries.ColName.{ColName}
use Rattle.wh_base.specs.declared.queries.RawCondition.{RawCondition}
use Rattle.wh_base.specs.declared.queries.RawCondition.TheVariants as raw
use Rattle.wh_base.specs.declared.views.ViewDef.{ViewDef}
use Rattle.def_meaning.specs.Joined.{condition_true, conditions_true}
use Rattle.def_meaning.specs.Meaning.{Grouped, group_item, groups, key_of, key_value}
use Rattle.def_nest.specs.Compose.{column_beneath, condition_stands, is_comparable, sort_beneath}
use Rattle.def_nest.specs.Names.{grouped_column}
use Rattle.def_resolve.specs.Names.{no_column}
use Rattle.def_resolve.specs.Resolve.{item_is_grouped, resolved_condition}
use Rattle.law_lists.proofs.Columns.{key_value_is}
use Rattle.law_lists.proofs.Each.{Each-of}
use Rattle.law_lists.proofs.Groups.{groups_agree}
use Rattle.law_lists.proofs.Lists.{list_any-map}
use Rattle.law_nest.specs.Each.{Each}
use Rattle.law_nest.specs.Rolled.{cell, row_true}
use Rattle.law_nest.proofs.Naming.{column_cell, named_column}
use Rattle.law_nest.proofs.Summing.{beneath_row}

and_and_true : (a b : Bool) → (a && b) ≡ (a && (b && true))
and_and_true a b = ap (λ c. a && c) (sym (and-true b))

module _ {T : Type 0} (value : T → ColRef → Value) where
  -- the members of the group have its key
  abbrev pub Keeps : List ColRef → Grouped T → Type 0
  Keeps keys g = Each (λ t. key_of value keys t ≡ g.0) g.1

  pub groups_keep : (keys : List ColRef) (ts : List T) → Each (Keeps keys) (groups value keys ts)
  groups_keep [] ts = (Each-of (λ t. key_of value [] t ≡ []) (λ t. refl) ts, tt)
  groups_keep (c ∷ cs) ts = groups_agree (key_of value (c ∷ cs)) ts

  module _ (d : ViewDef) (grouped : list_all (item_is_grouped d.query.keys) d.query.items ≡ true) (g : Grouped T) (t : T) (own : key_of value d.query.keys t ≡ g.0) where
    -- a grouped column has in the group's row its value in each member
    pub cell_reads : (c : ColName) (k : ColRef) → grouped_column d c ≡ Some k → cell d (beneath_row value d g) c ≡ value t k
    cell_reads c k h =
        column_cell d (group_item value d.query.keys g) c k h
        ∙ ap (λ key. key_value d.query.keys key k) (sym own)
        ∙ key_value_is (value t) d.query.keys k (named_column d grouped c k h)

    beneath_reads : (c : ColName) → is_some (grouped_column d c) ≡ true → cell d (beneath_row value d g) c ≡ value t (column_beneath d c)
    beneath_reads c h = by (grouped_column d c) refl h
      where
        by : (o : Option ColRef) → grouped_column d c ≡ o → is_some o ≡ true → cell d (beneath_row value d g) c ≡ value t (unwrap_or o no_column)
        by None e k = cc
        by (Some x) e k = cell_reads c x e

    pub compared : (o : Option ColRef) (ls : List Literal) → option_case o false (λ k. list_all (is_comparable (sort_beneath d k)) ls) ≡ true → is_some o ≡ true
    compared None ls h = cc
    compared (Some k) ls h = refl

    one_true : (r : RawCondition) → condition_stands d r ≡ true → row_true d (beneath_row value d g) r ≡ conditions_true (value t) (resolved_condition (column_beneath d) r)
    one_true (raw.Compare c op l) h =
        ap (λ x. is_true_that x op (literal_value l)) (beneath_reads c (compared (grouped_column d c) (l ∷ []) h))
        ∙ sym (and-true (is_true_that (value t (column_beneath d c)) op (literal_value l)))
    one_true (raw.Between c l m) h =
        ap (λ x. is_true_that x Ge (literal_value l) && is_true_that x Le (literal_value m)) (beneath_reads c (compared (grouped_column d c) (l ∷ m ∷ []) h))
        ∙ and_and_true (is_true_that (value t (column_beneath d c)) Ge (literal_value l)) (is_true_that (value t (column_beneath d c)) Le (literal_value m))
    one_true (raw.Equal a b) h = cc
    one_true (raw.OneOf c ls) h =
        ap (λ x. list_any (λ l. is_true_that x Eq (literal_value l)) ls) (beneath_reads c (compared (grouped_column d c) ls h))
        ∙ sym (list_any-map (is_true_that (value t (column_beneath d c)) Eq) literal_value ls)
        ∙ sym (and-true (list_any (is_true_that (value t (column_beneath d c)) Eq) (map literal_value ls)))
    one_true (raw.IsNull c) h = ap is_null (beneath_reads c h) ∙ sym (and-true (is_null (value t (column_beneath d c))))
    one_true (raw.NotNull c) h = ap (λ x. not (is_null x)) (beneath_reads c h) ∙ sym (and-true (not (is_null (value t (column_beneath d c)))))

    -- the conditions of the query above are true of the group's row where the composed ones are of a member
    pub all_true : (rs : List RawCondition) → list_all (condition_stands d) rs ≡ true
        → conditions_true (value t) (flat_map (resolved_condition (column_beneath d)) rs) ≡ list_all (row_true d (beneath_row value d g)) rs
    all_true [] h = refl
    all_true (r ∷ rs) h =
        let both : (condition_stands d r ≡ true) × (list_all (condition_stands d) rs ≡ true) = and_parts (condition_stands d r) (list_all (condition_stands d) rs) h in
        list_all-append (condition_true (value t)) (resolved_condition (column_beneath d) r) (flat_map (resolved_condition (column_beneath d)) rs)
        ∙ (λ i. sym (one_true r both.0) i && all_true rs both.1 i)
