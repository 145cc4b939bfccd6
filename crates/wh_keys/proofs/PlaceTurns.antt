-- Changes of rows one after another, in the index of a foreign key.
use Rattle.std.proofs.Common.{◌≡◌, ◌∙◌, sym, ap, refl, List, ◌∷◌, Some, None, Option, ℕ}
use Rattle.std.specs.List.{cons_option}
use Rattle.wh_base.specs.Lists.{option_case}
use Rattle.wh_base.specs.declared.values.Value.{Value}
use Rattle.wh_dml.specs.declared.changes.RowChange.{RowChange}
use Rattle.wh_keyindex.specs.Children.{Values}
use Rattle.wh_keys.specs.Indexes.{coming, entry_in, going}
use Rattle.wh_keys.specs.Made.{with_place, with_places, without_place, without_places}

goes_by : (o : Option (Value × ℕ)) (es : List (Value × ℕ)) (m : Values) → without_places (cons_option o es) m ≡ without_places es (without_place o m)
goes_by None es m = refl
goes_by (Some e) es m = refl

pub goes_first : (column : ℕ) (c : RowChange) (cs : List RowChange) (m n : Values) → n ≡ without_place (option_case c.old None (entry_in column)) m
    → without_places (going column cs) n ≡ without_places (going column (c ∷ cs)) m
goes_first column c cs m n is = ap (without_places (going column cs)) is ∙ sym (goes_by (option_case c.old None (entry_in column)) (going column cs) m)

pub ruleset goes = (goes_first)

comes_by : (o : Option (Value × ℕ)) (es : List (Value × ℕ)) (m : Values) → with_places (cons_option o es) m ≡ with_places es (with_place o m)
comes_by None es m = refl
comes_by (Some e) es m = refl

pub comes_first : (column : ℕ) (c : RowChange) (cs : List RowChange) (m n : Values) → n ≡ with_place (option_case c.new None (entry_in column)) m
    → with_places (coming column cs) n ≡ with_places (coming column (c ∷ cs)) m
comes_first column c cs m n is = ap (with_places (coming column cs)) is ∙ sym (comes_by (option_case c.new None (entry_in column)) (coming column cs) m)

pub ruleset comes = (comes_first)
