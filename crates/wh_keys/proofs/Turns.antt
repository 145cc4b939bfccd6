-- Changes of rows one after another.
use Rattle.std.proofs.Common.{◌≡◌, ◌∙◌, sym, ap, refl, Bool, true, false, cond, List, ◌∷◌, Some, None, Option, ℕ, is_some}
use Rattle.std.specs.List.{cons_option}
use Rattle.std.specs.FinMap as map
use Rattle.wh_base.specs.Lists.{option_case, where_true}
use Rattle.wh_base.specs.declared.values.Value.{Value}
use Rattle.wh_dml.specs.declared.changes.RowChange.{RowChange}
use Rattle.wh_keys.specs.Indexes.{Places, coming, entry_in, going, with_keys, without_keys}
use Rattle.wh_keys.specs.Made.{with_entry, without_entry}

-- ---- keys that go

goes_by : (o : Option (Value × ℕ)) (es : List (Value × ℕ)) (m : Places) → without_keys (cons_option o es) m ≡ without_keys es (without_entry o m)
goes_by None es m = refl
goes_by (Some e) es m = refl

pub goes_first : (column : ℕ) (c : RowChange) (cs : List RowChange) (m n : Places) → n ≡ without_entry (option_case c.old None (entry_in column)) m
    → without_keys (going column cs) n ≡ without_keys (going column (c ∷ cs)) m
goes_first column c cs m n is = ap (without_keys (going column cs)) is ∙ sym (goes_by (option_case c.old None (entry_in column)) (going column cs) m)

pub ruleset goes = (goes_first)

-- ---- keys that come

comes_by : (o : Option (Value × ℕ)) (es : List (Value × ℕ)) (m n : Places) → with_entry o m ≡ Some n → with_keys (cons_option o es) m ≡ with_keys es n
comes_by None es m n is = cc
comes_by (Some e) es m n is = by (is_some (map.get m e.0)) is
  where
    by : (b : Bool) → cond b None (Some (map.insert m e.0 e.1)) ≡ Some n → cond b None (with_keys es (map.insert m e.0 e.1)) ≡ with_keys es n
    by true is = cc
    by false is = cc

clash_by : (o : Option (Value × ℕ)) (es : List (Value × ℕ)) (m : Places) → with_entry o m ≡ None → with_keys (cons_option o es) m ≡ None
clash_by None es m is = cc
clash_by (Some e) es m is = by (is_some (map.get m e.0)) is
  where
    by : (b : Bool) → cond b None (Some (map.insert m e.0 e.1)) ≡ None → cond b None (with_keys es (map.insert m e.0 e.1)) ≡ None
    by true is = refl
    by false is = cc

pub comes_first : (column : ℕ) (c : RowChange) (cs : List RowChange) (m n : Places) (made : Bool) → with_entry (option_case c.new None (entry_in column)) m ≡ where_true made n → made ≡ true
    → with_keys (coming column cs) n ≡ with_keys (coming column (c ∷ cs)) m
comes_first column c cs m n made is e = sym (comes_by (option_case c.new None (entry_in column)) (coming column cs) m n (is ∙ ap (λ b. where_true b n) e))

pub clash_first : (column : ℕ) (c : RowChange) (cs : List RowChange) (m n : Places) (made : Bool) → with_entry (option_case c.new None (entry_in column)) m ≡ where_true made n → made ≡ false
    → with_keys (coming column (c ∷ cs)) m ≡ None
clash_first column c cs m n made is e = clash_by (option_case c.new None (entry_in column)) (coming column cs) m (is ∙ ap (λ b. where_true b n) e)

pub ruleset comes = (comes_first, clash_first)
