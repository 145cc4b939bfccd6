-- Changes and definitions one after another.
use Rattle.std.proofs.Common.{◌≡◌, ◌∙◌, sym, ap, refl, Bool, true, false, List, ◌∷◌, None, Some, Option, ℕ, ◌||◌}
use Rattle.std.specs.List.{cons_option, list_any}
use Rattle.wh_base.specs.Lists.{option_case}
use Rattle.wh_base.specs.declared.values.Value.{Value}
use Rattle.wh_dml.specs.declared.changes.RowChange.{RowChange}
use Rattle.wh_keys.specs.Indexes.{coming, entry_in, going}

any_option : (p : Value × ℕ → Bool) (o : Option (Value × ℕ)) (es : List (Value × ℕ)) → list_any p (cons_option o es) ≡ (option_case o false p || list_any p es)
any_option p None es = refl
any_option p (Some e) es = refl

-- ---- rows that come

pub comes_not : (column : ℕ) (p : Value × ℕ → Bool) (c : RowChange) (cs : List RowChange) → option_case (option_case c.new None (entry_in column)) false p ≡ false
    → list_any p (coming column cs) ≡ list_any p (coming column (c ∷ cs))
comes_not column p c cs e = sym (any_option p (option_case c.new None (entry_in column)) (coming column cs) ∙ ap (λ b. b || list_any p (coming column cs)) e)

pub comes_here : (column : ℕ) (p : Value × ℕ → Bool) (c : RowChange) (cs : List RowChange) → option_case (option_case c.new None (entry_in column)) false p ≡ true
    → list_any p (coming column (c ∷ cs)) ≡ true
comes_here column p c cs e = any_option p (option_case c.new None (entry_in column)) (coming column cs) ∙ ap (λ b. b || list_any p (coming column cs)) e

pub ruleset comes = (comes_not, comes_here)

-- ---- rows that go

pub goes_not : (column : ℕ) (p : Value × ℕ → Bool) (c : RowChange) (cs : List RowChange) → option_case (option_case c.old None (entry_in column)) false p ≡ false
    → list_any p (going column cs) ≡ list_any p (going column (c ∷ cs))
goes_not column p c cs e = sym (any_option p (option_case c.old None (entry_in column)) (going column cs) ∙ ap (λ b. b || list_any p (going column cs)) e)

pub goes_here : (column : ℕ) (p : Value × ℕ → Bool) (c : RowChange) (cs : List RowChange) → option_case (option_case c.old None (entry_in column)) false p ≡ true
    → list_any p (going column (c ∷ cs)) ≡ true
goes_here column p c cs e = any_option p (option_case c.old None (entry_in column)) (going column cs) ∙ ap (λ b. b || list_any p (going column cs)) e

pub ruleset goes = (goes_not, goes_here)
