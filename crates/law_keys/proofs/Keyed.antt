-- What an index of a key has after entries were taken out and others put in.
use Rattle.std.proofs.Common.{◌≡◌, ◌∙◌, sym, ap, refl, subst, arith, ℕ, ◌+◌, ◌≤◌, Bool, true, false, cond, ◌||◌, List, [], ◌∷◌, None, Some, is_some}
use Rattle.std.proofs.lemmas.Option.{none-some, same_Some}
use Rattle.std.specs.FinMap as fin
use Rattle.std.specs.List.{list_any}
use Rattle.wh_base.specs.Values.{same_value}
use Rattle.wh_base.specs.ValueLaws.{value_total}
use Rattle.wh_base.specs.declared.values.Value.{Value}
use Rattle.law_keys.proofs.Changed.{entries_with, is_of}
use Rattle.law_keys.proofs.Counts.{none_any, some_any, weight, weight_none, weight_one}
use Rattle.law_keys.proofs.Repeated.{same_by_cmp, same_is, same_itself}
use Rattle.wh_keys.specs.Indexes.{Places, rows_with, with_keys, without_keys}
use Rattle.wh_table.proofs.Ordered.{Each}

pub get_removed : (m : Places) (k v : Value) → fin.get (fin.remove m k) v ≡ cond (same_value v k) None (fin.get m v)
get_removed m k v = fin.get-remove value_total m k v ∙ ap (λ b. cond b None (fin.get m v)) (same_by_cmp v k)

pub get_inserted : (m : Places) (k : Value) (p : ℕ) (v : Value) → fin.get (fin.insert m k p) v ≡ cond (same_value v k) (Some p) (fin.get m v)
get_inserted m k p v = fin.get-insert value_total m k p v ∙ ap (λ b. cond b (Some p) (fin.get m v)) (same_by_cmp v k)

pub one_row_at_most : (v : Value) (m : Places) → rows_with v m ≤ 1
one_row_at_most v m = by (is_some (fin.get m v))
  where
    by : (b : Bool) → weight b ≤ 1
    by true = omega arith
    by false = omega arith

-- ---- entries taken out

pub get_without : (es : List (Value × ℕ)) (m : Places) (v : Value) → fin.get (without_keys es m) v ≡ cond (list_any (is_of v) es) None (fin.get m v)
get_without [] m v = refl
get_without (e ∷ es) m v =
    get_without es (fin.remove m e.0) v
    ∙ ap (λ o. cond (list_any (is_of v) es) None o) (get_removed m e.0 v)
    ∙ by (list_any (is_of v) es) (same_value v e.0)
  where
    by : (b c : Bool) → cond b None (cond c None (fin.get m v)) ≡ cond (c || b) None (fin.get m v)
    by true true = refl
    by true false = refl
    by false true = refl
    by false false = refl

-- where no more rows go than there are, those that stay and those that go are all
pub rows_without : (es : List (Value × ℕ)) (m : Places) (v : Value) → entries_with v es ≤ rows_with v m → rows_with v (without_keys es m) + entries_with v es ≡ rows_with v m
rows_without es m v few = by (list_any (is_of v) es) refl
  where
    by : (b : Bool) → list_any (is_of v) es ≡ b → rows_with v (without_keys es m) + entries_with v es ≡ rows_with v m
    by true e =
        let some = some_any (is_of v) es e in
        let most = one_row_at_most v m in
        let gone : rows_with v (without_keys es m) ≡ 0 = ap (λ o. weight (is_some o)) (get_without es m v ∙ ap (λ b. cond b None (fin.get m v)) e) in
        omega (arith, some, most, gone, few)
    by false e =
        let none = none_any (is_of v) es e in
        let kept : rows_with v (without_keys es m) ≡ rows_with v m = ap (λ o. weight (is_some o)) (get_without es m v ∙ ap (λ b. cond b None (fin.get m v)) e) in
        omega (arith, none, kept)

-- a key that is still there had its place before, and none of the entries is its
pub found_without : (es : List (Value × ℕ)) (m : Places) (v : Value) (p : ℕ) → fin.get (without_keys es m) v ≡ Some p → (fin.get m v ≡ Some p) × (entries_with v es ≡ 0)
found_without es m v p h = by (list_any (is_of v) es) refl (sym (get_without es m v) ∙ h)
  where
    by : (b : Bool) → list_any (is_of v) es ≡ b → cond b None (fin.get m v) ≡ Some p → (fin.get m v ≡ Some p) × (entries_with v es ≡ 0)
    by true e k = absurd (none-some p k)
    by false e k = (k, none_any (is_of v) es e)

-- ---- entries put in

rows_more : (m : Places) (k : Value) (p : ℕ) (v : Value) → is_some (fin.get m k) ≡ false → rows_with v (fin.insert m k p) ≡ rows_with v m + weight (same_value v k)
rows_more m k p v absent = ap (λ o. weight (is_some o)) (get_inserted m k p v) ∙ by (same_value v k) refl
  where
    by : (b : Bool) → same_value v k ≡ b → weight (is_some (cond b (Some p) (fin.get m v))) ≡ rows_with v m + weight b
    by true e =
        let none : rows_with v m ≡ 0 = ap (λ u. rows_with u m) (same_is v k e) ∙ weight_none (is_some (fin.get m k)) absent in
        omega (arith, none)
    by false e = omega arith

pub rows_put : (es : List (Value × ℕ)) (m n : Places) (v : Value) → with_keys es m ≡ Some n → rows_with v n ≡ rows_with v m + entries_with v es
rows_put [] m n v h = let same : rows_with v m ≡ rows_with v n = ap (rows_with v) (same_Some m n h) in omega (arith, same)
rows_put (e ∷ es) m n v h = by (is_some (fin.get m e.0)) refl h (rows_put es (fin.insert m e.0 e.1) n v)
  where
    by : (b : Bool) → is_some (fin.get m e.0) ≡ b → cond b None (with_keys es (fin.insert m e.0 e.1)) ≡ Some n
        → (with_keys es (fin.insert m e.0 e.1) ≡ Some n → rows_with v n ≡ rows_with v (fin.insert m e.0 e.1) + entries_with v es)
        → rows_with v n ≡ rows_with v m + (weight (same_value v e.0) + entries_with v es)
    by true absent k more = absurd (none-some n k)
    by false absent k more = omega (arith, more k, rows_more m e.0 e.1 v absent)

-- what is found then was there before or came
pub found_put : (P : Value → ℕ → Type 0) (es : List (Value × ℕ)) (m n : Places) → with_keys es m ≡ Some n → Each (λ e. P e.0 e.1) es
    → ((v : Value) (p : ℕ) → fin.get m v ≡ Some p → P v p) → (v : Value) (p : ℕ) → fin.get n v ≡ Some p → P v p
found_put P [] m n h all before = λ v p k. before v p (ap (λ i. fin.get i v) (same_Some m n h) ∙ k)
found_put P (e ∷ es) m n h all before = by (is_some (fin.get m e.0)) h (λ k. found_put P es (fin.insert m e.0 e.1) n k all.1 now)
  where
    now : (v : Value) (p : ℕ) → fin.get (fin.insert m e.0 e.1) v ≡ Some p → P v p
    now v p k = one (same_value v e.0) refl (sym (get_inserted m e.0 e.1 v) ∙ k)
      where
        one : (b : Bool) → same_value v e.0 ≡ b → cond b (Some e.1) (fin.get m v) ≡ Some p → P v p
        one true f j = subst (λ u. P u p) (sym (same_is v e.0 f)) (subst (λ q. P e.0 q) (same_Some e.1 p j) all.0)
        one false f j = before v p j

    by : (b : Bool) → cond b None (with_keys es (fin.insert m e.0 e.1)) ≡ Some n → (with_keys es (fin.insert m e.0 e.1) ≡ Some n → (v : Value) (p : ℕ) → fin.get n v ≡ Some p → P v p)
        → (v : Value) (p : ℕ) → fin.get n v ≡ Some p → P v p
    by true k more = absurd (none-some n k)
    by false k more = more k

-- a value that two rows would have
pub record Clash (es : List (Value × ℕ)) (m : Places) : Type 0 where
  pub value : Value
  pub comes : 1 ≤ entries_with value es
  pub twice : 2 ≤ rows_with value m + entries_with value es

pub clash_put : (es : List (Value × ℕ)) (m : Places) → with_keys es m ≡ None → Clash es m
clash_put [] m h = absurd (none-some m (sym h))
clash_put (e ∷ es) m h = by (is_some (fin.get m e.0)) refl h (clash_put es (fin.insert m e.0 e.1))
  where
    by : (b : Bool) → is_some (fin.get m e.0) ≡ b → cond b None (with_keys es (fin.insert m e.0 e.1)) ≡ None → (with_keys es (fin.insert m e.0 e.1) ≡ None → Clash es (fin.insert m e.0 e.1)) → Clash (e ∷ es) m
    by true there k more =
        let one : weight (same_value e.0 e.0) ≡ 1 = weight_one (same_value e.0 e.0) (same_itself e.0) in
        let row : rows_with e.0 m ≡ 1 = weight_one (is_some (fin.get m e.0)) there in
        record { value = e.0; comes = omega (arith, one); twice = omega (arith, one, row) }
    by false absent k more =
        let c = more k in
        let rows = rows_more m e.0 e.1 c.value absent in
        record { value = c.value; comes = omega (arith, c.comes); twice = omega (arith, c.twice, rows) }
