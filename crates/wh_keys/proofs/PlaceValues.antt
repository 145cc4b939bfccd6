-- The index of a foreign key after each call, with its changes noted.
use Rattle.std.proofs.Common.{◌≡◌, ◌∙◌, sym, ap, true, cond, List, [], ◌∷◌, ◌++◌, None, Option, Some, ℕ, refl}
use Rattle.std.specs.Cmp.{eq_by_cmp_equiv, nat_cmp_total}
use Rattle.std.specs.FinMap as map
use Rattle.std.specs.Ordering.{eq_by_cmp, nat_cmp}
use Rattle.wh_base.specs.declared.values.Value.{Value}
use Rattle.wh_keyindex.specs.Children.{Values}
use Rattle.wh_keys.specs.Undoing.{set_to, undone}
use Rattle.wh_keys.specs.declared.was.Was.{Was}
use Rattle.wh_keys.proofs.Undone.{set_twice, undone-push, undone_change}

abbrev pub Log : Type 0
Log = List (Was ℕ Value)

pub change_noted : (log log1 log2 : Log) (m m1 m2 : Values) (place : ℕ) (v w : Option Value) → log1 ≡ log → m1 ≡ m → w ≡ map.get m1 place
    → log2 ≡ log1 ++ record { key = place; value = w } ∷ [] → m2 ≡ set_to m1 place v → undone log2 m2 ≡ undone log m
change_noted log log1 log2 m m1 m2 place v w same_log same_map had is_log is_map =
    undone_change nat_cmp_total map.nat_cmp-IsAntisymmetric log log1 log2 m m1 m2 place place v w same_log same_map refl had is_log is_map

pub last_undone : (log rest : Log) (m n : Values) (w : Was ℕ Value) → log ≡ rest ++ w ∷ [] → n ≡ set_to m w.key w.value → undone rest n ≡ undone log m
last_undone log rest m n w is_log is_map =
    ap (undone rest) is_map ∙ sym (undone-push nat_cmp_total map.nat_cmp-IsAntisymmetric rest w m) ∙ ap (λ l. undone l m) (sym is_log)

-- ---- a place that was taken out

pub absent : (m : Values) (place : ℕ) → map.get (map.remove m place) place ≡ None
absent m place =
    let itself : eq_by_cmp nat_cmp place place ≡ true = (eq_by_cmp_equiv nat_cmp_total).refl place in
    map.get-remove nat_cmp_total m place place ∙ ap (λ b. cond b None (map.get m place)) itself

pub put_again : (m : Values) (place : ℕ) (value : Value) → map.insert (map.remove m place) place value ≡ map.insert m place value
put_again m place value = set_twice nat_cmp_total map.nat_cmp-IsAntisymmetric m place None (Some value)

pub ruleset places = (absent, put_again)
