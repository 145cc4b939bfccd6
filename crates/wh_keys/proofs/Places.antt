-- The index of a key after each call, with its changes noted.
use Rattle.std.proofs.Common.{◌≡◌, ◌∙◌, ap, List, [], ◌∷◌, ◌++◌, Option, ℕ, sym}
use Rattle.std.specs.FinMap as map
use Rattle.wh_base.specs.ValueLaws.{value_total, value_exact}
use Rattle.wh_base.specs.declared.values.Value.{Value}
use Rattle.wh_keys.specs.Indexes.{Places}
use Rattle.wh_keys.specs.Undoing.{set_to, undone}
use Rattle.wh_keys.specs.declared.was.Was.{Was}
use Rattle.wh_keys.proofs.Undone.{undone-push, undone_change}

abbrev pub Log : Type 0
Log = List (Was Value ℕ)

pub change_noted : (log log1 log2 : Log) (m m1 m2 : Places) (k noted : Value) (v w : Option ℕ) → log1 ≡ log → m1 ≡ m → noted ≡ k → w ≡ map.get m1 k
    → log2 ≡ log1 ++ record { key = noted; value = w } ∷ [] → m2 ≡ set_to m1 k v → undone log2 m2 ≡ undone log m
change_noted = undone_change value_total value_exact

pub last_undone : (log rest : Log) (m n : Places) (w : Was Value ℕ) → log ≡ rest ++ w ∷ [] → n ≡ set_to m w.key w.value → undone rest n ≡ undone log m
last_undone log rest m n w is_log is_map = ap (undone rest) is_map ∙ sym (undone-push value_total value_exact rest w m) ∙ ap (λ l. undone l m) (sym is_log)
