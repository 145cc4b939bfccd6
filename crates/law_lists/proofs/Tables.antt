-- The definition of a table of a base state, found in the list of all definitions.
use Rattle.std.proofs.Common.{◌≡◌, refl, ℕ, zero, suc, [], ◌∷◌}
use Rattle.wh_base.specs.Tables.{Base, def_at, defs_of, table_at}

pub base_def : (base : Base) (n : ℕ) → def_at (defs_of base) n ≡ (table_at base n).def
base_def [] n = refl
base_def (t ∷ base) zero = refl
base_def (t ∷ base) (suc n) = base_def base n
