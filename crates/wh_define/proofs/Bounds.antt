-- The last upper bound, and the bounds of partitions that are numbered.
use Rattle.std.proofs.Common.{◌≡◌, ◌-◌, ap, arith, refl, ℕ, suc, List, [], ◌∷◌, length, map, slice_get}
use Rattle.std.specs.Option.{option_map}
use Rattle.def_effect.specs.Define.{new_bound, numbered_parts}
use Rattle.wh_base.specs.Lists.{last}
use Rattle.wh_base.specs.declared.statements.NewRange.{NewRange}
use Rattle.wh_base.specs.declared.tables.Part.{Part}
use Rattle.wh_define.specs.Bounds.{bounds_of}

pub last_bound : (ps : List Part) → last (bounds_of ps) ≡ option_map (λ p. p.below) (slice_get ps (length ps - 1))
last_bound [] = refl
last_bound (p ∷ []) = refl
last_bound (p ∷ q ∷ ps) =
    let e : length (p ∷ q ∷ ps) - 1 ≡ suc (length (q ∷ ps) - 1) = omega arith in
    rw e (last_bound (q ∷ ps))

pub numbered_bounds : (n : ℕ) (rs : List NewRange) → bounds_of (numbered_parts n rs) ≡ map new_bound rs
numbered_bounds n [] = refl
numbered_bounds n (r ∷ rs) = ap (λ bs. new_bound r ∷ bs) (numbered_bounds (suc n) rs)
