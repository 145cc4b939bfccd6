-- The last upper bound, and the bound below a place.
use Rattle.std.proofs.Common.{◌≡◌, ◌-◌, ◌+◌, ℕ, suc, Option, None, List, [], ◌∷◌, length, refl, arith, slice_get}
use Rattle.std.specs.Option.{option_map}
use Rattle.wh_base.specs.Lists.{last, option_case}
use Rattle.wh_base.specs.declared.values.Value.{Value}
use Rattle.wh_base.specs.declared.tables.Part.{Part}
use Rattle.wh_partmap.specs.History.{bound_before, upper_bounds}

pub last_bound : (ps : List Part) → last (upper_bounds ps) ≡ option_map (λ p. p.below) (slice_get ps (length ps - 1))
last_bound [] = refl
last_bound (p ∷ []) = refl
last_bound (p ∷ q ∷ ps) =
    let e : length (p ∷ q ∷ ps) - 1 ≡ suc (length (q ∷ ps) - 1) = omega arith in
    rw e (last_bound (q ∷ ps))

pub bound_behind : (lo : Option Value) (parts : List Part) (place before : ℕ) → place ≡ before + 1 → bound_before lo parts place ≡ option_case (slice_get parts before) None (λ p. p.below)
bound_behind lo parts place before e = let f : place ≡ suc before = omega arith in rw f refl

pub ruleset before = (bound_behind)
