-- Whether a number stands twice, asked of each number and those before it in their order.
use Rattle.std.specs.Prelude.{Bool, List, [], false, ℕ, ◌++◌, ◌||◌, ◌∷◌}
use Rattle.wh_base.specs.Lists.{has_number}

-- one of the numbers equals an earlier one, or one that was listed before
abbrev pub repeats_later : List ℕ → List ℕ → Bool
repeats_later listed [] = false
repeats_later listed (n ∷ ns) = has_number listed n || repeats_later (listed ++ n ∷ []) ns
