-- Refusals of a list whose items are asked in turn, each with those before it: so a name is taken where an earlier one
-- is the same, and a bound must be above the one before.
use Rattle.std.specs.Prelude.{List, None, Option, [], ◌++◌, ◌∷◌}
use Rattle.wh_base.specs.Lists.{first_some}

-- what h gives of the first item where it gives something; h sees the items before it, of which some came earlier
abbrev pub first_after : {A B : Type 0} → (List A → A → Option B) → List A → List A → Option B
first_after h earlier [] = None
first_after h earlier (x ∷ xs) = first_some (h earlier x ∷ first_after h (earlier ++ x ∷ []) xs ∷ [])

-- what h gives of the first item where it gives something; h sees the items before it
abbrev pub first_in_turn : {A B : Type 0} → (List A → A → Option B) → List A → Option B
first_in_turn h xs = first_after h [] xs
