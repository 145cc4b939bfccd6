-- Parted texts are the first one and the others behind the mark.
use Rattle.std.specs.Prelude.{List, [], ℕ, ◌++◌, ◌∷◌}
use Rattle.std.proofs.Common.{◌≡◌, refl, ap, append-nil}
use Rattle.wh_base.specs.Values.{parted_by}
use Rattle.wh_render.specs.Pieces.{more_parts}

pub parted-cons : (mark : ℕ) (x : List ℕ) (xs : List (List ℕ)) → parted_by mark (x ∷ xs) ≡ x ++ more_parts mark xs
parted-cons mark x [] = rw (append-nil x) refl
parted-cons mark x (y ∷ more) = ap (λ t. x ++ (mark ∷ t)) (parted-cons mark y more)

pub ruleset parted = (parted-cons)
