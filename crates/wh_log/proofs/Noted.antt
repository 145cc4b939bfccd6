-- What a note asks, of lists that are written out.
use Rattle.std.proofs.Common.{◌≡◌, ℕ, false, [], ◌∷◌, nat_eq}
use Rattle.std.specs.List.{IsDistinct}
use Rattle.std.proofs.lemmas.List.Elements.{All-cons, All-nil}

pub two_differ : (a b : ℕ) → nat_eq a b ≡ false → IsDistinct nat_eq (a ∷ b ∷ [])
unfolding IsDistinct
two_differ a b h = ((h, tt), (tt, tt))

pub ruleset noted = (All-cons, All-nil, two_differ)
