-- The last change of a table by its number.
use Rattle.std.proofs.Common.{◌≡◌, refl, arith, IfSome, ℕ, ◌<◌, ◌≤◌, List, [], ◌∷◌, length, slice_get, suc, zero}
use Rattle.wh_image.specs.Standing.{changed_at}
use Rattle.wh_table.specs.Stored.{Stored, last_scn}

pub changed_is : (tables : List Stored) (n r : ℕ) → n < length tables → IfSome (slice_get tables n) (λ s. r ≡ last_scn s.versions) → r ≡ changed_at tables n
changed_is [] n r h is = absurd (omega (arith, h))
changed_is (s ∷ tables) zero r h is = is
changed_is (s ∷ tables) (suc n) r h is = changed_is tables n r (omega (arith, h)) is

pub never_changed : (tables : List Stored) (n : ℕ) → length tables ≤ n → changed_at tables n ≡ 0
never_changed [] n h = refl
never_changed (s ∷ tables) zero h = absurd (omega (arith, h))
never_changed (s ∷ tables) (suc n) h = never_changed tables n (omega (arith, h))

pub ruleset places = (changed_is, never_changed)
