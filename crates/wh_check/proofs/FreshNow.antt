-- A live row was made at the SCN of the last change exactly where it isn't seen at the SCN before.
use Rattle.std.proofs.Common.{◌≡◌, ◌∙◌, sym, ap, refl, arith, ℕ, zero, suc, ◌-◌, ◌<◌, ◌≤◌, max, Bool, true, false, not, ◌&&◌, ◌==◌, List, [], ◌∷◌, Option, None, Some, is_none, is_some, nat_le, nat_lt, slice_get, true≢false}
use Rattle.std.proofs.lemmas.Option.{none-some, same_Some}
use Rattle.std.proofs.lemmas.Bool.Decides.{nat_tests}
use Rattle.std.proofs.lemmas.Bool.{eqb-true, le-leb, lt-leb}
use Rattle.wh_base.specs.Lists.{option_case}
use Rattle.wh_base.specs.declared.values.Value.{Value}
use Rattle.wh_check.specs.Fresh.{fresh_at, is_fresh}
use Rattle.wh_segment.specs.Versions.{is_visible, visible_at}
use Rattle.wh_segment.specs.declared.version.Version.{Version}
use Rattle.wh_table.specs.Stored.{Stored, changed_at, last_scn}
use Rattle.wh_table.proofs.Living.{settled as settled_row}

not_before : (scn born : ℕ) → 0 < scn → born ≤ scn → not (nat_le born (scn - 1)) ≡ (born == scn)
not_before scn born up h = by (born == scn) refl
  where
    by : (b : Bool) → (born == scn) ≡ b → not (nat_le born (scn - 1)) ≡ b
    by true e = (let same = eqb-true born scn e in ap not (lt-leb born (scn - 1) (omega (arith, same, up))))
    by false e = ap not (le-leb born (scn - 1) (grind (arith, nat_tests)))

live_fresh : (scn born : ℕ) (died : Option ℕ) (values : Option (List Value)) → 0 < scn → max born (option_case died 0 (λ d. d)) ≤ scn → (is_none died && is_some values) ≡ true
    → not (is_some values && (nat_le born (scn - 1) && option_case died true (λ d. nat_lt (scn - 1) d))) ≡ ((is_none died && is_some values) && (born == scn))
live_fresh scn born None None up h live = absurd (true≢false (sym live))
live_fresh scn born None (Some ws) up h live = ap not (and_true (nat_le born (scn - 1))) ∙ not_before scn born up (omega (arith, h))
  where
    and_true : (b : Bool) → (b && true) ≡ b
    and_true true = refl
    and_true false = refl
live_fresh scn born (Some d) values up h live = absurd (true≢false (sym live))

version_fresh : (scn : ℕ) (v : Version) → 0 < scn → changed_at v ≤ scn → is_visible scn v ≡ true → not (is_visible (scn - 1) v) ≡ is_fresh scn v
version_fresh scn v up h seen = live_fresh scn v.born v.died v.values up h (sym (settled_row scn v h) ∙ seen)

version_stale : (scn : ℕ) (v : Version) → changed_at v ≤ scn → is_visible scn v ≡ false → false ≡ is_fresh scn v
version_stale scn v h seen = sym (ap (λ b. b && (v.born == scn)) (sym (settled_row scn v h) ∙ seen))

changed_by : (vs : List Version) (place : ℕ) (v : Version) → slice_get vs place ≡ Some v → changed_at v ≤ last_scn vs
changed_by [] place v e = absurd (none-some v e)
changed_by (w ∷ vs) zero v e = (let same : changed_at w ≡ changed_at v = ap changed_at (same_Some w v e) in omega (arith, same))
changed_by (w ∷ vs) (suc place) v e = (let later = changed_by vs place v e in omega (arith, later))

-- a row that is seen now was made at this SCN exactly where it isn't seen at the SCN before
pub seen_fresh : (s : Stored) (scn place : ℕ) (now before : Bool) → last_scn s.versions ≤ scn → 0 < scn → now ≡ visible_at s.versions place scn → now ≡ true → before ≡ visible_at s.versions place (scn - 1)
    → not before ≡ fresh_at scn s place
seen_fresh s scn place now before h up is seen was = ap not was ∙ by (slice_get s.versions place) refl (sym is ∙ seen)
  where
    by : (o : Option Version) → slice_get s.versions place ≡ o → option_case o false (is_visible scn) ≡ true → not (option_case o false (is_visible (scn - 1))) ≡ option_case o false (is_fresh scn)
    by None e k = absurd (true≢false (sym k))
    by (Some v) e k = (let changed = changed_by s.versions place v e in version_fresh scn v up (omega (arith, changed, h)) k)

pub unseen_stale : (s : Stored) (scn place : ℕ) (now : Bool) → last_scn s.versions ≤ scn → now ≡ visible_at s.versions place scn → now ≡ false → false ≡ fresh_at scn s place
unseen_stale s scn place now h is unseen = by (slice_get s.versions place) refl (sym is ∙ unseen)
  where
    by : (o : Option Version) → slice_get s.versions place ≡ o → option_case o false (is_visible scn) ≡ false → false ≡ option_case o false (is_fresh scn)
    by None e k = refl
    by (Some v) e k = (let changed = changed_by s.versions place v e in version_stale scn v (omega (arith, changed, h)) k)

pub ruleset fresh_now = (seen_fresh, unseen_stale)
