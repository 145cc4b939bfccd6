-- Touches.
use Rattle.std.proofs.Common.{◌≡◌, ◌<◌, ◌≤◌, ◌++◌, ℕ, zero, suc, true, false, not, List, [], ◌∷◌, Option, Some, None, length, get_or, slice_get, map, drop, refl, arith, ◌∙◌, nat_le, nat_lt}
use Rattle.std.proofs.lemmas.Bool.Decides.{nat_tests}
use Rattle.std.proofs.lemmas.List.Quantifiers.{all_pairs_push}
use Rattle.std.proofs.lemmas.List.Elements.{filter_agree}
use Rattle.std.specs.List.Sorted.{IsPartitionedBy, IsPartitionPoint}
use Rattle.wh_partmap.proofs.Points.{parted, rest_from_point}
use Rattle.wh_base.specs.Tables.{with_intervals}
use Rattle.wh_base.specs.declared.tables.Part.{Part}
use Rattle.wh_base.specs.declared.tables.Touch.{Touch}
use Rattle.wh_base.specs.declared.values.Value.{Value}
use Rattle.wh_partmap.specs.History.{PartHistory, bound_before, last_touched, touches_after, touches_at, touch_of}
use Rattle.wh_partmap.specs.Laws.{IsPartHistory, TouchesRise}

-- ---- the touch of a place

same_part : (p q : Part) → Some p ≡ Some q → p ≡ q
same_part p q e = cc

interval_at : (lo : Option Value) (parts : List Part) (place : ℕ) (p : Part) → slice_get parts place ≡ Some p → slice_get (with_intervals lo parts) place ≡ Some (p, record { lo = bound_before lo parts place; hi = p.below })
interval_at lo [] place p at = cc
interval_at lo (q ∷ qs) zero p at = let e : q ≡ p = same_part q p at in rw e refl
interval_at lo (q ∷ qs) (suc zero) p at = interval_at q.below qs zero p at
interval_at lo (q ∷ qs) (suc (suc n)) p at = interval_at q.below qs (suc n) p at

slice_get-map : {A B : Type 0} (f : A → B) (xs : List A) (i : ℕ) (x : A) → slice_get xs i ≡ Some x → slice_get (map f xs) i ≡ Some (f x)
slice_get-map f [] i x at = cc
slice_get-map f (y ∷ ys) zero x at = let e : y ≡ x = cc in rw e refl
slice_get-map f (y ∷ ys) (suc i) x at = slice_get-map f ys i x at

pub touch_made : (parts : List Part) (place scn : ℕ) (p : Part) → slice_get parts place ≡ Some p → slice_get (touches_at parts scn) place ≡ Some (record { interval = record { lo = bound_before None parts place; hi = p.below }; number = p.number; scn = scn })
touch_made parts place scn p at = slice_get-map (touch_of scn) (with_intervals None parts) place _ (interval_at None parts place p at)

pub ruleset touching = (touch_made)

-- ---- telling

last_scn : (ts : List Touch) (t : Touch) (k : ℕ) (d : Touch) → TouchesRise (t ∷ ts) → k < length (t ∷ ts) → (get_or (t ∷ ts) k d).scn ≤ last_touched (t ∷ ts)
last_scn [] t zero d up h = omega arith
last_scn [] t (suc k) d up h = omega arith
last_scn (u ∷ ts) t zero d up h =
    let first : t.scn ≤ u.scn = up 0 1 d (omega arith) (omega arith) in
    let rest : u.scn ≤ last_touched (u ∷ ts) = last_scn ts u 0 d (λ i j e l m. up (suc i) (suc j) e (omega arith) (omega arith)) (omega arith) in
    omega arith
last_scn (u ∷ ts) t (suc k) d up h = last_scn ts u k d (λ i j e l m. up (suc i) (suc j) e (omega arith) (omega arith)) (omega arith)

all_before : (ts : List Touch) (k : ℕ) (d : Touch) → TouchesRise ts → k < length ts → (get_or ts k d).scn ≤ last_touched ts
all_before [] k d up h = absurd (omega arith)
all_before (t ∷ ts) k d up h = last_scn ts t k d up h

pub told_more : (h : PartHistory) (t : Touch) (n : ℕ) → IsPartHistory h → last_touched h.touches ≤ t.scn → IsPartHistory (record h { touches = h.touches ++ t ∷ []; spare = n })
told_more h t n kept order =
    record {
      parts = kept.parts;
      lists = kept.lists;
      begun = kept.begun;
      touches = all_pairs_push (λ s u. s.scn ≤ u.scn) h.touches t kept.touches (λ k d l. let last : (get_or h.touches k d).scn ≤ last_touched h.touches = all_before h.touches k d kept.touches l in omega arith);
    }

pub last_told : (ts : List Touch) (t : Touch) → last_touched (ts ++ t ∷ []) ≡ t.scn
last_told [] t = refl
last_told (u ∷ []) t = refl
last_told (u ∷ v ∷ ts) t = last_told (v ∷ ts) t

pub ruleset telling = (told_more, last_told)

-- ---- the touches after an SCN

later : (scn : ℕ) (t : Touch) → nat_lt scn t.scn ≡ not (nat_le t.scn scn)
later scn t = grind (arith, nat_tests)

pub after_point : (touches : List Touch) (scn n : ℕ) → IsPartitionPoint (λ t. nat_le t.scn scn ≡ true) (λ t. nat_le t.scn scn ≡ false) touches n → touches_after touches scn ≡ drop n touches
after_point touches scn n point = filter_agree (λ t. nat_lt scn t.scn) (λ t. not (nat_le t.scn scn)) (later scn) touches ∙ rest_from_point (λ t. nat_le t.scn scn) touches n point

pub touches_parted : (touches : List Touch) (scn : ℕ) → TouchesRise touches → IsPartitionedBy (λ t. nat_le t.scn scn) touches
touches_parted touches scn up = parted (λ t. nat_le t.scn scn) (λ t u. t.scn ≤ u.scn) touches up (λ t u r h. grind (arith, nat_tests))
