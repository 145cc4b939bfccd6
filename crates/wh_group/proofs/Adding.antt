-- One more tuple for each of the tallies of a group.
use Rattle.std.proofs.Common.{◌≡◌, ◌∙◌, sym, ap, subst, refl, arith, ℕ, zero, suc, ◌+◌, ◌<◌, ◌≤◌, Bool, true, false, ◌&&◌, List, [], ◌∷◌, length, take, get_or, IsTrue}
use Rattle.std.proofs.Math.ListN.{set}
use Rattle.std.specs.List.{All, list_all}
use Rattle.std.proofs.lemmas.List.Elements.{All-get_or}
use Rattle.wh_base.specs.declared.columns.Agg.{Agg}
use Rattle.wh_base.specs.declared.values.Value.{Value}
use Rattle.wh_group.specs.Tallies.{HasRoom, is_small_agg, merged_each, merged_tally, tallies_with, tally_with}
use Rattle.wh_group.specs.declared.tally.Tally.{Tally}

module _ (f : Agg → Value) where
  abbrev so_far : ℕ → List Agg → List Tally → List Tally
  so_far at aggs ts = tallies_with f (take at aggs) ts

  pub length-tallies : (aggs : List Agg) (ts : List Tally) → length (tallies_with f aggs ts) ≡ length ts
  length-tallies [] ts = refl
  length-tallies (a ∷ more) [] = refl
  length-tallies (a ∷ more) (t ∷ ts) = ap suc (length-tallies more ts)

  -- the one at the place is still as it was
  not_yet : (aggs : List Agg) (ts : List Tally) (at : ℕ) (d : Tally) → get_or (so_far at aggs ts) at d ≡ get_or ts at d
  not_yet aggs ts zero d = refl
  not_yet [] ts (suc at) d = refl
  not_yet (a ∷ more) [] (suc at) d = refl
  not_yet (a ∷ more) (t ∷ ts) (suc at) d = not_yet more ts at d

  pub room-at : (aggs : List Agg) (ts : List Tally) (at : ℕ) (d : Tally) → All HasRoom ts → at < length ts → HasRoom (get_or (so_far at aggs ts) at d)
  room-at aggs ts at d room h = subst HasRoom (sym (not_yet aggs ts at d)) (All-get_or HasRoom ts at d h room)

  pub add-next : (aggs : List Agg) (ts : List Tally) (at : ℕ) (a : Agg) (d : Tally) → at < length aggs → at < length ts
      → set (so_far at aggs ts) at (tally_with (f (get_or aggs at a)) (get_or (so_far at aggs ts) at d)) ≡ so_far (at + 1) aggs ts
  add-next [] ts at a d h k = absurd (omega arith)
  add-next (b ∷ more) [] at a d h k = absurd (omega arith)
  add-next (b ∷ more) (t ∷ ts) zero a d h k = refl
  add-next (b ∷ more) (t ∷ ts) (suc at) a d h k =
      let next : suc (at + 1) ≡ suc at + 1 = omega arith in
      ap (λ l. tally_with (f b) t ∷ l) (add-next more ts at a d (omega arith) (omega arith)) ∙ ap (λ n. so_far n (b ∷ more) (t ∷ ts)) next

  pub add-past : (aggs : List Agg) (ts : List Tally) (at : ℕ) → length ts ≤ at → so_far at aggs ts ≡ tallies_with f aggs ts
  add-past [] ts zero h = refl
  add-past [] ts (suc at) h = refl
  add-past (a ∷ more) [] zero h = refl
  add-past (a ∷ more) (t ∷ ts) zero h = absurd (omega arith)
  add-past (a ∷ more) [] (suc at) h = refl
  add-past (a ∷ more) (t ∷ ts) (suc at) h = ap (λ l. tally_with (f a) t ∷ l) (add-past more ts at (omega arith))

both : (x y : Bool) → IsTrue (x && y) → IsTrue x × IsTrue y
both true y h = (refl, h)
both false y h = cc

pub small-agg : (aggs : List Agg) (at : ℕ) (d : Agg) → IsTrue (list_all is_small_agg aggs) → at < length aggs → IsTrue (is_small_agg (get_or aggs at d))
small-agg [] at d h k = absurd (omega arith)
small-agg (a ∷ more) zero d h k = (both (is_small_agg a) (list_all is_small_agg more) h).0
small-agg (a ∷ more) (suc at) d h k = small-agg more at d (both (is_small_agg a) (list_all is_small_agg more) h).1 (omega arith)

pub ruleset adding = (length-tallies, room-at, add-next, add-past, small-agg)

-- ---- two parts, one by one

pub length-each : (ts us : List Tally) → length (merged_each ts us) ≡ length ts
length-each [] us = refl
length-each (t ∷ ts) [] = refl
length-each (t ∷ ts) (u ∷ us) = ap suc (length-each ts us)

pub merge-none : (ts : List Tally) → merged_each ts [] ≡ ts
merge-none [] = refl
merge-none (t ∷ ts) = refl

pub merge-next : (ts us : List Tally) (at : ℕ) (d e : Tally) → at < length us → at < length ts
    → set (merged_each ts (take at us)) at (merged_tally (get_or (merged_each ts (take at us)) at d) (get_or us at e)) ≡ merged_each ts (take (at + 1) us)
merge-next ts [] at d e h k = absurd (omega arith)
merge-next [] (u ∷ us) at d e h k = absurd (omega arith)
merge-next (t ∷ ts) (u ∷ us) zero d e h k = ap (λ l. merged_tally t u ∷ l) (sym (merge-none ts))
merge-next (t ∷ ts) (u ∷ us) (suc at) d e h k =
    let next : suc (at + 1) ≡ suc at + 1 = omega arith in
    ap (λ l. merged_tally t u ∷ l) (merge-next ts us at d e (omega arith) (omega arith)) ∙ ap (λ n. merged_each (t ∷ ts) (take n (u ∷ us))) next

pub merge-past : (ts us : List Tally) (at : ℕ) → length ts ≤ at → merged_each ts (take at us) ≡ merged_each ts us
merge-past [] us at h = refl
merge-past (t ∷ ts) us zero h = absurd (omega arith)
merge-past (t ∷ ts) [] (suc at) h = refl
merge-past (t ∷ ts) (u ∷ us) (suc at) h = ap (λ l. merged_tally t u ∷ l) (merge-past ts us at (omega arith))

pub ruleset merging = (length-each, merge-none, merge-next, merge-past)
