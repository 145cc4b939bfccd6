-- What clauses say of a lock, its passes and their turns.
use Rattle.std.specs.Prelude.{◌≡◌, ◌<◌, ◌+◌, ℕ, List, length, slice_index_or}
use mathlib.Core.Option.{some}
use lib.ListN.{get_elem?}
use Rattle.scn_lock.specs.declared.lock.ScnLock.{ScnLock}
use Rattle.scn_lock.specs.declared.pass.PassOf.{PassOf}
use Rattle.scn_lock.specs.declared.turn.Turn.{Turn}
use Rattle.scn_lock.specs.declared.view.View.{View}

module _ {C E : Type 0} where
  -- all that the pass knows
  abbrev pub view : PassOf C E → View E
  view p = p.seat.me.0

  -- how many passes were made before it
  abbrev pub number_of : PassOf C E → ℕ
  number_of p = (view p).number

  -- the journal as the pass saw it last
  abbrev pub seen_by : PassOf C E → List E
  seen_by p = (view p).seen

  -- the events that bear its number
  abbrev pub own_events : PassOf C E → List E
  own_events p = (view p).own

  -- how many passes were made, of pass 0
  abbrev pub passes_made : PassOf C E → ℕ
  passes_made p = (view p).made

  -- what pass 0 keeps of a pass that it takes in
  abbrev pub kept_of : PassOf C E → ℕ × List E
  kept_of p = (number_of p, own_events p)

  -- the pass is of this lock
  abbrev pub IsOf : ScnLock C E → PassOf C E → Type 0
  IsOf l p = p.seat.table_id ≡ l.table.shared.table_id

  -- it is pass 0, which alone makes passes and takes them in
  abbrev pub IsFirst : PassOf C E → Type 0
  IsFirst p = number_of p ≡ 0

  -- it has no ticket
  abbrev pub IsFree : PassOf C E → Type 0
  IsFree p = (view p).stage ≡ 0

  -- the pass is in this turn, which began with what the pass has seen
  abbrev pub IsTurnOf : Turn C → PassOf C E → Type 0
  IsTurnOf t p = ((view p).stage ≡ 3) × (t.before ≡ length (seen_by p))

  -- what a turn leaves of a pass: its number, how many passes were made, and what was kept of those taken in
  abbrev pub IsSamePass : PassOf C E → PassOf C E → Type 0
  IsSamePass p q = (number_of q ≡ number_of p) × (passes_made q ≡ passes_made p) × ((view q).joined ≡ (view p).joined)

  -- these are the passes 1, 2 and so on of the lock, all of them free
  abbrev pub AreInOrder : ScnLock C E → List (PassOf C E) → Type 0
  AreInOrder l ps = (k : ℕ) (p : PassOf C E) → k < length ps → IsOf l (slice_index_or ps k p) × IsFree (slice_index_or ps k p) × (number_of (slice_index_or ps k p) ≡ k + 1)

module _ {E : Type 0} where
  -- pass 0 took in a pass with the number n, whose own events these were
  abbrev pub HasKept : View E → ℕ → List E → Type 0
  HasKept v n own = (place : ℕ) × (get_elem? v.joined place ≡ some (n, own))

  -- pass 0 took in every other pass that was made
  abbrev pub IsAlone : View E → Type 0
  IsAlone v = (n : ℕ) → 0 < n → n < v.made → (own : List E) × HasKept v n own
