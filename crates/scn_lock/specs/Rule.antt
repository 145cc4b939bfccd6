-- The rule of the lock's table, which holds between any two steps.
-- Word 0 is the next ticket, word 1 the ticket that is served, and word 2 the length of the journal, all modulo 2 ^ 64. The one slot has the value while it is at home. A view is what one pass knows.
use Rattle.std.specs.Prelude.{◌≡◌, ◌≢◌, ◌⊎◌, ℕ, ◌+◌, ◌%◌, ◌^◌, ◌<◌, ◌≤◌, List, [], ◌∷◌, length, min, Option, Some}
use mathlib.Core.Option.{none, some}
use mathlib.Core.Option as maybe
use lib.ListN.{get_elem?}
use Rattle.atomic_table.specs.Table.{State}
use Rattle.scn_lock.specs.Journal.{StartsWith, events_of}
use Rattle.scn_lock.specs.declared.view.View.{View}

-- a number as a word has it: modulo 2 ^ 64
abbrev pub as_word : ℕ → ℕ
as_word n = n % 18446744073709551616

-- the sum of f over a list
abbrev pub total : {A : Type 0} → (A → ℕ) → List A → ℕ
total f [] = 0
total f (x ∷ xs) = f x + total f xs

-- What the table is in full, of which the words tell a part: the longest journal that was seen; the ticket served and the next one, not reduced; the stage of the pass that is served; how many passes were made; the seat that has each ticket; and for each number of a pass 1 more than its seat, or 0 where no seat has it.
pub record Board (E : Type 0) : Type 0 where
  pub log : List E
  pub first : ℕ
  pub next : ℕ
  pub stage : ℕ
  pub made : ℕ
  pub holder : ℕ → ℕ
  pub seat_of : ℕ → ℕ

module _ {E : Type 0} (number : E → ℕ) (b : Board E) where
  -- What pass 0 keeps of a pass that it took in: its number and its own events. The number was made, no seat has it any more, and its events in the journal are those kept.
  pub record Kept (p : ℕ × List E) : Type 0 where
    pub made : p.0 < b.made
    pub gone : b.seat_of p.0 ≡ 0
    pub own : events_of number p.0 b.log ≡ p.1

  -- What the rule says of the view v of one seat.
  -- A pass with a ticket is the one that the board names for it, between serving and next. The one that is served is at the board's stage, and every other waits. What a pass has seen is a beginning of the journal, and all of it from the time it holds the value on. The events that bear its number are its own, in the journal and in what it has seen.
  pub record Fits (seat : ℕ) (v : View E) : Type 0 where
    pub alive : v.live ≤ 1
    pub spent : v.live ≡ 0 → v.stage ≡ 0
    pub ticket : 0 < v.stage → (b.first ≤ v.ticket) × (v.ticket < b.next) × (b.holder v.ticket ≡ seat)
    pub serving : 0 < v.stage → v.ticket ≡ b.first → v.stage ≡ b.stage
    pub waiting : 0 < v.stage → v.ticket ≢ b.first → v.stage ≡ 1
    pub seen : StartsWith b.log v.seen
    pub told : StartsWith b.log v.told
    pub whole : 3 ≤ v.stage → v.seen ≡ b.log
    pub number_is : v.live ≡ 1 → (v.number < b.made) × (b.seat_of v.number ≡ seat + 1)
    pub own : v.live ≡ 1 → events_of number v.number b.log ≡ v.own
    pub own_seen : v.live ≡ 1 → events_of number v.number v.seen ≡ v.own
    pub made : v.live ≡ 1 → v.number ≡ 0 → v.made ≡ b.made
    pub joined : v.live ≡ 1 → v.number ≡ 0 → (k : ℕ) (p : ℕ × List E) → get_elem? v.joined k ≡ some p → Kept p

-- 1 for a pass with a ticket, and else 0
abbrev pub has_ticket : {E : Type 0} → View E → ℕ
has_ticket v = min v.stage 1

-- 1 for a pass, and 0 for what a join leaves of one
abbrev pub is_live : {E : Type 0} → View E → ℕ
is_live v = v.live

-- the pass at this seat has the ticket t
abbrev pub Holds : {E : Type 0} → List (View E) → ℕ → ℕ → Type 0
Holds {E} views seat t = (v : View E) × (get_elem? views seat ≡ some v) × (0 < v.stage) × (v.ticket ≡ t)

-- some pass has seen the whole journal
abbrev pub Knows : {E : Type 0} → List (View E) → List E → Type 0
Knows {E} views log = (seat : ℕ) × (v : View E) × (get_elem? views seat ≡ some v) × (v.live ≡ 1) × (v.seen ≡ log)

module _ {C E : Type 0} (journal : C → List E) (number : E → ℕ) where
  -- The rule. The words are those of the board. There are as many tickets out as from serving to next, and each of them is a pass's; there are no more live passes than were made. The value is away exactly while the pass that is served holds it, and at home its journal is the longest one. A number that was not made yet has no event.
  pub record Orderly (s : State (Option C) (View E)) : Type 0 where
    pub board : Board E
    pub home : maybe.Option (Option C)
    pub words_are : s.words ≡ as_word board.next ∷ as_word board.first ∷ as_word (length board.log) ∷ []
    pub homes_are : s.homes ≡ home ∷ []
    pub tickets : board.first + total has_ticket s.views ≡ board.next
    pub passes : total is_live s.views ≤ board.made
    pub few : board.made < 2 ^ 32
    pub free : board.first ≡ board.next → board.stage ≡ 1
    pub held : (t : ℕ) → board.first ≤ t → t < board.next → Holds s.views (board.holder t) t
    pub away : (board.stage ≡ 3) ⊎ (board.stage ≡ 4) → home ≡ none
    pub at_home : board.stage ≢ 3 → board.stage ≢ 4 → (x : C) × (home ≡ some (Some x)) × (journal x ≡ board.log)
    pub each : (i : ℕ) (v : View E) → get_elem? s.views i ≡ some v → Fits number board i v
    pub unmade : (n : ℕ) → board.made ≤ n → events_of number n board.log ≡ []
    pub best : Knows s.views board.log
