-- What the rule means for a ticket lock: laws in the words of the field, which follow from the rule at any moment.
-- A seat is a place among the views. A pass is a view that is live: a join leaves one that is not.
use Rattle.std.specs.Prelude.{◌≡◌, ◌⊎◌, ℕ, ◌+◌, ◌<◌, ◌≤◌, List, [], ◌∷◌, length, Option, Some}
use mathlib.Core.Option.{none, some}
use lib.ListN.{get_elem?}
use Rattle.atomic_table.specs.Table.{State}
use Rattle.scn_lock.specs.Journal.{StartsWith, events_of}
use Rattle.scn_lock.specs.Rule.{as_word}
use Rattle.scn_lock.specs.Words.{HasKept}
use Rattle.scn_lock.specs.declared.view.View.{View}

module _ {E : Type 0} where
  abbrev pub HasTicket : View E → Type 0
  HasTicket v = 0 < v.stage

  -- its ticket is served, and its turn is not over
  abbrev pub IsInside : View E → Type 0
  IsInside v = 2 ≤ v.stage

  -- it has the value
  abbrev pub IsHolding : View E → Type 0
  IsHolding v = (v.stage ≡ 3) ⊎ (v.stage ≡ 4)

  -- it is a pass, and no remnant of one
  abbrev pub IsLive : View E → Type 0
  IsLive v = v.live ≡ 1

module _ {C E : Type 0} (journal : C → List E) (number : E → ℕ) (s : State (Option C) (View E)) where
  abbrev pub At_seat : ℕ → View E → Type 0
  At_seat i v = get_elem? s.views i ≡ some v

  pub record Laws : Type 0 where
    -- the ticket served, the next one, the longest journal seen, and how many passes were made
    pub serving : ℕ
    pub next : ℕ
    pub log : List E
    pub made : ℕ
    pub words_are : s.words ≡ as_word next ∷ as_word serving ∷ as_word (length log) ∷ []
    -- No two passes have one ticket. The tickets out are just those from serving up to and without next, and no more than passes were made.
    pub tickets_differ : (i j : ℕ) (u v : View E) → At_seat i u → At_seat j v → HasTicket u → HasTicket v → u.ticket ≡ v.ticket → i ≡ j
    pub ticket_is_out : (i : ℕ) (v : View E) → At_seat i v → HasTicket v → (serving ≤ v.ticket) × (v.ticket < next)
    pub no_ticket_is_lost : (t : ℕ) → serving ≤ t → t < next → (i : ℕ) × (v : View E) × At_seat i v × HasTicket v × (v.ticket ≡ t)
    pub few_tickets : next ≤ serving + made
    -- Only the pass whose ticket is served is inside, so there is never more than one, and it alone can hold the value. The slot is empty exactly while a pass holds the value.
    pub inside_is_served : (i : ℕ) (v : View E) → At_seat i v → IsInside v → v.ticket ≡ serving
    pub one_inside : (i j : ℕ) (u v : View E) → At_seat i u → At_seat j v → IsInside u → IsInside v → i ≡ j
    pub away_while_held : (i : ℕ) (v : View E) → At_seat i v → IsHolding v → s.homes ≡ none ∷ []
    pub held_while_away : s.homes ≡ none ∷ [] → (i : ℕ) × (v : View E) × At_seat i v × IsHolding v
    -- Whatever a pass has seen is a beginning of the journal, and some pass has seen it all.
    pub seen_begins : (i : ℕ) (v : View E) → At_seat i v → StartsWith log v.seen
    pub seen_whole : (i : ℕ) × (v : View E) × At_seat i v × IsLive v × (v.seen ≡ log)
    -- The value at home has that journal, and while it is away the pass that holds it has seen that journal.
    pub home_journal : (x : C) → s.homes ≡ some (Some x) ∷ [] → journal x ≡ log
    pub holder_journal : (i : ℕ) (v : View E) → At_seat i v → IsHolding v → v.seen ≡ log
    -- The events that bear a pass's number are its own, those of a pass that was taken in are the ones kept of it, and a number that was not made yet has none.
    pub own_events : (i : ℕ) (v : View E) → At_seat i v → IsLive v → events_of number v.number log ≡ v.own
    pub kept_events : (i : ℕ) (v : View E) → At_seat i v → IsLive v → v.number ≡ 0 → (n : ℕ) (own : List E) → HasKept v n own → events_of number n log ≡ own
    pub unborn_events : (n : ℕ) → made ≤ n → events_of number n log ≡ []
    -- The numbers of the passes differ and were made, and none of them is a number of which events are kept.
    pub numbers_differ : (i j : ℕ) (u v : View E) → At_seat i u → At_seat j v → IsLive u → IsLive v → u.number ≡ v.number → i ≡ j
    pub number_was_made : (i : ℕ) (v : View E) → At_seat i v → IsLive v → v.number < made
    pub kept_is_gone : (i j : ℕ) (u v : View E) → At_seat i u → At_seat j v → IsLive u → IsLive v → u.number ≡ 0 → (n : ℕ) (own : List E) → HasKept u n own → ¬ (v.number ≡ n)
