-- What each step does to the pass that takes it, and what it tells.
use Rattle.std.specs.Prelude.{◌≡◌, ◌≢◌, ℕ, ◌+◌, ◌≤◌, List, [], ◌∷◌, ◌++◌, length, drop, cond, nat_lt, Option, Some}
use Rattle.atomic_table.specs.Table.{Me, Step}
use Rattle.scn_lock.specs.Rule.{as_word}
use Rattle.scn_lock.specs.Journal.{StartsWith, events_of}
use Rattle.scn_lock.specs.declared.view.View.{View}

module _ {E : Type 0} where
  -- a new pass with the number n, which has seen this
  abbrev pub newcomer : ℕ → List E → View E
  newcomer n seen = record { live = 1; number = n; stage = 0; ticket = 0; seen = seen; told = []; own = []; made = 0; joined = [] }

  -- pass 0 of a new lock: it has seen nothing, and is the one pass made
  abbrev pub opener : View E
  opener = record { live = 1; number = 0; stage = 0; ticket = 0; seen = []; told = []; own = []; made = 1; joined = [] }

  -- what a join leaves of the pass that was taken in
  abbrev pub spent_view : View E
  spent_view = record { live = 0; number = 0; stage = 0; ticket = 0; seen = []; told = []; own = []; made = 0; joined = [] }

  -- of two lists the longer, and the first where they are as long
  abbrev pub longer : List E → List E → List E
  longer a b = cond (nat_lt (length a) (length b)) b a

  -- of two lists the other one
  abbrev pub shorter : List E → List E → List E
  shorter a b = cond (nat_lt (length a) (length b)) a b

  -- pass 0 once it has made one more
  abbrev pub made_one : View E → View E
  made_one v = record v { made = v.made + 1 }

  -- and the pass that it made: its number is how many were made before, and it has seen what pass 0 has
  abbrev pub one_made : View E → View E
  one_made v = newcomer v.made v.seen

  -- pass 0 once it has taken in another: it has seen the longer of what the two saw, and keeps the other's number and own events
  abbrev pub taken_in : View E → View E → View E
  taken_in v w = record v { seen = longer v.seen w.seen; told = shorter v.seen w.seen; joined = v.joined ++ (w.number, w.own) ∷ [] }

-- a pass at its seat: its view, and what it has taken out of the table
abbrev pub Seated : Type 0 → Type 0 → Type 0
Seated C E = Me (Option C) (View E)

-- the slot is out with the value x
abbrev pub out_with : {C : Type 0} → C → List (ℕ × Option C)
out_with x = (0, Some x) ∷ []

module _ {E : Type 0} where
  -- it has the ticket t and waits
  abbrev pub with_ticket : View E → ℕ → View E
  with_ticket v t = record v { stage = 1; ticket = t }

  -- its ticket is served
  abbrev pub inside : View E → View E
  inside v = record v { stage = 2 }

  -- it has given the value back
  abbrev pub given_back : View E → View E
  given_back v = record v { stage = 5 }

  -- its turn is over
  abbrev pub outside : View E → View E
  outside v = record v { stage = 0; ticket = 0 }

  module _ {C : Type 0} (journal : C → List E) where
    -- it holds the value x, whose journal it has seen
    abbrev pub holding : View E → C → View E
    holding v x = record v { stage = 3; seen = journal x }

    -- it has raised the length with the value x: what x has beyond what was seen is the pass's own
    abbrev pub raised_with : View E → C → View E
    raised_with v x = record v { stage = 4; seen = journal x; own = v.own ++ drop (length v.seen) (journal x) }

abbrev pub At : Type 0 → Type 0
At C = Step (Option C)

-- What a step tells, of the pass m before it, the number r that it found in the word, and the pass m' after it.
module _ {C E : Type 0} where
  -- the old number of next is the ticket
  abbrev pub drew : At C → Seated C E → ℕ → Seated C E → Type 0
  drew st m r m' = (t : ℕ) × (r ≡ as_word t) × (m' ≡ (with_ticket m.0 t, m.1))

  -- the pass is inside exactly where serving is its ticket
  abbrev pub served : At C → Seated C E → ℕ → Seated C E → Type 0
  served st m r m' = (r ≡ as_word m.0.ticket → m' ≡ (inside m.0, m.1)) × (r ≢ as_word m.0.ticket → m' ≡ m)

  -- the value is at home again
  abbrev pub gave : At C → Seated C E → ℕ → Seated C E → Type 0
  gave st m r m' = m' ≡ (given_back m.0, [])

  -- the turn is over
  abbrev pub left : At C → Seated C E → ℕ → Seated C E → Type 0
  left st m r m' = m' ≡ (outside m.0, m.1)

  module _ (journal : C → List E) (number : E → ℕ) where
    -- the pass holds a value whose journal begins with all that it had seen, and has its own events
    abbrev pub took : At C → Seated C E → ℕ → Seated C E → Type 0
    took st m r m' = (x : C) × (m' ≡ (holding journal m.0 x, out_with x)) × StartsWith (journal x) m.0.seen × (events_of number m.0.number (journal x) ≡ m.0.own)

    -- what the value held has beyond what was seen is the pass's own, and these are all events with its number
    abbrev pub raised : At C → Seated C E → ℕ → Seated C E → Type 0
    raised st m r m' = (x : C) → m.1 ≡ out_with x → (m' ≡ (raised_with journal m.0 x, m.1)) × (events_of number m.0.number (journal x) ≡ (raised_with journal m.0 x).own)

  -- nothing changes. What the pass has seen has its own events; where it is pass 0, it has no event of a number that was not made; and it begins with what it was told.
  abbrev pub looked : (E → ℕ) → At C → Seated C E → ℕ → Seated C E → Type 0
  looked number st m r m' =
      (m' ≡ m) × (events_of number m.0.number m.0.seen ≡ m.0.own) × (m.0.number ≡ 0 → (n : ℕ) → m.0.made ≤ n → events_of number n m.0.seen ≡ [])
      × (length m.0.told ≤ length m.0.seen → StartsWith m.0.seen m.0.told)
