-- Journals: lists of events, of which each bears a number.
use Rattle.std.specs.Prelude.{◌≡◌, ◌⊎◌, ℕ, ◌==◌, List, [], ◌∷◌, ◌++◌, filter}

-- the journal begins with what was seen
abbrev pub StartsWith : {E : Type 0} → List E → List E → Type 0
StartsWith {E} journal seen = (rest : List E) × (journal ≡ seen ++ rest)

-- the events of a journal that bear the number n, in their order
abbrev pub events_of : {E : Type 0} → (E → ℕ) → ℕ → List E → List E
events_of number n journal = filter (λ e. number e == n) journal

-- one event at most was added, at the end, and it bears the number n
abbrev pub Adds : {E : Type 0} → (E → ℕ) → ℕ → List E → List E → Type 0
Adds {E} number n before after = (after ≡ before) ⊎ ((e : E) × (after ≡ before ++ e ∷ []) × (number e ≡ n))
