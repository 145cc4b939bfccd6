-- A list in chunks.
use Rattle.std.specs.Prelude.{◌≡◌, ◌<◌, ◌≤◌, ◌^◌, Bool, List, [], ◌∷◌, false, length, nat_lt, ℕ}
use Rattle.wh_base.specs.Lists.{joined_lists}

-- how many items a chunk has at the most
abbrev pub chunk_size : ℕ
chunk_size = 1024

-- each chunk but the last is full
abbrev pub AreChunks : {T : Type 0} → List (List T) → Type 0
AreChunks [] = Unit {0}
AreChunks (c ∷ []) = length c ≤ chunk_size
AreChunks (c ∷ d ∷ cs) = (length c ≡ chunk_size) × AreChunks (d ∷ cs)

-- the last chunk isn't full
abbrev pub last_has_room : {T : Type 0} → List (List T) → Bool
last_has_room [] = false
last_has_room (c ∷ []) = nat_lt (length c) chunk_size
last_has_room (c ∷ d ∷ cs) = last_has_room (d ∷ cs)

-- chunks of a list with so many items, which are fewer than 2^32
pub record AreChunksOf {T : Type 0} (count : ℕ) (chunks : List (List T)) : Type 0 where
  pub all : count ≡ length (joined_lists chunks)
  pub few : count < 2 ^ 32
  pub full : AreChunks chunks
