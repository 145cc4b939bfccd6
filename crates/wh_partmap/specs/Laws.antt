-- What is true of the partitions of a table at any time.
use Rattle.std.specs.List.{All, AllPairs}
use Rattle.std.specs.Prelude.{◌≡◌, ◌≢◌, ◌<◌, ◌≤◌, IsTrue, List, [], ◌∷◌, ℕ}
use Rattle.def_effect.specs.Define.{is_above}
use Rattle.wh_base.specs.declared.tables.Part.{Part}
use Rattle.wh_base.specs.declared.tables.Touch.{Touch}
use Rattle.wh_partmap.specs.History.{PartHistory, lists_of, parts_at, with_parts}
use Rattle.wh_partmap.specs.declared.lists.PartList.{PartList}

-- each upper bound is above those before it, so only the last may be none
abbrev pub BoundsRise : List Part → Type 0
BoundsRise parts = AllPairs (λ p q. IsTrue (is_above p.below q.below)) parts

-- the partitions bear different numbers
abbrev pub NumbersDiffer : List Part → Type 0
NumbersDiffer parts = AllPairs (λ p q. p.number ≢ q.number) parts

-- the numbers are counts of partitions made, from 1
abbrev pub AreCounts : ℕ → List Part → Type 0
AreCounts made parts = All (λ p. (1 ≤ p.number) × (p.number ≤ made)) parts

-- partitions of a table in which that many were made
pub record AreParts (made : ℕ) (parts : List Part) : Type 0 where
  pub bounds : BoundsRise parts
  pub numbers : NumbersDiffer parts
  pub counts : AreCounts made parts

-- each list began after those behind it
abbrev pub ListsFall : List PartList → Type 0
ListsFall lists = AllPairs (λ l m. m.since < l.since) lists

-- no touch is earlier than one before it
abbrev pub TouchesRise : List Touch → Type 0
TouchesRise touches = AllPairs (λ t u. t.scn ≤ u.scn) touches

-- the SCN at which the first of all lists began: the one that began at this SCN, and those before it, the latest first
abbrev pub first_since : ℕ → List PartList → ℕ
first_since since [] = since
first_since since (l ∷ ls) = first_since l.since ls

pub record IsPartHistory (h : PartHistory) : Type 0 where
  pub parts : All (λ l. AreParts h.made l.parts) (lists_of h)
  pub lists : ListsFall (lists_of h)
  pub begun : first_since h.since h.earlier ≡ h.born
  pub touches : TouchesRise h.touches

-- a change of the partitions at an SCN leaves those at earlier SCNs as they were, and shows from then on
pub record ChangesFrom (h : PartHistory) : Type 0 where
  pub before : (scn n : ℕ) (parts : List Part) → h.since ≤ scn → n < scn → parts_at (with_parts h scn parts) n ≡ parts_at h n
  pub after : (scn n : ℕ) (parts : List Part) → scn ≤ n → parts_at (with_parts h scn parts) n ≡ parts
