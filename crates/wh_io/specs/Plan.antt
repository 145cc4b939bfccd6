-- What the objects in memory show: their bytes, the greatest piece, and which of their calls fail.
use Rattle.std.specs.Prelude.{ℕ, List}
use Rattle.wh_io.specs.Causes.{next_count}

-- the numbers of the calls that fail, from 1, and how many calls and faults there were
pub record Plan : Type 0 where
  pub failing : List ℕ
  pub calls : ℕ
  pub faults : ℕ

-- the plan after a call that didn't fail
abbrev pub passed : Plan → Plan
passed p = record p { calls = next_count p.calls }

-- the plan after a call that failed
abbrev pub failed : Plan → Plan
failed p = record p { calls = next_count p.calls; faults = next_count p.faults }

-- a source: the bytes that are left, and the most bytes that a call gives
pub record Supply : Type 0 where
  pub left : List ℕ
  pub piece : ℕ
  pub plan : Plan

-- a sink: the bytes that were written, and the most bytes that a call takes
pub record Store : Type 0 where
  pub bytes : List ℕ
  pub piece : ℕ
  pub plan : Plan
