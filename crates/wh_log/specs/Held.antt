-- What a log holds.
use Rattle.std.specs.Prelude.{List, ℕ}
use Rattle.wh_base.specs.declared.logs.LogFacts.{LogFacts}
use Rattle.wh_base.specs.declared.logs.LogRow.{LogRow}

-- The facts of the log with the FROM of now, its birth, the rows that it holds, how many rows it ever had, and for how many more it has memory.
pub record Held : Type 0 where
  pub facts : LogFacts
  pub born : ℕ
  pub rows : List LogRow
  pub numbered : ℕ
  pub room : ℕ
