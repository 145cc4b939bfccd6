-- What is true of the fields of a log.
use Rattle.std.specs.List.{All}
use Rattle.std.specs.List.Sorted.{IsNonDecreasingBy}
use Rattle.std.specs.Prelude.{◌≡◌, ◌+◌, ◌<◌, ◌≤◌, length, vec_capacity, vec_len}
use Rattle.wh_log.specs.Log.{scn_of}
use Rattle.wh_log.specs.declared.log.MvLog.TheInside.{Inside}

-- the lists made beforehand fit the logged columns, and there is memory for as many rows; the rows stand by SCN, above FROM
pub record IsKept (log : Inside) : Type 0 where
  pub width : log.buffers.width ≡ length log.facts.columns
  pub room : vec_len log.rows + log.buffers.count ≤ vec_capacity log.rows
  pub above : All (λ r. log.facts.from < r.scn) log.rows.items
  pub ordered : IsNonDecreasingBy scn_of log.rows.items
