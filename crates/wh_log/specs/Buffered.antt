-- Memory for lists of values, made beforehand.
use Rattle.std.specs.Prelude.{◌≡◌, ◌≤◌, ℕ, [], vec_capacity}
use Rattle.std.specs.Global.{Vec}
use Rattle.wh_base.specs.declared.values.Value.{Value}

-- how many values a list has memory for, and how many lists there are
pub record Buffered : Type 0 where
  pub width : ℕ
  pub count : ℕ

-- an empty list with memory for so many values
pub record IsFree (width : ℕ) (list : Vec Value) : Type 0 where
  pub empty : list.items ≡ []
  pub room : width ≤ vec_capacity list
