-- The bytes of a text.
use Rattle.std.specs.Prelude.{List, take, vec_len, ℕ, ◌<◌, ◌^◌, ◌≤◌}
use Rattle.wh_base.specs.declared.txt.Bytes.{Bytes}
use Rattle.wh_base.specs.declared.txt.TheConstants.{SHORT}
use Rattle.wh_base.specs.declared.txt.Bytes.TheVariants.{Long, Short}

abbrev pub bytes_in : Bytes → List ℕ
bytes_in (Short len bytes) = take len bytes
bytes_in (Long bytes) = bytes.value.items

abbrev pub IsWithinBounds : Bytes → Type 0
IsWithinBounds (Short len bytes) = len ≤ SHORT
IsWithinBounds (Long bytes) = vec_len bytes.value < 2 ^ 32
