use Rattle.std.proofs.Common.{arith, ◌^◌}
use Rattle.std.proofs.lemmas.Int.{to_z-of_z, fits_signed_mul}
use Rattle.wh_tuple.proofs.cell.multiplied.Goals as goal
use mir.Syntax.{w128}

pub returns : goal.returns
returns c =
    let left = c.ranges.left in
    let right = c.ranges.right in
    let product = fits_signed_mul w128 c.args.left c.args.right (10 ^ 15) (10 ^ 15) (omega arith) (omega arith) (omega arith) in
    simp to_z-of_z
