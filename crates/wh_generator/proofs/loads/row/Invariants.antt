use Rattle.std.proofs.Common.{◌≡◌, decimal, map, take}
use Rattle.wh_generator.proofs.loads.row.Given as goal

abbrev pub invariant-loop-field : goal.invariant-loop-field
invariant-loop-field l = l.row ≡ map decimal (take l.field-index l.fields)
