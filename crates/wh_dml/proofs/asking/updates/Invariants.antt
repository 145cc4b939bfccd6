use Rattle.std.proofs.Common.{◌≡◌, ◌+◌, ◌++◌, ◌<◌, ◌^◌, length}
use Rattle.wh_dml.specs.Picking.{updates_from}
use Rattle.wh_dml.proofs.asking.updates.Given as goal

abbrev pub invariant-loop-picked : goal.invariant-loop-picked
invariant-loop-picked l = record {
  done : l.changes.items ++ updates_from l.sets l.place l.picked-iterator.rest.items ≡ updates_from l.sets l.places l.fn.rows.items;
  room : l.place + length l.picked-iterator.rest.items < 2 ^ 63 + 2 ^ 32;
}
