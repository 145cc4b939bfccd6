use Rattle.std.proofs.Common.{◌≡◌, ◌+◌, ◌++◌, ◌<◌, ◌≤◌, ◌^◌, length}
use Rattle.wh_dml.specs.Picking.{inserts_from}
use Rattle.wh_dml.proofs.asking.inserts.Given as goal

abbrev pub invariant-loop-values : goal.invariant-loop-values
invariant-loop-values l = record {
  done : l.changes.items ++ inserts_from (l.rowid + 1) l.place l.values-iterator.rest.items ≡ inserts_from (l.given + 1) l.places l.fn.rows.items;
  low : l.rowid ≤ l.place;
  room : l.place + length l.values-iterator.rest.items < 2 ^ 33;
}
