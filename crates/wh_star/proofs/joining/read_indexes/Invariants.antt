use Rattle.std.proofs.Common.{◌≡◌, ◌+◌, ◌≤◌, ◌++◌, drop}
use Rattle.wh_star.specs.Lookups.{far_reads, indexes_of}
use Rattle.wh_star.proofs.joining.read_indexes.Given as goal

abbrev pub invariant-loop-edge : goal.invariant-loop-edge
invariant-loop-edge g l = record {
  indexes : l.indexes.items ++ indexes_of (g.R.RowsOf.tables l.rows) (drop l.edge-index l.edges) ≡ indexes_of (g.R.RowsOf.tables l.rows) l.edges;
  raised : l.reads + far_reads (g.R.RowsOf.tables l.rows) (drop l.edge-index l.edges) ≡ l.initial.reads + far_reads (g.R.RowsOf.tables l.rows) l.edges;
  least : l.initial.reads ≤ l.reads;
}
