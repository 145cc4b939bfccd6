use Rattle.std.proofs.Common.{◌≡◌, ◌++◌, map}
use Rattle.wh_dml.specs.Picking.{deleted_of}
use Rattle.wh_dml.proofs.asking.deletes.Given as goal

abbrev pub invariant-loop-gone : goal.invariant-loop-gone
invariant-loop-gone l = l.changes.items ++ map deleted_of l.gone-iterator.rest.items ≡ map deleted_of l.fn.rows.items
