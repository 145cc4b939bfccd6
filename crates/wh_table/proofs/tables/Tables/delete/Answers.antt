use Rattle.std.proofs.Common.{List}
use Rattle.wh_table.specs.Kept.{AreKept, with_change}
use Rattle.wh_table.specs.Stored.{Stored, deleted}
use Rattle.wh_table.proofs.Changing.{either_way, kept_delete}
use Rattle.wh_table.proofs.tables.Tables.delete.Goals as goal

pub invariant_of-self : goal.invariant_of-self
invariant_of-self g c =
    let tables : List Stored = c.args.self.now.tables.items in
    let changed : List Stored = with_change c.args.number (deleted c.args.self.now.scn c.args.place) tables in
    let kept = kept_delete c.args.self.now.scn tables c.args.self.now.defs c.args.self.now.no_parts c.args.number c.args.place c.args.self.now.kept c.requires.lives in
    record {
      kept = either_way c.delete_from.result c.delete_from.new.tables.items changed tables (λ ts. AreKept c.args.self.now.scn ts c.args.self.now.defs c.args.self.now.no_parts) c.delete_from.ensures.ok c.delete_from.ensures.err kept
          c.args.self.now.kept;
    }
