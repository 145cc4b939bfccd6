use Rattle.std.proofs.Common.{List}
use Rattle.wh_table.specs.Kept.{AreKept, with_change}
use Rattle.wh_table.specs.Stored.{Stored, updated}
use Rattle.wh_table.proofs.Changing.{HasPlace, either_way_by, kept_update}
use Rattle.wh_table.proofs.tables.Tables.update.Goals as goal

pub invariant_of-self : goal.invariant_of-self
invariant_of-self g c =
    let tables : List Stored = c.args.self.now.tables.items in
    let changed : List Stored = with_change c.args.number (updated c.args.self.now.scn c.args.place c.args.values) tables in
    let kept : (HasPlace tables c.args.number → AreKept c.args.self.now.scn changed c.args.self.now.defs c.args.self.now.no_parts) =
    (λ few. kept_update c.args.self.now.scn tables c.args.self.now.defs c.args.self.now.no_parts c.args.number c.args.place c.args.values c.args.self.now.kept c.requires.lives few c.requires.small) in
    record {
      kept = either_way_by c.update_in.result c.update_in.new.tables.items changed tables (HasPlace tables c.args.number) (λ ts. AreKept c.args.self.now.scn ts c.args.self.now.defs c.args.self.now.no_parts) c.update_in.ensures.few c.update_in.ensures.ok c.update_in.ensures.err kept
          c.args.self.now.kept;
    }
