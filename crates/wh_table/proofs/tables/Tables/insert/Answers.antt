use Rattle.std.proofs.Common.{List}
use Rattle.wh_table.specs.Kept.{AreKept, with_change}
use Rattle.wh_table.specs.Stored.{Stored, inserted}
use Rattle.wh_table.proofs.Changing.{HasPlace, either_way_by, kept_insert}
use Rattle.wh_table.proofs.tables.Tables.insert.Goals as goal

pub invariant_of-self : goal.invariant_of-self
invariant_of-self g c =
    let tables : List Stored = c.args.self.now.tables.items in
    let changed : List Stored = with_change c.args.number (inserted c.args.self.now.scn c.args.values) tables in
    let kept : (HasPlace tables c.args.number → AreKept c.args.self.now.scn changed c.args.self.now.defs c.args.self.now.no_parts) =
    (λ few. kept_insert c.args.self.now.scn tables c.args.self.now.defs c.args.self.now.no_parts c.args.number c.args.values c.args.self.now.kept c.requires.room few c.requires.small) in
    record {
      kept = either_way_by c.insert_into.result c.insert_into.new.tables.items changed tables (HasPlace tables c.args.number) (λ ts. AreKept c.args.self.now.scn ts c.args.self.now.defs c.args.self.now.no_parts) c.insert_into.ensures.few c.insert_into.ensures.ok c.insert_into.ensures.err kept
          c.args.self.now.kept;
    }
