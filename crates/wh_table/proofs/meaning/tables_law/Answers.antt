use Rattle.wh_table.proofs.Numbered.{base_numbered, base_unparted}
use Rattle.wh_table.proofs.Seen.{laws_hold}
use Rattle.wh_table.proofs.meaning.tables_law.Goals as goal

pub returns : goal.returns
returns g c = record {
  shows = λ n. laws_hold.shows c.args.tables.now.tables.items c.args.tables.now.scn n c.args.tables.now.kept.stored;
  numbered = base_numbered c.args.tables.now.tables.items c.args.tables.now.scn c.args.tables.now.kept.stored;
  parts = base_unparted c.args.tables.now.tables.items c.args.tables.now.scn;
}
