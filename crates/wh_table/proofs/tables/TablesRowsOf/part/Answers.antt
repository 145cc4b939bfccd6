use Rattle.wh_table.proofs.Reading.{unmarked_shown}
use Rattle.wh_table.proofs.tables.TablesRowsOf.part.Goals as goal

pub returns : goal.returns
returns g c = unmarked_shown c.args.self.now.tables.items c.args.self.now.scn c.args.table c.args.place c.table.result.now c.args.self.now.kept.stored c.table.ensures
