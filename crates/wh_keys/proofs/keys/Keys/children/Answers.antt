use Rattle.std.proofs.Common.{◌∙◌, ap}
use Rattle.wh_keyindex.specs.Children.{places_with}
use Rattle.wh_keys.specs.Coded.{Held}
use Rattle.wh_keys.specs.Made.{foreign_at, indexes_at}
use Rattle.wh_keys.proofs.Tables.{no_table_foreign}
use Rattle.wh_keys.proofs.keys.Keys.children.Goals as goal

pub returns-in-None : goal.returns-in-None
returns-in-None c =
    no_table_foreign c.self.inside.tables.items c.deref.result.now c.args.table c.args.foreign c.args.value.now c.deref.ensures.value c.in-None.ensures.lookup.3
    ∙ ap (λ (h : Held). places_with c.args.value.now (foreign_at (indexes_at h.now c.args.table).foreign c.args.foreign)) c.self.view_is
