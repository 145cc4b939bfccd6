use Rattle.std.proofs.Common.{◌∙◌, ap}
use Rattle.std.specs.FinMap as map
use Rattle.wh_keys.specs.Coded.{Held}
use Rattle.wh_keys.specs.Made.{indexes_at, key_at}
use Rattle.wh_keys.proofs.Tables.{no_table_key}
use Rattle.wh_keys.proofs.keys.Keys.find.Goals as goal

pub returns-in-None : goal.returns-in-None
returns-in-None c =
    no_table_key c.self.inside.tables.items c.deref.result.now c.args.table c.args.key c.args.value.now c.deref.ensures.value c.in-None.ensures.lookup.3
    ∙ ap (λ (h : Held). map.get (key_at (indexes_at h.now c.args.table).keys c.args.key) c.args.value.now) c.self.view_is
