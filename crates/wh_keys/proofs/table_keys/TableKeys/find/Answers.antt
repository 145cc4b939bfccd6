use Rattle.std.proofs.Common.{◌∙◌, ap}
use Rattle.std.specs.FinMap as map
use Rattle.wh_keys.specs.Coded.{HeldIndexes}
use Rattle.wh_keys.specs.Made.{key_at}
use Rattle.wh_keys.proofs.Each.{no_key}
use Rattle.wh_keys.proofs.table_keys.TableKeys.find.Goals as goal

pub returns-in-None : goal.returns-in-None
returns-in-None c =
    no_key c.self.inside.keys.items c.deref.result.now c.args.key c.args.value.now c.deref.ensures.value c.in-None.ensures.lookup.3
    ∙ ap (λ (h : HeldIndexes). map.get (key_at h.now.keys c.args.key) c.args.value.now) c.self.view_is
