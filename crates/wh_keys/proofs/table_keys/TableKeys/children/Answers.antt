use Rattle.std.proofs.Common.{◌∙◌, ap}
use Rattle.wh_keyindex.specs.Children.{places_with}
use Rattle.wh_keys.specs.Coded.{HeldIndexes}
use Rattle.wh_keys.specs.Made.{foreign_at}
use Rattle.wh_keys.proofs.Each.{no_foreign}
use Rattle.wh_keys.proofs.table_keys.TableKeys.children.Goals as goal

pub returns-in-None : goal.returns-in-None
returns-in-None c =
    no_foreign c.self.inside.foreign.items c.deref.result.now c.args.foreign c.args.value.now c.deref.ensures.value c.in-None.ensures.lookup.3
    ∙ ap (λ (h : HeldIndexes). places_with c.args.value.now (foreign_at h.now.foreign c.args.foreign)) c.self.view_is
