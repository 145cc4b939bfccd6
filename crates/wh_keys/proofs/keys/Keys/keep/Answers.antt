use Rattle.std.proofs.Common.{◌∙◌, ap}
use Rattle.wh_keys.specs.Coded.{Held}
use Rattle.wh_keys.specs.Undoing.{kept}
use Rattle.wh_keys.proofs.Tables.{held_kept}
use Rattle.wh_keys.proofs.keys.Keys.keep.Goals as goal

pub returns : goal.returns
returns c = held_kept c.self.inside.tables.items c.keep_all.new.items.items c.keep_all.ensures ∙ ap (λ (h : Held). kept h) c.self.view_is
