use Rattle.std.proofs.Common.{◌∙◌, ap}
use Rattle.wh_keys.specs.Coded.{Held}
use Rattle.wh_keys.specs.Undoing.{rolled_back}
use Rattle.wh_keys.proofs.Tables.{held_rolled_back}
use Rattle.wh_keys.proofs.keys.Keys.roll_back.Goals as goal

pub returns : goal.returns
returns c = held_rolled_back c.self.inside.tables.items c.roll_back_all.new.items.items c.roll_back_all.ensures ∙ ap (λ (h : Held). rolled_back h) c.self.view_is
