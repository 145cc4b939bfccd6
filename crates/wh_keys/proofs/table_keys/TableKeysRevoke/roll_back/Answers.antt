use Rattle.std.proofs.Common.{◌∙◌, ap}
use Rattle.wh_keys.specs.Coded.{HeldIndexes, held_of}
use Rattle.wh_keys.specs.Undoing.{rolled_back}
use Rattle.wh_keys.proofs.Each.{held_rolled_back}
use Rattle.wh_keys.proofs.table_keys.TableKeysRevoke.roll_back.Goals as goal

pub returns : goal.returns
returns c =
    (λ i. held_of (c.roll_back_all.ensures i) (c.roll_back_all-2.ensures i)) ∙ held_rolled_back c.self.inside.keys.items c.self.inside.foreign.items ∙ ap (λ (h : HeldIndexes). rolled_back h) c.self.view_is
