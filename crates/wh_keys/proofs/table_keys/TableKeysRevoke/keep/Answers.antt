use Rattle.std.proofs.Common.{◌∙◌, ap}
use Rattle.wh_keys.specs.Coded.{HeldIndexes, held_of}
use Rattle.wh_keys.specs.Undoing.{kept}
use Rattle.wh_keys.proofs.Each.{held_kept}
use Rattle.wh_keys.proofs.table_keys.TableKeysRevoke.keep.Goals as goal

pub returns : goal.returns
returns c =
    (λ i. held_of (c.keep_all.ensures i) (c.keep_all-2.ensures i)) ∙ held_kept c.self.inside.keys.items c.self.inside.foreign.items ∙ ap (λ (h : HeldIndexes). kept h) c.self.view_is
