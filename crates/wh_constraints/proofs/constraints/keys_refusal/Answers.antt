use Rattle.std.proofs.Common.{◌∙◌, ap, length, subst}
use Rattle.wh_base.specs.Tables.{def_at}
use Rattle.wh_constraints.proofs.KeysRight.{foreign_there, told_so}
use Rattle.wh_constraints.specs.Constraints.{Tells}
use Rattle.wh_keys.specs.Made.{keys_made}
use Rattle.wh_constraints.proofs.constraints.keys_refusal.Goals as goal

pub told_refusal-requires-clause-foreign : goal.told_refusal-requires-clause-foreign
told_refusal-requires-clause-foreign g c =
    ap (λ ds. length (def_at ds c.args.table).foreign) c.defs.ensures
    ∙ foreign_there c.args.tables.now.scn c.args.tables.now.tables.items c.args.tables.now.kept.stored c.args.tables.now.kept.settled c.args.keys.now.now c.args.table c.args.changes.now c.requires.right c.requires.there c.requires.placed

pub returns-clause-refusal : goal.returns-clause-refusal
returns-clause-refusal g c =
    (told_so c.args.tables.now.scn c.args.tables.now.tables.items c.args.tables.now.kept.stored c.args.tables.now.kept.settled c.args.keys.now.now c.args.table c.args.changes.now c.requires.right c.requires.there c.requires.placed
    c.keys_are_told.ensures c.foreign_keys_are_told.ensures c.in_ok-refusal.refusal c.told_refusal.new.keys.now
    (subst (λ ds. Tells ds c.args.table c.args.changes.now (keys_made c.args.table (def_at ds c.args.table).keys c.args.changes.now c.args.keys.now.now) c.in_ok-refusal.refusal c.told_refusal.new.keys.now) c.defs.ensures
    c.in_ok-refusal.ensures.told)).refusal

pub returns-clause-right : goal.returns-clause-right
returns-clause-right g c =
    (told_so c.args.tables.now.scn c.args.tables.now.tables.items c.args.tables.now.kept.stored c.args.tables.now.kept.settled c.args.keys.now.now c.args.table c.args.changes.now c.requires.right c.requires.there c.requires.placed
    c.keys_are_told.ensures c.foreign_keys_are_told.ensures c.in_ok-refusal.refusal c.told_refusal.new.keys.now
    (subst (λ ds. Tells ds c.args.table c.args.changes.now (keys_made c.args.table (def_at ds c.args.table).keys c.args.changes.now c.args.keys.now.now) c.in_ok-refusal.refusal c.told_refusal.new.keys.now) c.defs.ensures
    c.in_ok-refusal.ensures.told)).right
