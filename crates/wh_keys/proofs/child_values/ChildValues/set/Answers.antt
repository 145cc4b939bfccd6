use Rattle.std.proofs.Common.{◌∙◌, ap}
use Rattle.wh_keys.specs.Coded.{HeldValues}
use Rattle.wh_keys.proofs.PlaceValues.{change_noted}
use Rattle.wh_keys.proofs.child_values.ChildValues.set.Goals as goal

pub returns-clause-same : goal.returns-clause-same
returns-clause-same c =
    change_noted c.self.inside.log.items c.make_room.new.log.items c.push_reserved.new.self.items c.self.inside.index.values c.make_room.new.index.values c.set_place.new.index.values
    c.args.place c.args.value c.in_ok-noted.noted c.make_room.ensures.items c.make_room.ensures.values (c.in_ok-noted.ensures ∙ c.value-2.ensures) c.push_reserved.ensures.items c.set_place.ensures.values
    ∙ ap (λ (h : HeldValues). h.before) c.self.view_is
