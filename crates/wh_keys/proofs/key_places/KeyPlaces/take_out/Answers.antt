use Rattle.std.proofs.Common.{◌∙◌, ap, None}
use Rattle.wh_keyindex.specs.Keyed.{Keyed}
use Rattle.wh_keys.specs.Coded.{HeldPlaces}
use Rattle.wh_keys.proofs.Places.{change_noted}
use Rattle.wh_keys.proofs.key_places.KeyPlaces.take_out.Goals as goal

pub returns-clause-same : goal.returns-clause-same
returns-clause-same c =
    change_noted c.self.inside.log.items c.make_room.new.log.items c.push_reserved.new.self.items c.self.inside.index.places c.make_room.new.index.places c.remove-value.new.self.places
    c.args.key.now c.in_ok-noted.noted None c.remove-value.result c.make_room.ensures.items c.make_room.ensures.places c.in_ok-noted.ensures c.remove-value.ensures.place c.push_reserved.ensures.items
    (ap (λ (k : Keyed). k.places) c.remove-value.ensures.rest)
    ∙ ap (λ (h : HeldPlaces). h.before) c.self.view_is
