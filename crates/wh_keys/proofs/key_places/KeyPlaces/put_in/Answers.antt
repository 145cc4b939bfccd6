use Rattle.std.proofs.Common.{◌∙◌, ap, Some}
use Rattle.std.specs.FinMap as map
use Rattle.wh_keyindex.specs.Keyed.{Keyed}
use Rattle.wh_keys.specs.Coded.{HeldPlaces}
use Rattle.wh_keys.proofs.Places.{change_noted}
use Rattle.wh_keys.proofs.key_places.KeyPlaces.put_in.Goals as goal

pub returns-clause-same : goal.returns-clause-same
returns-clause-same c =
    change_noted c.self.inside.log.items c.make_room.new.log.items c.push_reserved.new.self.items c.self.inside.index.places c.make_room.new.index.places c.insert.new.self.places
    c.args.key.now c.in_ok-noted.noted (Some c.args.place) c.find-value.result c.make_room.ensures.items c.make_room.ensures.places c.in_ok-noted.ensures c.find-value.ensures c.push_reserved.ensures.items
    (ap (λ (k : Keyed). k.places) c.insert.ensures ∙ ap (λ key. map.insert c.make_room.new.index.places key c.args.place) c.in_ok-kept.ensures)
    ∙ ap (λ (h : HeldPlaces). h.before) c.self.view_is
