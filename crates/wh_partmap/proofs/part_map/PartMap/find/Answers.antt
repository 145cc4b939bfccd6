use Rattle.std.proofs.Common.{◌≡◌, None, slice_get, subst, sym}
use Rattle.std.specs.Option.{option_and_then}
use Rattle.wh_base.specs.Tables.{with_intervals}
use Rattle.wh_partmap.proofs.Kept.{bounds_now}
use Rattle.wh_partmap.proofs.Keys.{part_found}
use Rattle.wh_partmap.specs.History.{part_with_key}
use Rattle.wh_partmap.specs.Shown.{shown}
use Rattle.wh_partmap.proofs.part_map.PartMap.find.Goals as goal

pub place_of_key-requires : goal.place_of_key-requires
place_of_key-requires c = bounds_now (shown c.self.inside) c.self.invariant

pub returns-clause-part : goal.returns-clause-part
returns-clause-part c =
    let found = subst (λ o. option_and_then (λ i. slice_get (with_intervals None c.self.inside.parts) i) o ≡ part_with_key c.self.inside.parts c.args.key.now) (sym c.place_of_key.ensures) (part_found c.self.inside.parts c.args.key.now) in
    subst (λ h. option_and_then (λ i. slice_get (with_intervals None h.parts) i) c.place_of_key.result ≡ part_with_key h.parts c.args.key.now) c.self.view_is found
