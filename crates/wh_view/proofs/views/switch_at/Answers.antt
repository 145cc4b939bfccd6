use Rattle.wh_view.specs.Kept.{switched}
use Rattle.wh_view.proofs.Changing.{set_changed, view_is}
use Rattle.wh_view.proofs.views.switch_at.Goals as goal

pub returns : goal.returns
returns c =
    let there = view_is c.args.views.now.items c.args.place c.index_mut.result.now c.requires c.index_mut.ensures.value in
    set_changed (switched c.args.on) c.args.views.now.items c.args.place c.index_mut.result.now c.switch.new.self there c.switch.ensures
