use Rattle.wh_view.specs.Kept.{suspended}
use Rattle.wh_view.proofs.Changing.{set_changed, view_is}
use Rattle.wh_view.proofs.views.suspend_at.Goals as goal

pub returns : goal.returns
returns c =
    let there = view_is c.args.views.now.items c.args.place c.index_mut.result.now c.requires c.index_mut.ensures.value in
    set_changed (suspended) c.args.views.now.items c.args.place c.index_mut.result.now c.suspend.new.self there c.suspend.ensures
