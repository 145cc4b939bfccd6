use Rattle.wh_rewrite.proofs.Fresh.{seen_is}
use Rattle.wh_rewrite.proofs.staleness.state.Goals as goal

pub returns : goal.returns
returns g c = seen_is c.args.tables.now.scn c.args.tables.now.tables.items c.args.view.now c.kept_state.result c.kept_state.ensures
