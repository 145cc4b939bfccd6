use Rattle.wh_dml.proofs.Setting.{row_is}
use Rattle.wh_dml.proofs.set_list.SetList.apply.Goals as goal

pub returns : goal.returns
returns c = row_is c.args.self.now c.args.old.now c.in_ok-values.values c.in_ok-values.ensures
