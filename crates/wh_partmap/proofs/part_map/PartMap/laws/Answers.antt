use Rattle.wh_partmap.proofs.Before.{changes_from}
use Rattle.wh_partmap.proofs.part_map.PartMap.laws.Goals as goal

pub returns-clause-changes : goal.returns-clause-changes
returns-clause-changes c = changes_from c.args.self.now
