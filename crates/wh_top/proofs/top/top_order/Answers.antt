use Rattle.std.proofs.Common.{rules}
use Rattle.wh_top.proofs.top.top_order.Goals as goal

pub returns-in-Ok-Some-Generate-clause-part : goal.returns-in-Ok-Some-Generate-clause-part
returns-in-Ok-Some-Generate-clause-part g c fault = let part = c.generate.ensures.part fault in search (rules, part)
