use Rattle.std.proofs.Common.{◌≡◌, drop}
use Rattle.wh_base.specs.Lists.{has_text}
use Rattle.wh_dml.proofs.asks.has_text.Given as goal

abbrev pub invariant-loop-other : goal.invariant-loop-other
invariant-loop-other l = has_text (drop l.other-index l.names) l.name ≡ has_text l.names l.name
