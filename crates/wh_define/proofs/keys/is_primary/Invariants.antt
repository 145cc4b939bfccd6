use Rattle.std.proofs.Common.{◌≡◌, ◌&&◌, drop}
use Rattle.std.specs.List.{list_any}
use Rattle.wh_base.specs.Lists.{same_text}
use Rattle.wh_define.proofs.keys.is_primary.Given as goal

abbrev pub invariant-loop-key : goal.invariant-loop-key
invariant-loop-key l = list_any (λ k. k.primary && same_text k.column l.name) (drop l.key-index l.keys) ≡ list_any (λ k. k.primary && same_text k.column l.name) l.keys
