use Rattle.std.proofs.Common.{◌≡◌, drop}
use Rattle.def_resolve.specs.Names.{order_refusal}
use Rattle.wh_base.specs.Lists.{first_of}
use Rattle.wh_resolve.proofs.unknown.order_unknown.Given as goal

abbrev pub invariant-loop-key : goal.invariant-loop-key
invariant-loop-key l = first_of (λ k. order_refusal l.sources l.query k.what) (drop l.key-index l.key-items) ≡ first_of (λ k. order_refusal l.sources l.query k.what) l.key-items
