use Rattle.std.proofs.Common.{◌≡◌, drop}
use Rattle.def_resolve.specs.Names.{name_refusal}
use Rattle.wh_base.specs.Lists.{first_of}
use Rattle.wh_resolve.proofs.unknown.unknown_in_parts.Given as goal

abbrev pub invariant-loop-part : goal.invariant-loop-part
invariant-loop-part g l = first_of (λ p. first_of (name_refusal l.sources) (g.T.Naming.names p)) (drop l.part-index l.parts) ≡ first_of (λ p. first_of (name_refusal l.sources) (g.T.Naming.names p)) l.parts
