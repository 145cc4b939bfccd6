use Rattle.std.proofs.Common.{◌≡◌, drop}
use Rattle.def_resolve.specs.Names.{column_named}
use Rattle.wh_base.specs.Lists.{first_of}
use Rattle.wh_resolve.proofs.misfits.first_misfit.Given as goal

abbrev pub invariant-loop-part : goal.invariant-loop-part
invariant-loop-part g l = first_of (g.T.Fitting.misfit l.defs l.first (column_named l.sources)) (drop l.part-index l.parts) ≡ first_of (g.T.Fitting.misfit l.defs l.first (column_named l.sources)) l.parts
