use Rattle.std.proofs.Common.{◌++◌, take}
use Rattle.std.proofs.KnownBytes.{Consumes-trans}
use Rattle.wh_io.proofs.all.read_all.Goals as goal

pub returns-then-is_err-clause-lost : goal.returns-then-is_err-clause-lost
returns-then-is_err-clause-lost g c =
    (c.pieces.all.items ++ take c.in-Ok.count c.read.new.buf, Consumes-trans _ _ _ _ _ c.pieces.invariant.bytes c.in-Ok.ensures.bytes.0)
