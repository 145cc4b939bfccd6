use Rattle.std.proofs.lemmas.Result.{err_from_is_err_and}
use Rattle.wh_ddl_text.proofs.Splits.{split-fault, split-some}
use Rattle.wh_ddl_text.proofs.partitions.split_from.Goals as goal

pub returns-in_err-lower : goal.returns-in_err-lower
returns-in_err-lower c =
    let p = err_from_is_err_and c.from_residual.result c.from_residual.ensures.1 in
    rw (p.1, p.2) (split-fault c.args.name c.args.at c.args.parser.now c.read.new.parser _ c.in_err-lower.ensures)

pub returns : goal.returns
returns c = split-some c.args.name c.args.at c.args.parser.now c.read.new.parser c.in_ok-lower.lower c.in_ok-lower.upper c.in_ok-lower.ensures
