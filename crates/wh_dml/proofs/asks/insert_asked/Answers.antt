use Rattle.std.proofs.Common.{◌∙◌, sym}
use Rattle.wh_dml.proofs.Refused.{asked_refused}
use Rattle.wh_dml.proofs.asks.insert_asked.Goals as goal

pub returns-in-Err-clause-asked : goal.returns-in-Err-clause-asked
returns-in-Err-clause-asked c =
    asked_refused c.args.defs.now c.args.statement.now c.in-Some.table c.def_at.result.now c.in-Err.refusal c.in-Some.ensures.number c.def_at.ensures (sym c.in-Err.is ∙ c.in_ok-rows.ensures)
