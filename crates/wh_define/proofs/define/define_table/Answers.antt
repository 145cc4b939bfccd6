use Rattle.std.proofs.Common.{◌∙◌, ap, Err}
use Rattle.wh_base.specs.declared.replies.Refusal.TheVariants.{NameTaken}
use Rattle.wh_define.proofs.Whole.{name_free, name_taken}
use Rattle.wh_define.proofs.define.define_table.Goals as goal

pub returns-then-is_taken : goal.returns-then-is_taken
returns-then-is_taken c = λ taken e. ap (λ t. Err (NameTaken t)) c.in_ok-copy.ensures ∙ name_taken taken c.args.is_taken c.args.defs.now c.args.statement.now c.if-is_taken.true e

pub returns : goal.returns
returns c = λ taken e. name_free taken c.args.is_taken c.args.defs.now c.args.statement.now c.in_ok-defined.defined c.if-is_taken.false c.in_ok-defined.ensures e
