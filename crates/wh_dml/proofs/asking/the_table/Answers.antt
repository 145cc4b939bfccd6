use Rattle.std.proofs.Common.{List, None, Some, ap, ℕ, ◌∙◌}
use Rattle.std.specs.Prelude.{Err}
use Rattle.wh_base.specs.declared.replies.Refusal.TheVariants.{NoSuchObject}
use Rattle.wh_dml.proofs.Stated.{named}
use Rattle.wh_dml.proofs.asking.the_table.Goals as goal

pub returns-in-Some-clause-number : goal.returns-in-Some-clause-number
returns-in-Some-clause-number g c =
    named c.args.tables.now.scn c.args.tables.now.tables.items c.as_slice.result.now c.args.name.now (Some c.in-Some.number) (c.as_slice.ensures.items ∙ c.defs.ensures) c.in-Some.ensures.number

pub returns-in_ok-copy-in-None-clause-number : goal.returns-in_ok-copy-in-None-clause-number
returns-in_ok-copy-in-None-clause-number g c =
    ap (λ (n : List ℕ). Err (NoSuchObject n)) c.in_ok-copy-in-None.ensures
    ∙ named c.args.tables.now.scn c.args.tables.now.tables.items c.as_slice.result.now c.args.name.now None (c.as_slice.ensures.items ∙ c.defs.ensures) c.in-None.ensures.number
