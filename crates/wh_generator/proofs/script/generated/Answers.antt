use Rattle.std.proofs.Common.{◌∙◌}
use Rattle.wh_generator.proofs.Whole.{parts-are}
use Rattle.wh_generator.proofs.script.generated.Goals as goal

pub returns : goal.returns
returns c = c.in_ok-script.ensures ∙ parts-are c.args.sales
