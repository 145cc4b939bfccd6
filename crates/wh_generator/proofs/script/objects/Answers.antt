use Rattle.std.proofs.Common.{codes}
use Rattle.wh_generator.proofs.Counting.{five_parts}
use Rattle.wh_generator.specs.Parts.{loaded, objects, told}
use Rattle.wh_generator.proofs.script.objects.Goals as goal

pub returns : goal.returns
unfolding objects
returns c =
    five_parts (told c.args.times_text.now) (loaded (codes "TIMES") c.args.times) (told c.args.sales_text.now) (loaded (codes "SALES") c.args.sales) (told c.args.view_text.now) _ _ _ _
    c.new-commands.ensures c.in_ok-push_table.ensures c.in_ok-push_table-2.ensures c.in_ok-push_text.ensures
