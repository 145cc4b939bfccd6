use Rattle.std.proofs.Common.{false}
use Rattle.wh_top.proofs.Runnable.{runnable}
use Rattle.wh_top.proofs.input.read_input.Goals as goal

pub returns-in-Ok-read_script-clause-runnable : goal.returns-in-Ok-read_script-clause-runnable
returns-in-Ok-read_script-clause-runnable g c =
    let bytes = c.as_slice.result.now in
    let script = c.in-Ok-read_script.read.script in
    let next = c.in-Ok-read_script.read.next in
    let is = c.in-Ok-read_script.ensures.gives in
    let asks = c.a_script_asks_what_its_texts_read_as.ensures in
    let ascent = c.sections_ascend.ensures in
    runnable script c.in-Ok-read_script.ensures.built (asks.built bytes false script next is) (ascent.built_ascend bytes false script next is) (ascent.built_within bytes false script next is)
