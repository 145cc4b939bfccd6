use Rattle.std.proofs.Common.{◌∙◌, ap, subst, sym}
use Rattle.wh_base.specs.declared.values.Version.TheVariants.{Two}
use Rattle.std.specs.Prelude.{Some}
use Rattle.def_output.specs.Generator.{generated}
use Rattle.def_output.specs.Program.{CountersRose, own_order, reads_at}
use Rattle.wh_top.specs.Running.{IsRunnable, command_count, total}
use Rattle.wh_top.proofs.Lines.{summary_ran}
use Rattle.wh_top.proofs.Runnable.{three_sessions}
use Rattle.wh_top.proofs.summary.summary.Goals as goal

-- the generated script can be run
pub perform-requires-clause-runnable : goal.perform-requires-clause-runnable
perform-requires-clause-runnable g c =
    let n = c.args.sales in
    let law = c.generated_script_runs.ensures in
    subst IsRunnable (sym c.in_ok-script.ensures) (three_sessions (generated n) (law.built n) (law.reads n) (law.sessions n))

pub returns-clause-summary : goal.returns-clause-summary
returns-clause-summary g c =
    let n = c.args.sales in
    let law = c.generated_script_runs.ensures in
    let runnable = subst IsRunnable (sym c.in_ok-script.ensures) (three_sessions (generated n) (law.built n) (law.reads n) (law.sessions n)) in
    summary_ran Two n c.in_ok-script.script c.in_ok-performed.performed.journal c.in_ok-performed.performed.sessions.items c.in_ok-commands.commands c.in_ok-performed.performed.scn c.in_ok-tally.tally c.in_ok-text.text.items
    c.in_ok-script.ensures runnable c.in_ok-performed.ensures.ran
    (c.in_ok-commands.ensures ∙ ap command_count c.as_slice.ensures.items)
    (c.in_ok-tally.ensures ∙ ap total c.as_slice-2.ensures.value)
    c.in_ok-text.ensures

pub returns-clause-counted : goal.returns-clause-counted
returns-clause-counted g c = subst (λ s. CountersRose (reads_at (Some (own_order s))) c.args.reads.now c.perform.new.reads) c.in_ok-script.ensures c.in_ok-performed.ensures.counted
