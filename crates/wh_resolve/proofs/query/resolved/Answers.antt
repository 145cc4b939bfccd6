use Rattle.std.proofs.Common.{◌≡◌, ◌∙◌, ap, None, rules}
use Rattle.def_resolve.specs.Names.{table_refusal}
use Rattle.wh_resolve.proofs.Whole.{all_there, form_with}
use Rattle.wh_resolve.proofs.query.resolved.Goals as goal

pub returns : goal.returns
returns c =
    let there : None ≡ table_refusal c.args.defs.now c.args.query.now = search rules in
    all_there c.args.defs.now c.args.query.now c.in_ok-form.form there (c.in_ok-form.ensures ∙ ap (form_with c.args.defs.now c.args.query.now) (c.as_slice.ensures.value ∙ c.in_ok-sources.ensures))
