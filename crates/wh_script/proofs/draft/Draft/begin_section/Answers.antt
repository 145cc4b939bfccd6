use Rattle.def_grammar.specs.Script.{sections_of}
use Rattle.wh_script.proofs.Nesting.{knows-begun}
use Rattle.wh_script.proofs.draft.Draft.begin_section.Goals as goal

pub invariant_of-result : goal.invariant_of-result
invariant_of-result c = knows-begun c.in-Ok.views (sections_of c.args.self) c.in-Ok.before c.args.session c.new.result c.in-Ok.ensures.sections c.new.ensures c.in-Ok.ensures.names
