use Rattle.wh_script.proofs.Steps.{statement-before}
use Rattle.wh_script.specs.Drafts.{stated}
use Rattle.wh_script.proofs.draft.Draft.read_statement.Goals as goal

pub where_built-requires : goal.where_built-requires
where_built-requires c = statement-before c.args.self c.in-Ok.draft c.args.line (stated c.args.statement.now) c.requires.built c.in-Ok.ensures
