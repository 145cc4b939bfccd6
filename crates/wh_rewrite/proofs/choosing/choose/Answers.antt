use Rattle.std.proofs.Common.{None}
use Rattle.wh_rewrite.proofs.Chosen.{chosen, is_full}
use Rattle.wh_rewrite.proofs.choosing.choose.Goals as goal
use Rattle.wh_rewrite.specs.Served.{best_from, serves}

pub returns-clause-chosen : goal.returns-clause-chosen
returns-clause-chosen g c =
    chosen c.args.image.now.tables.scn c.args.image.now.tables.tables.items c.args.image.now.views c.args.query.now c.args.text.now c.args.level c.args.enabled c.plan_of_views.result
    c.plan_of_views.ensures

pub returns-clause-full : goal.returns-clause-full
returns-clause-full g c =
    is_full (best_from (serves c.args.image.now.tables.tables.items c.args.query.now c.args.text.now c.args.level c.args.enabled) None c.args.image.now.views.views) c.plan_of_views.result
    c.plan_of_views.ensures
