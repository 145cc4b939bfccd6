use Rattle.wh_session.proofs.Beginning.{begins, there}
use Rattle.wh_session.proofs.snapshots.begin_part.Goals as goal

-- the view that was found by its name is found by its number
pub computed_over-requires-clause-there : goal.computed_over-requires-clause-there
computed_over-requires-clause-there g c = there c.in_ok-image.image.tables.scn c.in_ok-image.image.views c.args.asked.now.name c.in_ok-begun.begun c.in_ok-begun.ensures

pub returns-clause-first : goal.returns-clause-first
returns-clause-first g c =
    begins c.lookups_agree.ensures c.args.core.now c.in_ok-image.image.tables.scn c.in_ok-image.image.tables.tables.items c.in_ok-image.image.views c.in_ok-image.ensures.image
    c.snapshot.new.self c.args.id c.args.command.now c.args.statement.now c.args.asked.now c.in_ok-begun.begun c.in_ok-computed.computed c.args.reads.now c.computed_over.new.reads
    c.requires.command c.requires.statement c.requires.built c.in_ok-image.ensures.ok c.in_ok-begun.ensures
    (c.in_ok-computed.ensures.computed c.args.core.now c.in_ok-image.ensures.image) c.in_ok-computed.ensures.raised
