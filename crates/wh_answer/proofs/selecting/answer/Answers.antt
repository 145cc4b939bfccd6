use Rattle.std.proofs.Common.{◌∙◌, Ok}
use Rattle.def_history.specs.Catalog.{base_now}
use Rattle.wh_answer.proofs.Chosen.{answer_is, has_view, over_now}
use Rattle.wh_answer.proofs.Views.{few_read}
use Rattle.wh_answer.proofs.selecting.answer.Goals as goal
use Rattle.law_trace.specs.Reached.{catalog_of}

pub answer_by-requires-clause-known : goal.answer_by-requires-clause-known
answer_by-requires-clause-known g c =
    (c.known.ensures.asked c.requires.known.trace c.args.asked.now.query c.args.query.now c.requires.known.is
    (over_now c.args.image.now.tables.scn c.args.image.now.tables.tables.items c.args.image.now.views c.requires.known.trace c.requires.known.is c.args.enabled c.args.asked.now (Ok c.args.query.now) c.requires.resolved)).known

pub answer_by-requires-clause-there : goal.answer_by-requires-clause-there
answer_by-requires-clause-there g c =
    has_view c.args.image.now.tables.scn c.args.image.now.tables.tables.items c.args.image.now.views c.args.asked.now c.args.query.now c.args.enabled c.as_slice.result.now
    c.as_slice.ensures.items c.requires.reads_as c.requires.built c.requires.resolved c.views_answer.ensures c.in_ok-plan.plan c.in_ok-plan.ensures.chosen c.requires.known

pub returns-in_err-reply-clause-most : goal.returns-in_err-reply-clause-most
returns-in_err-reply-clause-most g c =
    few_read c.args.image.now.tables.scn c.args.image.now.tables.tables.items (catalog_of c.requires.known.trace) c.args.query.now c.args.reads.now c.answer_by.new.reads
    (c.known.ensures.asked c.requires.known.trace c.args.asked.now.query c.args.query.now c.requires.known.is
    (over_now c.args.image.now.tables.scn c.args.image.now.tables.tables.items c.args.image.now.views c.requires.known.trace c.requires.known.is c.args.enabled c.args.asked.now (Ok c.args.query.now) c.requires.resolved))
    c.answer_by.ensures.most

pub returns-clause-reply : goal.returns-clause-reply
returns-clause-reply g c = λ trace is.
    c.in_ok-reply.ensures.reply (base_now (catalog_of trace))
    (c.known.ensures.asked trace c.args.asked.now.query c.args.query.now is
    (over_now c.args.image.now.tables.scn c.args.image.now.tables.tables.items c.args.image.now.views trace is c.args.enabled c.args.asked.now (Ok c.args.query.now) c.requires.resolved)).shown
    ∙ answer_is c.args.image.now.tables.scn c.args.image.now.tables.tables.items c.args.image.now.views c.args.asked.now c.args.query.now c.args.enabled c.as_slice.result.now
    c.as_slice.ensures.items c.requires.reads_as c.requires.built c.requires.resolved c.views_answer.ensures c.in_ok-plan.plan c.in_ok-plan.ensures.chosen c.in_ok-plan.ensures.full trace is

pub returns-clause-most : goal.returns-clause-most
returns-clause-most g c =
    few_read c.args.image.now.tables.scn c.args.image.now.tables.tables.items (catalog_of c.requires.known.trace) c.args.query.now c.args.reads.now c.answer_by.new.reads
    (c.known.ensures.asked c.requires.known.trace c.args.asked.now.query c.args.query.now c.requires.known.is
    (over_now c.args.image.now.tables.scn c.args.image.now.tables.tables.items c.args.image.now.views c.requires.known.trace c.requires.known.is c.args.enabled c.args.asked.now (Ok c.args.query.now) c.requires.resolved))
    c.answer_by.ensures.most
