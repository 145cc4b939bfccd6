use Rattle.std.proofs.Common.{◌∙◌, ap, sym}
use Rattle.std.specs.Option.{option_copied}
use Rattle.wh_answer.proofs.Views.{at_most, computes, evaluates}
use Rattle.wh_answer.proofs.computing.compute.Goals as goal

pub computed_from-requires-clause-known : goal.computed_from-requires-clause-known
computed_from-requires-clause-known g c =
    evaluates c.args.image.now.tables.scn c.args.image.now.tables.tables.items c.args.image.now.views c.args.view c.in-Some.kept.now c.query.result.now c.known.ensures
    (sym c.numbered.ensures ∙ ap option_copied c.in-Some.is) c.query.ensures c.requires.known

pub returns-in_err-computed-in-Some-clause-most : goal.returns-in_err-computed-in-Some-clause-most
returns-in_err-computed-in-Some-clause-most g c =
    at_most c.args.image.now.tables.scn c.args.image.now.tables.tables.items c.args.image.now.views c.args.view c.in-Some.kept.now c.query.result.now c.known.ensures
    (sym c.numbered.ensures ∙ ap option_copied c.in-Some.is) c.query.ensures c.args.reads.now c.computed_from.new.reads c.requires.known c.computed_from.ensures.most

pub returns-clause-computed : goal.returns-clause-computed
returns-clause-computed g c =
    computes c.args.image.now.tables.scn c.args.image.now.tables.tables.items c.args.image.now.views c.args.view c.in-Some.kept.now c.query.result.now c.known.ensures
    (sym c.numbered.ensures ∙ ap option_copied c.in-Some.is) c.query.ensures c.in_ok-computed-in-Some.computed c.in_ok-computed-in-Some.ensures.computed

pub returns-clause-most : goal.returns-clause-most
returns-clause-most g c =
    at_most c.args.image.now.tables.scn c.args.image.now.tables.tables.items c.args.image.now.views c.args.view c.in-Some.kept.now c.query.result.now c.known.ensures
    (sym c.numbered.ensures ∙ ap option_copied c.in-Some.is) c.query.ensures c.args.reads.now c.computed_from.new.reads c.requires.known c.computed_from.ensures.most
