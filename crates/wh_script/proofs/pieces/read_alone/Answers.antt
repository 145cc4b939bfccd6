use Rattle.std.proofs.Common.{Err, Ok, [], arith, length, ◌+◌, ◌∷◌}
use Rattle.def_grammar.specs.Script.{Directed, broken_within}
use Rattle.wh_script.proofs.Walks.{alone-all, alone-first, step-fault, step-then}
use Rattle.wh_script.specs.Pieces.{line_of}
use Rattle.wh_script.specs.Sections.{meant}
use Rattle.wh_script.proofs.pieces.read_alone.Goals as goal

pub returns-in-Ok : goal.returns-in-Ok
returns-in-Ok c =
    let bytes = c.args.at.now.bytes.now in
    let valid = c.args.at.now.valid in
    let place = c.args.at.now.mark.place in
    let size = length c.line_from-size.result.now in
    let all = alone-all bytes valid place size c.args.directive.now c.requires.directive.0 c.requires.directive.1 c.requires.directive.2 c.requires.alone c.line_from-size.ensures.len in
    let first = alone-first bytes place c.args.at.now.mark.line (meant c.args.directive.now) c.args.draft (Ok c.in-Ok.draft) c.requires.position.3 c.in-Ok.ensures.gives in
    step-then bytes valid place (place + size) c.args.draft c.in-Ok.draft (Directed (line_of bytes place) (meant c.args.directive.now) ∷ []) (broken_within valid place size) c.walk_on.result first c.walk_on.ensures all (omega (arith, c.line_from-size.ensures.some c.requires.directive.0)) c.line_from-size.ensures.within

pub returns-in-Err : goal.returns-in-Err
returns-in-Err c =
    let bytes = c.args.at.now.bytes.now in
    let valid = c.args.at.now.valid in
    let place = c.args.at.now.mark.place in
    let size = length c.line_from-size.result.now in
    let all = alone-all bytes valid place size c.args.directive.now c.requires.directive.0 c.requires.directive.1 c.requires.directive.2 c.requires.alone c.line_from-size.ensures.len in
    let first = alone-first bytes place c.args.at.now.mark.line (meant c.args.directive.now) c.args.draft (Err c.in-Err.fault) c.requires.position.3 c.in-Err.ensures.gives in
    step-fault bytes valid place (place + size) c.args.draft (Directed (line_of bytes place) (meant c.args.directive.now) ∷ []) (broken_within valid place size) c.in-Err.fault first all
