use Rattle.std.proofs.Common.{ap, length, sym, ◌+◌, ◌∙◌, ◌≡◌}
use Rattle.def_grammar.specs.Lines.{EndScript, directive_on}
use Rattle.wh_script.proofs.Walks.{end-step}
use Rattle.wh_script.specs.Pieces.{line_of}
use Rattle.wh_script.specs.Sections.{directive_in, meant}
use Rattle.wh_script.proofs.pieces.read_line.Goals as goal

pub returns-in-EndScript : goal.returns-in-EndScript
returns-in-EndScript c =
    let bytes = c.args.at.now.bytes.now in
    let place = c.args.at.now.mark.place in
    let directive : directive_on (line_of bytes place) ≡ EndScript =
    ap directive_in (sym c.line_from-line.ensures.line) ∙ sym c.in-Ok.ensures.directive ∙ ap meant c.in-EndScript.is in
    end-step bytes c.args.at.now.valid place (place + length c.line_from-line.result.now) c.args.draft c.requires.some c.requires.no_text directive
    (ap (λ n. place + n) c.line_from-line.ensures.len) c.line_from-line.ensures.within c.requires.built
