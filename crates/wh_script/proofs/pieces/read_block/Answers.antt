use Rattle.std.proofs.Common.{Err, Ok, [], ap, arith, drop, length, refl, ◌+◌, ◌-◌, ◌∙◌, ◌≡◌, ◌≤◌, take, ◌∷◌}
use Rattle.def_grammar.specs.Lines.{raw_lines}
use Rattle.def_grammar.specs.Script.{broken_within}
use Rattle.wh_script.proofs.Walks.{block-all, block-first, load_element, step-fault, step-then}
use Rattle.wh_script.specs.Pieces.{behind_line, block_at, block_len}
use Rattle.wh_script.proofs.pieces.read_block.Goals as goal

pub returns-in-Ok : goal.returns-in-Ok
returns-in-Ok c =
    let bytes = c.args.at.now.bytes.now in
    let valid = c.args.at.now.valid in
    let place = c.args.at.now.mark.place in
    let start = place + length c.line_from.result.now in
    let size = c.block_len-size.result in
    let next = start + size + length c.line_from-in-Ok.result.now in
    let begins : start ≡ behind_line bytes place = ap (λ n. place + n) c.line_from.ensures.len in
    let sized : size ≡ block_at bytes start = c.block_len-size.ensures.count ∙ ap (λ xs. block_len (raw_lines xs)) c.split_at.ensures.back in
    let block : c.split_at-2.result.0.now ≡ take size (drop start bytes) = c.split_at-2.ensures.front ∙ ap (take size) c.split_at.ensures.back in
    let within : start + size ≤ length bytes = omega arith in
    let behind : next ≡ behind_line bytes (start + size) = ap (λ n. start + size + n) c.line_from-in-Ok.ensures.len in
    let all = block-all bytes valid place start size next c.args.name c.requires.directive.0 c.requires.directive.1 c.requires.directive.2 begins sized within behind in
    let first = block-first bytes place c.args.at.now.mark.line start size c.args.name c.split_at-2.result.0.now _ c.args.draft (Ok c.in-Ok.draft) c.requires.position.3 begins sized block refl c.in-Ok.ensures.gives in
    step-then bytes valid place next c.args.draft c.in-Ok.draft (load_element bytes place c.args.name ∷ []) (broken_within valid place (start + size - place)) c.walk_on.result first c.walk_on.ensures all (omega (arith, c.line_from.ensures.some c.requires.directive.0)) c.line_from-in-Ok.ensures.within

pub returns-in-Err : goal.returns-in-Err
returns-in-Err c =
    let bytes = c.args.at.now.bytes.now in
    let valid = c.args.at.now.valid in
    let place = c.args.at.now.mark.place in
    let start = place + length c.line_from.result.now in
    let size = c.block_len-size.result in
    let begins : start ≡ behind_line bytes place = ap (λ n. place + n) c.line_from.ensures.len in
    let sized : size ≡ block_at bytes start = c.block_len-size.ensures.count ∙ ap (λ xs. block_len (raw_lines xs)) c.split_at.ensures.back in
    let block : c.split_at-2.result.0.now ≡ take size (drop start bytes) = c.split_at-2.ensures.front ∙ ap (take size) c.split_at.ensures.back in
    let within : start + size ≤ length bytes = omega arith in
    let all = block-all bytes valid place start size (behind_line bytes (start + size)) c.args.name c.requires.directive.0 c.requires.directive.1 c.requires.directive.2 begins sized within refl in
    let first = block-first bytes place c.args.at.now.mark.line start size c.args.name c.split_at-2.result.0.now _ c.args.draft (Err c.in-Err.fault) c.requires.position.3 begins sized block refl c.in-Err.ensures.gives in
    step-fault bytes valid place (behind_line bytes (start + size)) c.args.draft (load_element bytes place c.args.name ∷ []) (broken_within valid place (start + size - place)) c.in-Err.fault first all
