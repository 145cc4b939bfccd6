use Rattle.std.proofs.Common.{◌≡◌, ◌++◌, ◌∷◌, List, append_assoc, decimal, map, ℕ}
use Rattle.wh_base.specs.Values.{value_text}
use Rattle.def_transcript.specs.Texts.{number_field, op_text, side_text}
use Rattle.wh_render.specs.Pieces.{more_parts}
use Rattle.wh_render.proofs.Parted.{parted-cons}
use Rattle.wh_render.proofs.lines.LogRowVersioned.push_text_in.Goals as goal

-- seven texts, one after another
seven : (o n a b c d e : List ℕ) → (((o ++ ((n ++ a) ++ b)) ++ c) ++ d) ++ e ≡ o ++ (n ++ (a ++ (b ++ (c ++ (d ++ e)))))
seven o n a b c d e = simp append_assoc

pub returns : goal.returns
returns c =
    let row = c.args.self.now in
    let values = map (value_text c.args.version) row.values in
    rw (c.in_ok-push_values.ensures, c.in_ok-push_field-2.ensures, c.in_ok-push_field.ensures, c.in_ok-push_log_numbers.ensures, c.as_slice.ensures.items, c.side_text.ensures, c.op_text.ensures, parted-cons 124 (side_text row.side) values)
    (seven c.args.out.now.items (decimal row.scn) (124 ∷ number_field row.seq) (124 ∷ number_field row.rowid) (124 ∷ op_text row.op) (124 ∷ side_text row.side) (more_parts 124 values))
