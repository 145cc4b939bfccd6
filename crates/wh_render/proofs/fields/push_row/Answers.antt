use Rattle.std.proofs.Common.{map, append_assoc}
use Rattle.wh_base.specs.Values.{value_text}
use Rattle.wh_render.proofs.Parted.{parted-cons}
use Rattle.wh_render.proofs.fields.push_row.Goals as goal

pub returns : goal.returns
returns c =
    let rest = map (value_text c.args.version) c.in-Some.rest.now in
    rw (c.in_ok-push_values.ensures, c.in_ok-push_value.ensures, c.in-Some.ensures.cases.0, parted-cons 124 (value_text c.args.version c.in-Some.first.now) rest) (simp append_assoc)
