use Rattle.std.proofs.Common.{map, append_assoc}
use Rattle.wh_render.proofs.Parted.{parted-cons}
use Rattle.wh_render.proofs.fields.push_parted.Goals as goal

pub returns : goal.returns
returns g c =
    let rest = map g.T.Printed.text c.in-Some.rest.now in
    rw (c.in_ok-push_more.ensures, c.in_ok-push_text.ensures, c.in-Some.ensures.cases.0, parted-cons c.args.mark (g.T.Printed.text c.in-Some.first.now) rest) (simp append_assoc)
