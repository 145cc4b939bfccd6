use Rattle.std.proofs.Common.{rules, ◌≡◌}
use Rattle.scn_lock.specs.Steps.{out_with, raised_with}
use Rattle.scn_lock.proofs.Raising.{raises_at}
use Rattle.scn_lock.proofs.Turning.{gives_at}
use Rattle.scn_lock.proofs.lock.ScnLock.give_back.Goals as goal

pub fetch_add-requires : goal.fetch_add-requires
fetch_add-requires g c = let out : c.exchange-emptied.new.seat.me ≡ (c.args.pass.now.seat.me.0, out_with c.args.value) = search rules in
    (search rules, search rules, raises_at g.C.Journaled.journal g.C.Journaled.number _ _ _ c.args.pass.now.seat.me.0 c.args.value _ out c.args.pass.now.live c.requires.holds.1 c.requires.adds c.requires.counted)

pub load-requires : goal.load-requires
load-requires g c = let out : c.exchange-emptied.new.seat.me ≡ (c.args.pass.now.seat.me.0, out_with c.args.value) = search rules in
    let now = (c.fetch_add.ensures.2 c.args.value (search rules)).0 in
    (search rules, search rules, gives_at g.C.Journaled.journal g.C.Journaled.number _ _ _ (raised_with g.C.Journaled.journal c.args.pass.now.seat.me.0 c.args.value) c.args.value (search rules) c.args.pass.now.live (search rules) (search rules))
