use Rattle.std.proofs.Common.{sym, refl, subst, Option}
use Rattle.std.specs.Option.{IsSome}
use Rattle.scn_lock.proofs.Closing.{closes, ends}
use Rattle.scn_lock.proofs.lock.ScnLock.close.Goals as goal

pub unwrap-value-requires : goal.unwrap-value-requires
unwrap-value-requires g c = let t = closes g.C.Journaled.journal g.C.Journaled.number _ _ _ _ c.take.result c.args.pass.live c.requires.first.1 c.requires.first.2 c.requires.alone c.close_with-closed.ensures.values.2 c.take.ensures.value in
    subst (λ (y : Option g.row.C.Denot). IsSome y) (sym t.1) refl

pub returns : goal.returns
returns g c = let end = ends g.C.Journaled.journal g.C.Journaled.number c.args.pass.seat.me.0 c.take.result _
    (closes g.C.Journaled.journal g.C.Journaled.number _ _ _ _ c.take.result c.args.pass.live c.requires.first.1 c.requires.first.2 c.requires.alone c.close_with-closed.ensures.values.2 c.take.ensures.value) c.unwrap-value.ensures in record {
      journal = end.0;
      first = end.1;
      joined = end.2;
      unborn = end.3;
    }
