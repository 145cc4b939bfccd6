use Rattle.std.proofs.Common.{arith, ap, sym, subst, ◌∙◌, ◌<◌, ◌≤◌, List}
use Rattle.std.specs.List.{All}
use Rattle.std.specs.List.Sorted.{IsNonDecreasingBy}
use Rattle.wh_base.specs.declared.logs.LogRow.{LogRow}
use Rattle.wh_log.specs.Buffered.{Buffered}
use Rattle.wh_log.specs.Held.{Held}
use Rattle.wh_log.specs.Log.{scn_of}
use Rattle.wh_log.proofs.Orders.{above_push, ordered_push}
use Rattle.wh_log.proofs.log.MvLog.push_side.Goals as goal

pub invariant_of-self : goal.invariant_of-self
invariant_of-self c =
    let above : c.self.inside.facts.from < c.args.scn = subst (λ (h : Held). h.facts.from < c.args.scn) (sym c.self.view_is) c.requires.above in
    let latest : All (λ (r : LogRow). r.scn ≤ c.args.scn) c.self.inside.rows.items = subst (λ (h : Held). All (λ (r : LogRow). r.scn ≤ c.args.scn) h.rows) (sym c.self.view_is) c.requires.latest in
    let some : 0 < c.self.inside.buffers.count = subst (λ (h : Held). 0 < h.room) (sym c.self.view_is) c.requires.room in
    record {
      width = ap (λ (b : Buffered). b.width) c.take-buffer.ensures.rest ∙ c.self.invariant.width;
      room = omega (arith, some, ap (λ (b : Buffered). b.count) c.take-buffer.ensures.rest, c.push_within.ensures.len, c.push_within.ensures.capacity, c.self.invariant.room);
      above = subst (λ (rows : List LogRow). All (λ (r : LogRow). c.self.inside.facts.from < r.scn) rows) (sym c.push_within.ensures.items) (above_push _ _ _ c.self.invariant.above above);
      ordered = subst (λ (rows : List LogRow). IsNonDecreasingBy scn_of rows) (sym c.push_within.ensures.items) (ordered_push _ _ c.self.invariant.ordered latest);
    }
