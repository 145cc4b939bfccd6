use Rattle.std.proofs.Common.{arith, sym, subst, List}
use Rattle.std.specs.List.{IsDistinct}
use Rattle.std.specs.Ordering.{eq_by_cmp}
use Rattle.indexmap.specs.IndexMap.{keys}
use Rattle.wh_base.specs.Values.{value_cmp}
use Rattle.wh_base.specs.declared.values.Value.{Value}
use Rattle.wh_keyindex.specs.Tied.{AreKnown}
use Rattle.wh_keyindex.proofs.Numbered.{counted_there, counts_removed, known_removed}
use Rattle.wh_keyindex.proofs.child_index.ChildIndex.remove.Goals as goal

pub count_down-requires-clause-counted : goal.count_down-requires-clause-counted
count_down-requires-clause-counted c = counted_there c.self.inside.counts c.self.inside.numbers c.args.place c.in-Some.number c.self.invariant.counted (sym c.in-Some.ensures.value)

pub invariant_of-self : goal.invariant_of-self
invariant_of-self c =
    let same = sym c.count_down.ensures.values in
    let old = c.self.inside.numbers in
    let new = c.swap_remove.new.self in
    record {
      numbers_room = let had = c.self.invariant.numbers_room in let kept = c.swap_remove.ensures.room.0 in omega (arith, had, kept);
      counts_room = let had = c.self.invariant.counts_room in let kept = c.count_down.ensures.room in omega (arith, had, kept);
      numbers_once = c.swap_remove.ensures.unique;
      counts_once = subst (λ (known : List Value). IsDistinct (eq_by_cmp value_cmp) known) same c.self.invariant.counts_once;
      known = subst (λ (known : List Value). AreKnown known new) same (known_removed (keys c.self.inside.counts) old new c.args.place c.swap_remove.ensures.updates c.self.invariant.known);
      counted = counts_removed c.self.inside.counts c.count_down.new.counts old new c.args.place c.in-Some.number c.count_down.ensures.values c.count_down.ensures.counted c.swap_remove.ensures.updates (sym c.in-Some.ensures.value) c.self.invariant.counted;
    }
