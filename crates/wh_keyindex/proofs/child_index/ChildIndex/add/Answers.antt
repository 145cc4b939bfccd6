use Rattle.std.proofs.Common.{arith, sym, ap, ◌∙◌, ◌+◌, ◌-◌}
use Rattle.std.specs.FinMap as fin
use Rattle.wh_keyindex.specs.Children.{Children, Values, places_with}
use Rattle.wh_keyindex.proofs.Numbered.{counts_added, known_added, values_added}
use Rattle.wh_keyindex.proofs.child_index.ChildIndex.add.Goals as goal

pub invariant_of-self : goal.invariant_of-self
invariant_of-self c =
    let counts = c.self.inside.counts in
    let more = c.insert_full.new.self in
    let old = c.self.inside.numbers in
    let new = c.insert.new.self in
    let value = c.args.value in
    let place = c.args.place in
    let count = c.count-count.result in
    let entries = c.in-Ok.ensures.entries in
    let shown = ap (λ (k : Children). k.values) c.self.view_is in
    let one_more = ap (λ n. n + 1) (c.count-count.ensures ∙ ap (places_with value) (sym shown)) in
    let absent = ap (λ (values : Values). fin.get values place) shown ∙ c.requires.absent in
    record {
      numbers_room = let had = c.self.invariant.numbers_room in let left = c.insert.ensures.spare in omega (arith, had, left);
      counts_room = let had = c.self.invariant.counts_room in let left = c.insert_full.ensures.spare in omega (arith, had, left);
      numbers_once = c.insert.ensures.unique;
      counts_once = c.insert_full.ensures.unique;
      known = known_added counts more old new place c.in-Ok.number (count + 1) value entries c.in-Ok.ensures.within c.in-Ok-insert.ensures.updates c.self.invariant.known;
      counted = counts_added counts more old new place c.in-Ok.number (count + 1) value entries c.in-Ok.ensures.index c.in-Ok-insert.ensures.updates c.self.invariant.known c.in-Ok.ensures.updates one_more absent c.self.invariant.counted;
    }

pub returns : goal.returns
returns c =
    let values =
    values_added c.self.inside.counts c.insert_full.new.self c.self.inside.numbers c.insert.new.self c.args.place c.in-Ok.number (c.count-count.result + 1) c.args.value c.in-Ok.ensures.entries
    c.in-Ok.ensures.index c.in-Ok-insert.ensures.updates c.self.invariant.known
    ∙ ap (λ (k : Children). fin.insert k.values c.args.place c.args.value) c.self.view_is in
    λ i. record { values = values i; spare = (c.self.view_is i).spare - 1 }
