use Rattle.std.proofs.Common.{◌∙◌, sym, ap}
use Rattle.std.specs.FinMap as map
use Rattle.indexmap.specs.IndexMap.{keys}
use Rattle.wh_keyindex.specs.Children.{Children}
use Rattle.wh_keyindex.proofs.Numbered.{none_found, value_found}
use Rattle.wh_keyindex.proofs.child_index.ChildIndex.value.Goals as goal

pub returns-in-Some : goal.returns-in-Some
returns-in-Some c =
    c.known_value.ensures
    ∙ value_found (keys c.self.inside.counts) c.self.inside.numbers c.args.place c.in-Some.number.now c.self.invariant.known (sym c.in-Some.ensures.value)
    ∙ ap (λ (k : Children). map.get k.values c.args.place) c.self.view_is

pub returns-in-None : goal.returns-in-None
returns-in-None c =
    none_found (keys c.self.inside.counts) c.self.inside.numbers c.args.place (sym c.in-None.ensures.value)
    ∙ ap (λ (k : Children). map.get k.values c.args.place) c.self.view_is
