use Rattle.std.proofs.Common.{rules, ap, ◌∙◌, not}
use Rattle.std.specs.FinMap as map
use Rattle.indexmap.proofs.CallerLemmas.{filter-RetainsPairs}
use Rattle.wh_base.specs.Values.{value_cmp}
use Rattle.wh_keyindex.specs.Keyed.{Keyed}
use Rattle.wh_keyindex.specs.Marks.{is_marked, unmarked}
use Rattle.wh_keyindex.proofs.Placed.{marked_dropped}
use Rattle.wh_keyindex.proofs.key_index.KeyIndex.drop_places.Goals as goal

pub returns : goal.returns
returns c =
    let gone = c.args.gone.now in
    let kept = filter-RetainsPairs _ (λ e. not (is_marked gone e.1)) _ (λ k v b w g call. search rules) _ _ c.retain.ensures.filtered in
    let places =
    ap (map.from_entries {R = value_cmp}) kept ∙ marked_dropped _ gone c.self.invariant.once
    ∙ ap (λ (k : Keyed). unmarked gone k.places) c.self.view_is in
    λ i. record { places = places i; spare = (c.self.view_is i).spare }
