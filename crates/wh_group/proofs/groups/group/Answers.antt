use Rattle.std.proofs.Common.{◌≡◌, ◌∙◌, ◌≤◌, ◌++◌, ◌∷◌, [], List, length, ap, refl, subst, sym}
use Rattle.std.specs.Prelude.{cond}
use Rattle.std.proofs.lemmas.List.{append_assoc}
use Rattle.wh_base.specs.declared.tables.RowAt.{RowAt}
use Rattle.def_meaning.specs.Accumulated.{query_aggs}
use Rattle.def_meaning.specs.Joined.{column_value}
use Rattle.wh_group.specs.Tallies.{AreSmallTuples, HaveRoom, first_groups, groups_with}
use Rattle.wh_group.proofs.Counting.{groups-first, next-room, tuples-more}
use Rattle.wh_group.proofs.groups.group.Goals as goal

pub tuples-init : goal.tuples-init
tuples-init g c =
    let query = c.args.query.now in
    let aggs : c.as_slice-2.result.now ≡ query_aggs query = c.as_slice-2.ensures.value ∙ c.in_ok-aggs.ensures in (
      [],
      (
        refl,
        c.in_ok-groups.ensures ∙ (λ i. first_groups (c.as_slice.ensures.items i) (aggs i))
            ∙ groups-first (column_value query.tables) query.keys (query_aggs query),
      ),
    )

pub add_tuple-requires-clause-room : goal.add_tuple-requires-clause-room
add_tuple-requires-clause-room g c =
    let done : List (List RowAt) = c.tuples.invariant.0 in
    let tuple : List RowAt = c.next.new.tuple.items in
    let rest : List (List RowAt) = g.S.TupleSource.left c.next.new.self in
    let all : done ++ tuple ∷ rest ≡ g.S.TupleSource.left c.args.source.now =
    ap (λ ts. done ++ ts) (sym (c.in_ok-next.ensures ∙ ap (λ found. cond found (tuple ∷ rest) []) c.if-branch.true)) ∙ c.tuples.invariant.1.0 in
    subst HaveRoom (sym c.tuples.invariant.1.1)
    (next-room c.args.query.now done rest tuple c.requires.aggs
    (subst AreSmallTuples (sym all) c.requires.tuples)
    (subst (λ (ts : List (List RowAt)). length ts ≤ 262144) (sym all) c.requires.few))

pub tuples-preserved : goal.tuples-preserved
tuples-preserved g c =
    let query = c.args.query.now in
    let done : List (List RowAt) = c.tuples.invariant.0 in
    let tuple : List RowAt = c.next.new.tuple.items in
    let rest : List (List RowAt) = g.S.TupleSource.left c.next.new.self in
    let all : done ++ tuple ∷ rest ≡ g.S.TupleSource.left c.args.source.now =
    ap (λ ts. done ++ ts) (sym (c.in_ok-next.ensures ∙ ap (λ found. cond found (tuple ∷ rest) []) c.if-branch.true)) ∙ c.tuples.invariant.1.0 in
    let aggs : c.as_slice-in-tuples.result.now ≡ query_aggs query = c.as_slice-in-tuples.ensures.value ∙ c.in_ok-aggs.ensures in (
      done ++ tuple ∷ [],
      (
        append_assoc done (tuple ∷ []) rest ∙ all,
        c.in_ok-add_tuple.ensures
            ∙ (λ i. groups_with query (aggs i) (c.as_slice-in-tuples-2.ensures.value i) (c.tuples.invariant.1.1 i))
            ∙ tuples-more query done tuple,
      ),
    )
