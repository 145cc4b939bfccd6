-- What a pass over tuples stands on.
use Rattle.std.proofs.Common.{◌≡◌, ◌∙◌, ◌<◌, ◌≤◌, ◌^◌, sym, arith, List, [], ◌∷◌, ◌++◌, length, map}
use Rattle.std.specs.List.{list_all}
use Rattle.std.proofs.lemmas.Bool.{and_parts}
use Rattle.std.proofs.lemmas.List.{length-append}
use Rattle.std.proofs.lemmas.List.Folds.{list_all-append}
use Rattle.def_meaning.specs.Accumulated.{query_aggs}
use Rattle.def_meaning.specs.Joined.{column_value}
use Rattle.wh_base.specs.declared.queries.StarQuery.{StarQuery}
use Rattle.wh_base.specs.declared.tables.RowAt.{RowAt}
use Rattle.wh_tuple.specs.Meant.{IsSmallTuple, is_small_row}
use Rattle.wh_base.specs.declared.columns.Agg.{Agg}
use Rattle.wh_base.specs.declared.columns.ColRef.{ColRef}
use Rattle.wh_base.specs.declared.values.Value.{Value}
use Rattle.def_meaning.specs.Meaning.{groups}
use Rattle.wh_group.specs.Tallies.{AreSmallTuples, HasSmallAggs, HaveRoom, first_groups, groups_with, kept, kept_groups}
use Rattle.wh_group.proofs.Rooms.{each_small, groups_room}
use Rattle.wh_group.proofs.Kept.{groups-none, groups-push, groups-single}

pub groups-first : {T : Type 0} (value : T → ColRef → Value) (keys : List ColRef) (aggs : List Agg) → first_groups keys aggs ≡ map (kept value aggs) (groups value keys [])
groups-first value [] aggs = sym (groups-single value aggs)
groups-first value (c ∷ more) aggs = sym (groups-none value aggs c more)

pub tuples-more : (q : StarQuery) (ts : List (List RowAt)) (t : List RowAt)
    → groups_with q (query_aggs q) t (kept_groups (column_value q.tables) q ts) ≡ kept_groups (column_value q.tables) q (ts ++ t ∷ [])
tuples-more q ts t = sym (groups-push (column_value q.tables) (query_aggs q) q.keys ts t)

-- what is so of all tuples is so of those that came, and of the next one
pub small-parts : (done rest : List (List RowAt)) (t : List RowAt) → AreSmallTuples (done ++ t ∷ rest) → AreSmallTuples done × IsSmallTuple t
small-parts done rest t small =
    let parts = and_parts (list_all (list_all is_small_row) done) (list_all (list_all is_small_row) (t ∷ rest)) (sym (list_all-append (list_all is_small_row) done (t ∷ rest)) ∙ small) in
    (parts.0, (and_parts (list_all is_small_row t) (list_all (list_all is_small_row) rest) parts.1).0)

pub few-before : (done rest : List (List RowAt)) (t : List RowAt) → length (done ++ t ∷ rest) ≤ 262144 → length done < 2 ^ 20
few-before done rest t few = omega (arith, length-append done (t ∷ rest))

-- there is room for the next tuple
pub next-room : (q : StarQuery) (done rest : List (List RowAt)) (t : List RowAt) → HasSmallAggs q → AreSmallTuples (done ++ t ∷ rest) → length (done ++ t ∷ rest) ≤ 262144 → HaveRoom (kept_groups (column_value q.tables) q done)
next-room q done rest t aggs small few = groups_room q.tables (query_aggs q) aggs q.keys done (each_small done (small-parts done rest t small).0) (few-before done rest t few)

pub ruleset counting = (groups-first)
