-- No condition of a star form compares with a pair: a literal is none.
use Rattle.std.proofs.Common.{◌≡◌, ◌∙◌, refl, true, not, List, [], ◌∷◌, map}
use Rattle.std.proofs.lemmas.Bool.{and_from}
use Rattle.std.proofs.lemmas.List.Folds.{list_all-append}
use Rattle.std.specs.List.{flat_map, list_all}
use Rattle.std.specs.Prelude.{◌&&◌}
use Rattle.wh_base.specs.Values.{literal_value}
use Rattle.wh_base.specs.declared.columns.ColRef.{ColRef}
use Rattle.wh_base.specs.declared.queries.ColName.{ColName}
use Rattle.wh_base.specs.declared.queries.RawCondition.{RawCondition}
use Rattle.wh_base.specs.declared.queries.RawCondition.TheVariants as raw
use Rattle.wh_base.specs.declared.values.Literal.{Literal}
use Rattle.wh_base.specs.declared.values.Literal.TheVariants.{Dated, Number, Quoted}
use Rattle.def_resolve.specs.Resolve.{resolved_condition}
use Rattle.wh_star.specs.Marked.{is_pair, no_pairs, without_pairs}

pub literal_plain : (l : Literal) → not (is_pair (literal_value l)) ≡ true
literal_plain (Number n) = refl
literal_plain (Quoted []) = refl
literal_plain (Quoted (b ∷ bs)) = refl
literal_plain (Dated n) = refl

pub literals_plain : (ls : List Literal) → no_pairs (map literal_value ls) ≡ true
literals_plain [] = refl
literals_plain (l ∷ ls) = and_from (not (is_pair (literal_value l))) (no_pairs (map literal_value ls)) (literal_plain l) (literals_plain ls)

pub condition_plain : (column : ColName → ColRef) (c : RawCondition) → list_all without_pairs (resolved_condition column c) ≡ true
condition_plain column (raw.Compare c op l) = and_from (not (is_pair (literal_value l))) true (literal_plain l) refl
condition_plain column (raw.Between c l m) =
    and_from (not (is_pair (literal_value l))) (not (is_pair (literal_value m)) && true) (literal_plain l)
    (and_from (not (is_pair (literal_value m))) true (literal_plain m) refl)
condition_plain column (raw.Equal a b) = refl
condition_plain column (raw.OneOf c ls) = and_from (no_pairs (map literal_value ls)) true (literals_plain ls) refl
condition_plain column (raw.IsNull c) = refl
condition_plain column (raw.NotNull c) = refl

pub conditions_plain : (column : ColName → ColRef) (cs : List RawCondition) → list_all without_pairs (flat_map (resolved_condition column) cs) ≡ true
conditions_plain column [] = refl
conditions_plain column (c ∷ cs) =
    let here = resolved_condition column c in
    let rest = flat_map (resolved_condition column) cs in
    list_all-append without_pairs here rest
    ∙ and_from (list_all without_pairs here) (list_all without_pairs rest) (condition_plain column c) (conditions_plain column cs)
