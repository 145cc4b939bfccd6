-- No tuple has a row of a partition that the conditions don't admit, so the rows that are read have the tuples of all rows.
use Rattle.std.proofs.Common.{◌≡◌, ◌∙◌, sym, ap, refl, arith, ℕ, suc, Bool, true, false, cond, not, List, [], ◌∷◌, ◌++◌, Option, Some, None, get_or, map}
use Rattle.std.proofs.lemmas.Bool.{and_parts, eq-eqb, not-true, or_right}
use Rattle.std.proofs.lemmas.List.Elements.{filter-append}
use Rattle.std.specs.List.{All, filter, flat_map, list_all, list_any}
use Rattle.std.specs.Prelude.{◌&&◌, ◌==◌, ◌||◌}
use Rattle.wh_base.specs.Lists.{has_number}
use Rattle.wh_base.specs.Tables.{value_at, with_intervals}
use Rattle.wh_base.specs.Values.{interval_has}
use Rattle.wh_base.specs.declared.columns.ColPart.TheVariants.{Col}
use Rattle.wh_base.specs.declared.columns.ColRef.{ColRef}
use Rattle.wh_base.specs.declared.queries.Edge.{Edge}
use Rattle.wh_base.specs.declared.queries.StarQuery.{StarQuery}
use Rattle.wh_base.specs.declared.tables.Part.{Part}
use Rattle.wh_base.specs.declared.tables.RowAt.{RowAt}
use Rattle.wh_base.specs.declared.values.Interval.{Interval}
use Rattle.wh_base.specs.declared.values.Value.{Value}
use Rattle.def_meaning.specs.Joined.{column_value, conditions_true, edge_true, joined_over, part_value, product, row_of, tuple_true}
use Rattle.def_meaning.specs.Ranges.{Seen, admitted_parts, admitted_rows, equal_columns, misses, query_range}
use Rattle.law_lists.proofs.Lists.{filter-map}
use Rattle.wh_star.proofs.Meant.{outside-root}
use Rattle.wh_star.proofs.Products.{filter-false}
use Rattle.wh_star.proofs.Spread.{equal-have}
use Rattle.wh_star.proofs.Within.{never-misses, ranges-within}
use Rattle.wh_star.specs.Found.{IsJoinTree}
use Rattle.wh_star.specs.Lookups.{rows_seen}
use Rattle.wh_star.specs.Marked.{AreMarked, CanPrune, is_marked, is_pair, without_pairs}

-- ---- a row of a tuple stands in an admitted partition

-- the number of a partition that isn't missed is among the admitted ones
module _ (missed has : Interval → Bool) (mark : ℕ) (never : (i : Interval) → has i ≡ true → missed i ≡ false) where
  marked-admitted : (ps : List (Part × Interval)) → list_any (λ p. (p.0.number == mark) && has p.1) ps ≡ true → has_number (map (λ p. p.0.number) (filter (λ p. not (missed p.1)) ps)) mark ≡ true
  marked-admitted [] h = cc
  marked-admitted (p ∷ ps) h = by ((p.0.number == mark) && has p.1) refl h (marked-admitted ps)
    where
      kept : (b : Bool) (qs : List (Part × Interval)) → has_number (map (λ r. r.0.number) qs) mark ≡ true → has_number (map (λ r. r.0.number) (cond b (p ∷ qs) qs)) mark ≡ true
      kept false qs k = k
      kept true qs k = or_right (p.0.number == mark) (has_number (map (λ r. r.0.number) qs) mark) k

      by : (b : Bool) → ((p.0.number == mark) && has p.1) ≡ b → (b || list_any (λ r. (r.0.number == mark) && has r.1) ps) ≡ true
          → (list_any (λ r. (r.0.number == mark) && has r.1) ps ≡ true → has_number (map (λ r. r.0.number) (filter (λ r. not (missed r.1)) ps)) mark ≡ true)
          → has_number (map (λ r. r.0.number) (cond (not (missed p.1)) (p ∷ filter (λ r. not (missed r.1)) ps) (filter (λ r. not (missed r.1)) ps))) mark ≡ true
      by true e k rest =
          let parts = and_parts (p.0.number == mark) (has p.1) e in
          let stays : missed p.1 ≡ false = never p.1 parts.1 in
          ap (λ b. has_number (map (λ r. r.0.number) (cond (not b) (p ∷ filter (λ r. not (missed r.1)) ps) (filter (λ r. not (missed r.1)) ps))) mark) stays
          ∙ ap (λ b. b || has_number (map (λ r. r.0.number) (filter (λ r. not (missed r.1)) ps)) mark) parts.0
      by false e k rest = kept (not (missed p.1)) (filter (λ r. not (missed r.1)) ps) (rest k)

-- the value of a column of the root in a tuple that begins with this row
root-value : (root : ℕ) (further : List ℕ) (r : RowAt) (rest : List RowAt) (key : ℕ) → column_value (root ∷ further) (r ∷ rest) (record { table = root; part = Col key }) ≡ value_at r.values key
root-value root further r rest key =
    let first : (root == root) ≡ true = eq-eqb root root refl in
    ap (λ b. part_value (cond b r (row_of further rest root)) (Col key)) first

-- a tuple that is true has a row of the root in an admitted partition
true-admitted :
    (q : StarQuery) (further : List ℕ) (parts : List Part) (key : ℕ) (r : RowAt) (rest : List RowAt)
    → q.tables ≡ q.root ∷ further → list_all without_pairs q.conditions ≡ true
    → (is_marked parts key r && not (is_pair (value_at r.values key))) ≡ true → tuple_true q (r ∷ rest) ≡ true
    → has_number (admitted_parts q parts key) r.mark ≡ true
true-admitted q further parts key r rest tables plain marked holds =
    let column : ColRef = record { table = q.root; part = Col key } in
    let value : ColRef → Value = column_value q.tables (r ∷ rest) in
    let trues = and_parts (list_all (edge_true value) q.edges) (conditions_true value q.conditions) holds in
    let here : value column ≡ value_at r.values key = ap (λ ts. column_value ts (r ∷ rest) column) tables ∙ root-value q.root further r rest key in
    let marks = and_parts (is_marked parts key r) (not (is_pair (value_at r.values key))) marked in
    let plain_key : is_pair (value column) ≡ false = ap is_pair here ∙ not-true (is_pair (value_at r.values key)) marks.1 in
    let within = ranges-within value (value column) (equal_columns q.edges column) (equal-have value q.edges column trues.0) plain_key q.conditions plain trues.1 in
    marked-admitted (misses q column) (λ i. interval_has i (value_at r.values key)) r.mark
    (λ i h. never-misses (value column) (query_range q column) i within (ap (interval_has i) here ∙ h))
    (with_intervals None parts) marks.0

-- ---- products without rows that are in no tuple

module _ (kept : RowAt → Bool) (holds : List RowAt → Bool) (all : List (List RowAt)) where
  never-holds : (r : RowAt) → ((rest : List RowAt) → holds (r ∷ rest) ≡ false) → filter holds (map (λ rest. r ∷ rest) all) ≡ []
  never-holds r none =
      filter-map holds (λ rest. r ∷ rest) all
      ∙ (λ i. map (λ rest. r ∷ rest) (filter (λ rest. none rest i) all))
      ∙ ap (map (λ rest. r ∷ rest)) (filter-false all)

  pruned-rows :
      (rows : List RowAt) → All (λ r. (rest : List RowAt) → kept r ≡ false → holds (r ∷ rest) ≡ false) rows
      → filter holds (flat_map (λ r. map (λ rest. r ∷ rest) all) (filter kept rows)) ≡ filter holds (flat_map (λ r. map (λ rest. r ∷ rest) all) rows)
  pruned-rows [] none = refl
  pruned-rows (r ∷ rs) none = by (kept r) refl (pruned-rows rs (λ k d h. none (suc k) d (omega arith)))
    where
      by : (b : Bool) → kept r ≡ b
          → filter holds (flat_map (λ x. map (λ rest. x ∷ rest) all) (filter kept rs)) ≡ filter holds (flat_map (λ x. map (λ rest. x ∷ rest) all) rs)
          → filter holds (flat_map (λ x. map (λ rest. x ∷ rest) all) (cond b (r ∷ filter kept rs) (filter kept rs)))
          ≡ filter holds (map (λ rest. r ∷ rest) all ++ flat_map (λ x. map (λ rest. x ∷ rest) all) rs)
      by true e rest =
          filter-append holds (map (λ more. r ∷ more) all) (flat_map (λ x. map (λ more. x ∷ more) all) (filter kept rs))
          ∙ ap (λ ts. filter holds (map (λ more. r ∷ more) all) ++ ts) rest
          ∙ sym (filter-append holds (map (λ more. r ∷ more) all) (flat_map (λ x. map (λ more. x ∷ more) all) rs))
      by false e rest =
          rest
          ∙ sym (ap (λ ts. ts ++ filter holds (flat_map (λ x. map (λ more. x ∷ more) all) rs)) (never-holds r (λ more. none 0 r (omega arith) more e)))
          ∙ sym (filter-append holds (map (λ more. r ∷ more) all) (flat_map (λ x. map (λ more. x ∷ more) all) rs))

-- ---- the tuples

far-same : (q : StarQuery) (see : ℕ → Seen) (es : List Edge) → All (λ e. (e.to.table == q.root) ≡ false) es → map (rows_seen q see) (map (λ e. e.to.table) es) ≡ map (λ n. (see n).rows) (map (λ e. e.to.table) es)
far-same q see [] outside = refl
far-same q see (e ∷ es) outside =
    let here : rows_seen q see e.to.table ≡ (see e.to.table).rows =
    ap (λ b. cond b (admitted_rows q (see e.to.table)) (see e.to.table).rows) (outside 0 e (omega arith)) in
    let later = far-same q see es (λ k d h. outside (suc k) d (omega arith)) in
    λ i. here i ∷ later i

root-pruned :
    (q : StarQuery) (further : List ℕ) (all : List (List RowAt)) (key : Option ℕ) (parts : List Part) (rows : List RowAt)
    → q.tables ≡ q.root ∷ further → list_all without_pairs q.conditions ≡ true → AreMarked key parts rows
    → filter (tuple_true q) (flat_map (λ r. map (λ rest. r ∷ rest) all) (admitted_rows q (record { rows = rows; part_key = key; parts = parts })))
    ≡ filter (tuple_true q) (flat_map (λ r. map (λ rest. r ∷ rest) all) rows)
root-pruned q further all None parts rows tables plain marked = refl
root-pruned q further all (Some key) parts rows tables plain marked =
    pruned-rows (λ r. has_number (admitted_parts q parts key) r.mark) (tuple_true q) all rows
    (λ k d h rest out. by (get_or rows k d) rest out (marked k d h) (tuple_true q (get_or rows k d ∷ rest)) refl)
  where
    by : (r : RowAt) (rest : List RowAt) → has_number (admitted_parts q parts key) r.mark ≡ false → (is_marked parts key r && not (is_pair (value_at r.values key))) ≡ true → (b : Bool) → tuple_true q (r ∷ rest) ≡ b → b ≡ false
    by r rest out mark false e = refl
    by r rest out mark true e =
        let said : has_number (admitted_parts q parts key) r.mark ≡ true = true-admitted q further parts key r rest tables plain mark e in
        cc

-- the rows of the admitted partitions have the tuples of all rows, in the same order
pub joined-pruned : (q : StarQuery) (see : ℕ → Seen) → IsJoinTree q → CanPrune q see → joined_over q (rows_seen q see) ≡ joined_over q (λ n. (see n).rows)
joined-pruned q see tree can =
    let further : List ℕ = map (λ e. e.to.table) q.edges in
    let first : (q.root == q.root) ≡ true = eq-eqb q.root q.root refl in
    let root : rows_seen q see q.root ≡ admitted_rows q (see q.root) = ap (λ b. cond b (admitted_rows q (see q.root)) (see q.root).rows) first in
    let far : map (rows_seen q see) further ≡ map (λ n. (see n).rows) further = far-same q see q.edges (outside-root q tree) in
    let all : List (List RowAt) = product (map (λ n. (see n).rows) further) in
    ap (λ ts. filter (tuple_true q) (product (map (rows_seen q see) ts))) tree.1.0
    ∙ (λ i. filter (tuple_true q) (product (root i ∷ far i)))
    ∙ root-pruned q further all (see q.root).part_key (see q.root).parts (see q.root).rows tree.1.0 can.0 can.1
    ∙ sym (ap (λ ts. filter (tuple_true q) (product (map (λ n. (see n).rows) ts))) tree.1.0)
