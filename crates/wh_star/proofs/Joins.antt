-- Steps of the loops that read and join rows.
use Rattle.std.proofs.Common.{◌≡◌, ◌∙◌, ◌+◌, ◌<◌, ◌≤◌, ℕ, Bool, true, false, cond, List, [], ◌∷◌, ◌++◌, Option, Some, None, length, drop, get_or, refl, ap, append_assoc}
use Rattle.std.proofs.Math.ListN.{drop_of_length-le}
use Rattle.std.proofs.lemmas.List.{append-nil, drop_more}
use Rattle.std.proofs.lemmas.List.Elements.{filter-append, filter_map-append}
use Rattle.std.proofs.lemmas.List.Sums.{sum_by-cons}
use Rattle.std.specs.List.{filter, filter_map}
use Rattle.wh_base.specs.Lists.{option_case}
use Rattle.wh_base.specs.Tables.{Places}
use Rattle.wh_base.specs.declared.columns.ColPart.{ColPart}
use Rattle.wh_base.specs.declared.queries.Edge.{Edge}
use Rattle.wh_base.specs.declared.queries.StarQuery.{StarQuery}
use Rattle.wh_base.specs.declared.tables.RowAt.{RowAt}
use Rattle.def_meaning.specs.Joined.{column_value, conditions_true}
use Rattle.wh_star.specs.Lookups.{Entries, completed_by, entry_added, far_reads, far_rows, indexed, indexed_onto, indexes_of, row_under, rows_in, tuples_from}

-- ---- an index

pub indexed-more : (part : ColPart) (entries : Entries) (rows : List RowAt) (at : ℕ) (d : RowAt) → at < length rows → indexed_onto part entries (drop at rows) ≡ indexed_onto part (entry_added part entries (get_or rows at d)) (drop (at + 1) rows)
indexed-more part entries rows at d h = rw (drop_more rows at d h) refl

pub indexed-done : (part : ColPart) (entries : Entries) (rows : List RowAt) (at : ℕ) → length rows ≤ at → indexed_onto part entries (drop at rows) ≡ entries
indexed-done part entries rows at h = rw (drop_of_length-le rows h) refl

pub ruleset indexing = (indexed-more, indexed-done)

pub all_rows : (rows : List RowAt) → rows_in None rows ≡ rows
all_rows [] = refl
all_rows (r ∷ rs) = ap (λ ts. r ∷ ts) (all_rows rs)

pub ruleset whole = (all_rows)

-- ---- indexes

pub indexes-more : (tables : List Places) (edges : List Edge) (at : ℕ) (d : Edge) → at < length edges → indexes_of tables (drop at edges) ≡ indexed (get_or edges at d).to.part (far_rows tables (get_or edges at d)) ∷ indexes_of tables (drop (at + 1) edges)
indexes-more tables edges at d h = rw (drop_more edges at d h) refl

pub indexes-done : (tables : List Places) (edges : List Edge) (at : ℕ) → length edges ≤ at → indexes_of tables (drop at edges) ≡ []
indexes-done tables edges at h = rw (drop_of_length-le edges h) refl

pub reads-more : (tables : List Places) (edges : List Edge) (at : ℕ) (d : Edge) → at < length edges → far_reads tables (drop at edges) ≡ length (far_rows tables (get_or edges at d)) + far_reads tables (drop (at + 1) edges)
reads-more tables edges at d h =
    ap (far_reads tables) (drop_more edges at d h) ∙ sum_by-cons (λ e. length (far_rows tables e)) (get_or edges at d) (drop (at + 1) edges)

pub reads-done : (tables : List Places) (edges : List Edge) (at : ℕ) → length edges ≤ at → far_reads tables (drop at edges) ≡ 0
reads-done tables edges at h = rw (drop_of_length-le edges h) refl

pub ruleset indexes = (indexes-more, indexes-done, reads-more, reads-done, append_assoc, append-nil)

-- ---- tuples

pub completed-more :
    (indexes : List Entries) (tables : List ℕ) (tuple : List RowAt) (edges : List Edge) (at : ℕ) (i : Entries) (d : Edge) → at < length indexes → at < length edges
    → completed_by (drop at indexes) tables tuple (drop at edges)
    ≡ option_case (row_under (get_or indexes at i) (column_value tables tuple (get_or edges at d).from)) None (λ r. completed_by (drop (at + 1) indexes) tables (tuple ++ r ∷ []) (drop (at + 1) edges))
completed-more indexes tables tuple edges at i d h k = rw (drop_more indexes at i h, drop_more edges at d k) refl

pub completed-done : (indexes : List Entries) (tables : List ℕ) (tuple : List RowAt) (edges : List Edge) (at : ℕ) → length edges ≤ at → completed_by indexes tables tuple (drop at edges) ≡ Some tuple
completed-done indexes tables tuple edges at h = rw (drop_of_length-le edges h) refl

pub ruleset completing = (completed-more, completed-done)

pub tuple-none : (q : StarQuery) (indexes : List Entries) (root : RowAt) → completed_by indexes q.tables (root ∷ []) q.edges ≡ None → tuples_from q indexes (root ∷ []) ≡ []
tuple-none q indexes root e = rw e refl

pub tuple-some : (q : StarQuery) (indexes : List Entries) (root : RowAt) (tuple : List RowAt) → completed_by indexes q.tables (root ∷ []) q.edges ≡ Some tuple → tuples_from q indexes (root ∷ []) ≡ cond (conditions_true (column_value q.tables tuple) q.conditions) (tuple ∷ []) []
tuple-some q indexes root tuple e = rw e refl

pub ruleset finding = (tuple-none, tuple-some)

pub tuples-more : (q : StarQuery) (indexes : List Entries) (roots : List RowAt) (at : ℕ) (d : RowAt) → at < length roots → tuples_from q indexes (drop at roots) ≡ tuples_from q indexes (get_or roots at d ∷ []) ++ tuples_from q indexes (drop (at + 1) roots)
tuples-more q indexes roots at d h =
    let whole : RowAt → Option (List RowAt) = λ r. completed_by indexes q.tables (r ∷ []) q.edges in
    ap (tuples_from q indexes) (drop_more roots at d h)
    ∙ ap (filter (λ tuple. conditions_true (column_value q.tables tuple) q.conditions)) (filter_map-append whole (get_or roots at d ∷ []) (drop (at + 1) roots))
    ∙ filter-append (λ tuple. conditions_true (column_value q.tables tuple) q.conditions) (filter_map whole (get_or roots at d ∷ [])) (filter_map whole (drop (at + 1) roots))

pub tuples-done : (q : StarQuery) (indexes : List Entries) (roots : List RowAt) (at : ℕ) → length roots ≤ at → tuples_from q indexes (drop at roots) ≡ []
tuples-done q indexes roots at h = rw (drop_of_length-le roots h) refl

-- the next row of the root has this tuple, or none
pub tuples-next : (q : StarQuery) (indexes : List Entries) (roots : List RowAt) (at : ℕ) (d : RowAt) (found : Bool) (tuple : List RowAt) → at < length roots
    → tuples_from q indexes (get_or roots at d ∷ []) ≡ cond found (tuple ∷ []) [] → tuples_from q indexes (drop at roots) ≡ cond found (tuple ∷ tuples_from q indexes (drop (at + 1) roots)) (tuples_from q indexes (drop (at + 1) roots))
tuples-next q indexes roots at d found tuple h e = tuples-more q indexes roots at d h ∙ ap (λ ts. ts ++ tuples_from q indexes (drop (at + 1) roots)) e ∙ by found
  where
    by : (b : Bool) → cond b (tuple ∷ []) [] ++ tuples_from q indexes (drop (at + 1) roots) ≡ cond b (tuple ∷ tuples_from q indexes (drop (at + 1) roots)) (tuples_from q indexes (drop (at + 1) roots))
    by true = refl
    by false = refl

pub ruleset joining = (tuples-next, tuples-done)
