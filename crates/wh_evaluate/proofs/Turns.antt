-- Steps of the loops over items and tuples.
use Rattle.std.proofs.Common.{◌≡◌, ◌+◌, List, [], ◌∷◌, ◌++◌, map}
use Rattle.std.proofs.lemmas.List.{append_assoc, append-nil}
use Rattle.wh_base.specs.declared.queries.StarQuery.{StarQuery}
use Rattle.wh_base.specs.declared.tables.RowAt.{RowAt}
use Rattle.wh_base.specs.declared.values.Value.{Value}
use Rattle.wh_base.specs.declared.views.ViewEntry.{ViewEntry}
use Rattle.def_meaning.specs.Joined.{column_value}
use Rattle.def_meaning.specs.Meaning.{plain_entries, plain_item}

-- the row of a tuple
abbrev pub plain_row : StarQuery → List RowAt → List Value
plain_row q t = map (plain_item (column_value q.tables t)) q.items

-- the rows of tuples
abbrev pub plain_rows : StarQuery → List (List RowAt) → List (List Value)
plain_rows q ts = map (λ t. map (plain_item (column_value q.tables t)) q.items) ts

-- the entry of a tuple
abbrev pub plain_entry : StarQuery → List RowAt → ViewEntry
plain_entry q t = record { key = []; row = plain_row q t }

-- the row of a tuple that came behind those so far, and those to come
pub rows-push : (q : StarQuery) (rest : List (List RowAt)) (t : List RowAt) (done : List (List Value)) → (done ++ plain_row q t ∷ []) ++ plain_rows q rest ≡ done ++ plain_rows q (t ∷ rest)
rows-push q rest t done = append_assoc done (plain_row q t ∷ []) (plain_rows q rest)

pub entries-push :
    (q : StarQuery) (rest : List (List RowAt)) (t : List RowAt) (done : List ViewEntry)
    → (done ++ plain_entry q t ∷ []) ++ plain_entries (column_value q.tables) q rest ≡ done ++ plain_entries (column_value q.tables) q (t ∷ rest)
entries-push q rest t done = append_assoc done (plain_entry q t ∷ []) (plain_entries (column_value q.tables) q rest)

pub ruleset turns = (append-nil)
