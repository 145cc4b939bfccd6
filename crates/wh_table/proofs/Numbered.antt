-- Rowids are below 10^15, and no table has partitions.
use Rattle.std.proofs.Common.{◌≡◌, ◌∙◌, ap, refl, arith, ℕ, ◌<◌, ◌≤◌, ◌^◌, true, ◌&&◌, List, [], ◌∷◌, length, map, nat_lt}
use Rattle.std.proofs.lemmas.Bool.{lt-ltb}
use Rattle.std.specs.List.{All, list_all}
use Rattle.wh_base.specs.Values.{number_limit}
use Rattle.wh_base.specs.declared.tables.RowAt.{RowAt}
use Rattle.wh_table.specs.Kept.{no_part}
use Rattle.wh_table.specs.Stored.{IsStored, Stored, base_seen, has_small_numbers, plain_row, rows_living, seen}
use Rattle.wh_table.proofs.Counting.{each_from}
use Rattle.wh_table.proofs.Ordered.{Each, each_sort, each_weaker, sort}
use Rattle.wh_table.proofs.Seen.{IsRowOf, rows_named}

rows_numbered : (rows : List RowAt) → Each (λ r. r.rowid < number_limit) rows → list_all (λ r. nat_lt r.rowid number_limit) (map plain_row rows) ≡ true
rows_numbered [] h = refl
rows_numbered (r ∷ rows) h = ap (λ b. b && list_all (λ r. nat_lt r.rowid number_limit) (map plain_row rows)) (lt-ltb r.rowid number_limit h.0) ∙ rows_numbered rows h.1

table_numbered : (s : Stored) (at : ℕ) → IsStored s → has_small_numbers (seen at s) ≡ true
table_numbered s at h =
    let given : s.given ≤ length s.versions = h.placed in
    let few : length s.versions < 2 ^ 32 = h.bounded in
    let below : Each (λ r. r.rowid < number_limit) (rows_living at s) =
    each_weaker (IsRowOf s.given) (λ r. r.rowid < number_limit) (λ r n. (let last : r.rowid ≤ s.given = n.last in omega (arith, last, given, few))) (rows_living at s) (rows_named s at h) in
    ap (λ b. b && true) (rows_numbered (sort [] (rows_living at s)) (each_sort (λ r. r.rowid < number_limit) [] (rows_living at s) tt below))

each_numbered : (tables : List Stored) (at : ℕ) → Each IsStored tables → list_all has_small_numbers (base_seen at tables) ≡ true
each_numbered [] at h = refl
each_numbered (s ∷ tables) at h = ap (λ b. b && list_all has_small_numbers (base_seen at tables)) (table_numbered s at h.0) ∙ each_numbered tables at h.1

pub base_numbered : (tables : List Stored) (at : ℕ) → All IsStored tables → list_all has_small_numbers (base_seen at tables) ≡ true
base_numbered tables at h = each_numbered tables at (each_from IsStored tables h)

pub base_unparted : (tables : List Stored) (at : ℕ) → map no_part tables ≡ map (λ t. t.parts) (base_seen at tables)
base_unparted [] at = refl
base_unparted (s ∷ tables) at = ap (λ ps. [] ∷ ps) (base_unparted tables at)
