-- New rows of a table beyond its limits: the rows of the definitions come one after another all the same.
use Rattle.std.proofs.Common.{◌≡◌, ◌∙◌, sym, ap, arith, refl, ℕ, ◌+◌, ◌<◌, ◌≤◌, max, true, cond, List, [], ◌∷◌, ◌++◌, map, Option, Some, None, true≢false}
use Rattle.std.proofs.lemmas.Bool.{le-leb}
use Rattle.std.proofs.lemmas.List.{map-append}
use Rattle.std.specs.Prelude.{is_none}
use Rattle.wh_base.specs.Tables.{Row, Table, table_after}
use Rattle.wh_base.specs.declared.tables.RowAt.{RowAt}
use Rattle.wh_base.specs.declared.tables.TableDef.{TableDef}
use Rattle.wh_base.specs.declared.values.Value.{Value}
use Rattle.wh_check.proofs.Made.{Fits, after_more, after_none, as_change, fits}
use Rattle.wh_dml.specs.Changes.{change_of}
use Rattle.wh_dml.specs.Placed.{AreNext, all_made, made, made_of}
use Rattle.wh_dml.specs.declared.changes.PlacedRow.{PlacedRow}
use Rattle.wh_dml.specs.declared.changes.RowChange.{RowChange}
use Rattle.wh_segment.specs.Versions.{born_at}
use Rattle.wh_table.specs.Stored.{IsNamed, IsStored, Stored, given_at, inserted, insertion, last_scn, plain_row, rows_living, seen}
use Rattle.wh_table.proofs.Counting.{each_from, given_append}
use Rattle.wh_table.proofs.Living.{each_version}
use Rattle.wh_table.proofs.Ordered.{Each, each_append, each_sort, each_weaker, put_last, sort, sort_append}
use Rattle.wh_table.proofs.Seen.{new_row, rows_inserted}

-- Each rowid was given, and all of them were by this SCN.
pub record AreNamed (scn : ℕ) (s : Stored) : Type 0 where
  pub each : Each (IsNamed s.given) s.versions
  pub given : given_at scn s.versions ≡ s.given

pub are_named : (scn : ℕ) (s : Stored) → IsStored s → last_scn s.versions ≤ scn → AreNamed scn s
are_named scn s h settled = record { each = each_from (IsNamed s.given) s.versions h.named; given = h.given scn settled }

below_next : (scn : ℕ) (s : Stored) → AreNamed scn s → Each (λ r. r.rowid < s.given + 1) (rows_living scn s)
below_next scn s h =
    each_version (λ r. r.rowid < s.given + 1) scn s.versions
    (each_weaker (IsNamed s.given) (λ v. (values : List Value) → v.rowid < s.given + 1) (λ v n values. (let most : v.rowid ≤ s.given = n.last in omega (arith, most))) s.versions h.each)

table_is : (def : TableDef) (rows more : List Row) (given upto : ℕ) → rows ≡ more → given ≡ upto
    → ◌≡◌ {A = Table} (record { def = def; rows = rows; given = given; parts = []; made = 0 }) (record { def = def; rows = more; given = upto; parts = []; made = 0 })
table_is def rows more given upto p q = λ i. record { def = def; rows = p i; given = q i; parts = []; made = 0 }

given_more : (scn : ℕ) (s : Stored) (values : List Value) → AreNamed scn s → given_at scn (inserted scn values s).versions ≡ s.given + 1
given_more scn s values h =
    let all = h.given in
    given_append scn s.versions (born_at scn (s.given + 1) 0 values) ∙ ap (λ b. max (given_at scn s.versions) (cond b (s.given + 1) 0)) (le-leb scn scn (omega arith)) ∙ omega (arith, all)

inserted_named : (scn : ℕ) (s : Stored) (values : List Value) → AreNamed scn s → AreNamed scn (inserted scn values s)
inserted_named scn s values h = record {
  each = each_append (IsNamed (s.given + 1)) s.versions (born_at scn (s.given + 1) 0 values ∷ [])
      (each_weaker (IsNamed s.given) (IsNamed (s.given + 1)) (λ v n. (let most : v.rowid ≤ s.given = n.last in record { first = n.first; last = omega (arith, most); unmarked = n.unmarked })) s.versions h.each)
      (record { first = omega arith; last = omega arith; unmarked = refl }, tt);
  given = given_more scn s values h;
}

inserted_seen : (scn : ℕ) (s : Stored) (values : List Value) → AreNamed scn s → seen scn (inserted scn values s) ≡ table_after (seen scn s) (insertion s values ∷ [])
inserted_seen scn s values h =
    let row : RowAt = new_row (s.given + 1) values in
    let living : rows_living scn (inserted scn values s) ≡ rows_living scn s ++ row ∷ [] =
    rows_inserted s scn values scn ∙ ap (λ b. cond b (rows_living scn s ++ row ∷ []) (rows_living scn s)) (le-leb scn scn (omega arith)) in
    let rows : map plain_row (sort [] (rows_living scn (inserted scn values s))) ≡ map plain_row (sort [] (rows_living scn s)) ++ plain_row row ∷ [] =
    ap (λ rs. map plain_row (sort [] rs)) living
    ∙ ap (map plain_row) (sort_append [] (rows_living scn s) row ∙ put_last row (sort [] (rows_living scn s)) (each_sort (λ r. r.rowid < s.given + 1) [] (rows_living scn s) tt (below_next scn s h)))
    ∙ map-append plain_row (sort [] (rows_living scn s)) (row ∷ []) in
    let all = h.given in
    let given : given_at scn (inserted scn values s).versions ≡ given_at scn s.versions + 1 = given_more scn s values h ∙ omega (arith, all) in
    table_is s.def _ _ _ _ rows given

inserted_step : (scn : ℕ) (s : Stored) (rowid : ℕ) (old new : Option PlacedRow) → AreNamed scn s → Fits s rowid old new → is_none old ≡ true
    → (seen scn (made_of scn old new s) ≡ table_after (seen scn s) (as_change rowid old new ∷ [])) × AreNamed scn (made_of scn old new s)
inserted_step scn s rowid None None h f none = absurd (f.1.1 refl refl)
inserted_step scn s rowid None (Some r) h f none =
    (inserted_seen scn s r.values h ∙ ap (λ id. table_after (seen scn s) ((record { rowid = id; old = None; new = Some r.values }) ∷ [])) (sym (f.1.0 refl)), inserted_named scn s r.values h)
inserted_step scn s rowid (Some q) new h f none = absurd (true≢false (sym none))

pub all_inserted : (scn : ℕ) (s : Stored) (cs : List RowChange) → AreNamed scn s → AreNext scn s cs → Each (λ (c : RowChange). is_none c.old ≡ true) cs
    → seen scn (all_made scn cs s) ≡ table_after (seen scn s) (map change_of cs)
all_inserted scn s [] h next each = sym (after_none (seen scn s))
all_inserted scn s (c ∷ cs) h next each =
    let first = inserted_step scn s c.rowid c.old c.new h (fits s c next.0) each.0 in
    all_inserted scn (made scn c s) cs first.1 next.1 each.1 ∙ ap (λ t. table_after t (map change_of cs)) first.0 ∙ sym (after_more (seen scn s) (change_of c) (map change_of cs))
