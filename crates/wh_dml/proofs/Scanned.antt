-- The rows that conditions pick at the places of a table, from one place on.
use Rattle.std.proofs.Common.{◌≡◌, ◌∙◌, ◌+◌, ◌<◌, ◌≤◌, ℕ, zero, suc, Bool, true, false, cond, List, [], ◌∷◌, ◌++◌, Option, Some, None, length, drop, get_or, refl, arith, sym, ap, append_assoc, length-append}
use Rattle.std.proofs.Math.ListN.{drop_of_length-le}
use Rattle.std.proofs.lemmas.List.{append-nil, drop_more}
use Rattle.std.proofs.lemmas.List.Elements.{filter-append}
use Rattle.std.proofs.lemmas.Option.{slice_get-get_or}
use Rattle.std.specs.Option.{option_to_list}
use Rattle.std.specs.Prelude.{IfSome, IsSome, IsTrue, unwrap_or, ◌↔◌}
use Rattle.wh_base.specs.Tables.{Places, live_rows, place_of, places_of}
use Rattle.wh_base.specs.declared.tables.RowAt.{RowAt}
use Rattle.wh_base.specs.declared.values.Value.{Value}
use Rattle.wh_dml.specs.Picking.{is_picked, picked_at, picked_from, picks}
use Rattle.wh_dml.specs.declared.picking.Picked.{Picked}
use Rattle.wh_dml.specs.Changing.{passes}
use Rattle.wh_dml.specs.declared.filter.Filter.{Filter}

-- ---- the row at one place

pub none-dead : (lives : Bool) (f : Filter) (place : ℕ) (o : Option RowAt) → (IsTrue lives ↔ IsSome o) → lives ≡ false → [] ≡ picks f (picked_at place o)
none-dead lives f place None same dead = refl
none-dead true f place (Some r) same dead = cc
none-dead false f place (Some r) same dead = cc (same.1 refl)

pub count-dead : (lives : Bool) (old : ℕ) (o : Option RowAt) → (IsTrue lives ↔ IsSome o) → lives ≡ false → old ≡ old + length (option_to_list o)
count-dead lives old None same dead = omega arith
count-dead true old (Some r) same dead = cc
count-dead false old (Some r) same dead = cc (same.1 refl)

pub count-alive : (lives : Bool) (old new : ℕ) (o : Option RowAt) → (IsTrue lives ↔ IsSome o) → lives ≡ true → new ≡ old + 1 → new ≡ old + length (option_to_list o)
count-alive true old new None same alive e = cc (same.0 refl)
count-alive false old new None same alive e = cc
count-alive lives old new (Some r) same alive e = e

pub none-failed : (f : Filter) (place : ℕ) (o : Option RowAt) (values : List Value) → IfSome o (λ r. values ≡ r.values) → passes f values ≡ false → [] ≡ picks f (picked_at place o)
none-failed f place None values v failed = refl
none-failed f place (Some r) values v failed =
    let p : Picked = record { rowid = r.rowid; row = record { place = place; values = r.values } } in
    let test : is_picked f p ≡ false = ap (passes f) (sym v) ∙ failed in
    sym (ap (λ b. cond b (p ∷ []) []) test)

pub one-passed :
    (lives : Bool) (f : Filter) (place : ℕ) (o : Option RowAt) (rowid : ℕ) (values copy : List Value)
    → (IsTrue lives ↔ IsSome o) → lives ≡ true → IfSome o (λ r. rowid ≡ r.rowid) → IfSome o (λ r. values ≡ r.values) → copy ≡ values → passes f values ≡ true
    → record { rowid = rowid; row = record { place = place; values = copy } } ∷ [] ≡ picks f (picked_at place o)
one-passed true f place None rowid values copy same alive i v c passed = cc (same.0 refl)
one-passed false f place None rowid values copy same alive i v c passed = cc
one-passed lives f place (Some r) rowid values copy same alive i v c passed =
    let p : Picked = record { rowid = r.rowid; row = record { place = place; values = r.values } } in
    let test : is_picked f p ≡ true = ap (passes f) (sym v) ∙ passed in
    let all : copy ≡ r.values = c ∙ v in
    (λ k. record { rowid = i k; row = record { place = place; values = all k } } ∷ []) ∙ sym (ap (λ b. cond b (p ∷ []) []) test)

pub ruleset places = (none-dead, count-dead, count-alive, none-failed, one-passed)

-- ---- the rows from a place on

live_head : (o : Option RowAt) (ps : Places) → live_rows (o ∷ ps) ≡ option_to_list o ++ live_rows ps
live_head None ps = refl
live_head (Some r) ps = refl

here : (tables : List Places) (table place : ℕ) → place < length (places_of tables table) → place_of tables table place ≡ get_or (places_of tables table) place None
here tables table place h = ap (λ o. unwrap_or o None) (slice_get-get_or (places_of tables table) place None h)

pub picks-more :
    (f : Filter) (tables : List Places) (table place : ℕ) → place < length (places_of tables table)
    → picks f (picked_from place (drop place (places_of tables table)))
    ≡ picks f (picked_at place (place_of tables table place)) ++ picks f (picked_from (place + 1) (drop (place + 1) (places_of tables table)))
picks-more f tables table place h =
    let ps : Places = places_of tables table in
    let rest : Places = drop (place + 1) ps in
    ap (λ qs. picks f (picked_from place qs)) (drop_more ps place None h)
    ∙ filter-append (is_picked f) (picked_at place (get_or ps place None)) (picked_from (place + 1) rest)
    ∙ ap (λ o. picks f (picked_at place o) ++ picks f (picked_from (place + 1) rest)) (sym (here tables table place h))

pub picks-done : (f : Filter) (place : ℕ) (ps : Places) → length ps ≤ place → picks f (picked_from place (drop place ps)) ≡ []
picks-done f place ps h = ap (λ qs. picks f (picked_from place qs)) (drop_of_length-le ps h)

pub live-more :
    (tables : List Places) (table place : ℕ) → place < length (places_of tables table)
    → length (live_rows (drop place (places_of tables table))) ≡ length (option_to_list (place_of tables table place)) + length (live_rows (drop (place + 1) (places_of tables table)))
live-more tables table place h =
    let ps : Places = places_of tables table in
    ap (λ qs. length (live_rows qs)) (drop_more ps place None h)
    ∙ ap length (live_head (get_or ps place None) (drop (place + 1) ps))
    ∙ length-append (option_to_list (get_or ps place None)) (live_rows (drop (place + 1) ps))
    ∙ ap (λ o. length (option_to_list o) + length (live_rows (drop (place + 1) ps))) (sym (here tables table place h))

pub live-done : (place : ℕ) (ps : Places) → length ps ≤ place → length (live_rows (drop place ps)) ≡ 0
live-done place ps h = ap (λ qs. length (live_rows qs)) (drop_of_length-le ps h)

pub ruleset scanning = (picks-more, picks-done, live-more, live-done, append_assoc, append-nil)
