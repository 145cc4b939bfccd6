-- What is true of each table stays true with each call.
use Rattle.std.proofs.Common.{◌≡◌, ◌∙◌, sym, ap, refl, subst, arith, ℕ, suc, ◌+◌, ◌<◌, ◌≤◌, ◌^◌, max, Bool, true, false, cond, ◌&&◌, List, [], ◌∷◌, ◌++◌, length, Option, None, Some, IsTrue, IsSomeAnd, slice_get, slice_set, nat_le, ◌-◌}
use Rattle.std.proofs.lemmas.Bool.{le-leb, leb-true}
use Rattle.std.proofs.lemmas.List.{length_push}
use Rattle.std.specs.List.{All, filter, list_all}
use Rattle.wh_base.specs.Lists.{option_case}
use Rattle.wh_base.specs.Tables.{AreSmall, HaveRowids, most_live}
use Rattle.wh_base.specs.Values.{is_small}
use Rattle.wh_base.specs.declared.tables.RowAt.{RowAt}
use Rattle.wh_base.specs.declared.tables.TableDef.{TableDef}
use Rattle.wh_base.specs.declared.values.Value.{Value}
use Rattle.wh_segment.specs.Versions.{born_at, ended, ended_at, is_live, replaced_at}
use Rattle.wh_segment.specs.declared.version.Version.{Version}
use Rattle.wh_table.specs.Stored.{IsHeld, IsNamed, IsSmallRow, IsStored, Stored, begun, deleted, given_at, inserted, last_scn, live_count, rowid_at, rows_living, updated}
use Rattle.wh_table.proofs.Counting.{all_from, all_named_ended, count_append, count_ended, each_from, each_get, ended_is, given_append, given_ended, last_append, last_ended, length_ended}
use Rattle.wh_table.proofs.Living.{differ_filter, differ_from, differ_push, filter_apart, have_from, settled_count}
use Rattle.wh_table.proofs.Ordered.{Each, each_append, each_weaker, keeps}
use Rattle.wh_table.proofs.Seen.{IsRowOf, name_at, new_row, rowid_is, rows_deleted, rows_inserted, rows_less, rows_named, rows_updated}

-- ---- lists of rows

both : (x y : Bool) → IsTrue (x && y) → IsTrue x × IsTrue y
both true y h = (refl, h)
both false y h = cc

and_true : (x y : Bool) → IsTrue x → IsTrue y → IsTrue (x && y)
and_true true y h k = k
and_true false y h k = cc

abbrev small_row : RowAt → Bool
small_row r = list_all is_small r.values

small_push : (rows : List RowAt) (r : RowAt) → AreSmall rows → IsTrue (small_row r) → AreSmall (rows ++ r ∷ [])
small_push [] r h k = and_true (small_row r) true k refl
small_push (q ∷ rows) r h k = let p = both (small_row q) (list_all small_row rows) h in and_true (small_row q) (list_all small_row (rows ++ r ∷ [])) p.0 (small_push rows r p.1 k)

small_filter : (test : RowAt → Bool) (rows : List RowAt) → AreSmall rows → AreSmall (filter test rows)
small_filter test [] h = refl
small_filter test (r ∷ rows) h = let p = both (small_row r) (list_all small_row rows) h in by (test r) p.0 (small_filter test rows p.1)
  where
    by : (b : Bool) → IsTrue (small_row r) → AreSmall (filter test rows) → AreSmall (cond b (r ∷ filter test rows) (filter test rows))
    by true k rest = and_true (small_row r) (list_all small_row (filter test rows)) k rest
    by false k rest = rest

few_filter : (test : RowAt → Bool) (rows : List RowAt) → length (filter test rows) ≤ length rows
few_filter test [] = omega arith
few_filter test (r ∷ rows) = by (test r) (few_filter test rows)
  where
    by : (b : Bool) → length (filter test rows) ≤ length rows → length (cond b (r ∷ filter test rows) (filter test rows)) ≤ suc (length rows)
    by true h = omega (arith, h)
    by false h = omega (arith, h)

-- what holds of the rows from the change on and before it
either : (P : List RowAt → Type 0) (b : Bool) (now then rows : List RowAt) → rows ≡ cond b now then → (b ≡ true → P now) → P then → P rows
either P true now then rows e h k = subst P (sym e) (h refl)
either P false now then rows e h k = subst P (sym e) k

-- ---- a new table

pub kept_begun : (def : TableDef) → IsStored (begun def)
kept_begun def = record {
  few = λ at. omega arith;
  differ = λ at. have_from [] tt;
  small = λ at. refl;
  named = all_from (IsNamed 0) [] tt;
  given = λ at h. refl;
  placed = omega arith;
  bounded = omega arith;
}

-- ---- a row more

inserted_apart : (s : Stored) (at : ℕ) → IsStored s → Each (λ r. r.rowid ≡ s.given + 1 → ⊥) (rows_living at s)
inserted_apart s at h = each_weaker (IsRowOf s.given) (λ r. r.rowid ≡ s.given + 1 → ⊥) (λ r n e. (let most : r.rowid ≤ s.given = n.last in absurd (omega (arith, most, e)))) (rows_living at s) (rows_named s at h)

more_named : (given scn : ℕ) (values : List Value) (vs : List Version) → Each (IsNamed given) vs → Each (IsNamed (given + 1)) (vs ++ born_at scn (given + 1) 0 values ∷ [])
more_named given scn values vs h =
    each_append (IsNamed (given + 1)) vs (born_at scn (given + 1) 0 values ∷ [])
    (each_weaker (IsNamed given) (IsNamed (given + 1)) (λ v n. (let most : v.rowid ≤ given = n.last in record { first = n.first; last = omega (arith, most); unmarked = n.unmarked })) vs h)
    (record { first = omega arith; last = omega arith; unmarked = refl }, tt)

inserted_last : (vs : List Version) (scn rowid : ℕ) (values : List Value) → last_scn (vs ++ born_at scn rowid 0 values ∷ []) ≡ max (last_scn vs) scn
inserted_last vs scn rowid values = last_append vs (born_at scn rowid 0 values) ∙ omega arith

inserted_given : (s : Stored) (scn : ℕ) (values : List Value) (at : ℕ) → IsStored s → last_scn (inserted scn values s).versions ≤ at → given_at at (inserted scn values s).versions ≡ s.given + 1
inserted_given s scn values at h k =
    let last = inserted_last s.versions scn (s.given + 1) values in
    let later : scn ≤ at = omega (arith, last, k) in
    let settled : last_scn s.versions ≤ at = omega (arith, last, k) in
    let all = h.given at settled in
    given_append at s.versions (born_at scn (s.given + 1) 0 values) ∙ ap (λ b. max (given_at at s.versions) (cond b (s.given + 1) 0)) (le-leb scn at later) ∙ omega (arith, all)

pub kept_inserted : (s : Stored) (scn : ℕ) (values : List Value) → IsStored s → last_scn s.versions ≤ scn → live_count s < most_live → length s.versions < 2 ^ 32 - 1 → IsSmallRow values → IsStored (inserted scn values s)
kept_inserted s scn values h settled room few small_values =
    let row : RowAt = new_row (s.given + 1) values in
    let longer = length_push s.versions (born_at scn (s.given + 1) 0 values) in
    let before : s.given ≤ length s.versions = h.placed in
    record {
      few = λ at. either (λ rows. length rows ≤ most_live) (nat_le scn at) _ _ _ (rows_inserted s scn values at) (λ f. few_more at f) (h.few at);
      differ = λ at. either HaveRowids (nat_le scn at) _ _ _ (rows_inserted s scn values at)
          (λ f. have_from (rows_living at s ++ row ∷ []) (differ_push (rows_living at s) row (differ_from (rows_living at s) (h.differ at)) (inserted_apart s at h))) (h.differ at);
      small = λ at. either AreSmall (nat_le scn at) _ _ _ (rows_inserted s scn values at) (λ f. small_push (rows_living at s) row (h.small at) small_values) (h.small at);
      named = all_from (IsNamed (s.given + 1)) (inserted scn values s).versions (more_named s.given scn values s.versions (each_from (IsNamed s.given) s.versions h.named));
      given = λ at k. inserted_given s scn values at h k;
      placed = omega (arith, longer, before);
      bounded = omega (arith, longer, few);
    }
  where
    few_more : (at : ℕ) → nat_le scn at ≡ true → length (rows_living at s ++ new_row (s.given + 1) values ∷ []) ≤ most_live
    few_more at f =
        let later : scn ≤ at = leb-true scn at f in
        let count : length (rows_living at s) ≡ live_count s = settled_count at s.versions (omega (arith, later, settled)) in
        let pushed : length (rows_living at s ++ new_row (s.given + 1) values ∷ []) ≡ length (rows_living at s) + 1 = length_push (rows_living at s) (new_row (s.given + 1) values) in
        omega (arith, count, pushed, room)

-- ---- a row less

pub kept_deleted : (s : Stored) (scn place : ℕ) (v : Version) → IsStored s → last_scn s.versions ≤ scn → slice_get s.versions place ≡ Some v → is_live v ≡ true → IsStored (deleted scn place s)
kept_deleted s scn place v h settled e live = record {
  few = λ at. either (λ rows. length rows ≤ most_live) (nat_le scn at) _ _ _ (rows_deleted s scn place v at h settled e live)
      (λ f. (let less = few_filter (keeps v.rowid) (rows_living at s) in let few = h.few at in omega (arith, less, few))) (h.few at);
  differ = λ at. either HaveRowids (nat_le scn at) _ _ _ (rows_deleted s scn place v at h settled e live)
      (λ f. have_from (filter (keeps v.rowid) (rows_living at s)) (differ_filter (keeps v.rowid) (rows_living at s) (differ_from (rows_living at s) (h.differ at)))) (h.differ at);
  small = λ at. either AreSmall (nat_le scn at) _ _ _ (rows_deleted s scn place v at h settled e live) (λ f. small_filter (keeps v.rowid) (rows_living at s) (h.small at)) (h.small at);
  named = all_from (IsNamed s.given) (ended_at place scn s.versions) (all_named_ended s.given s.versions place scn v e (each_from (IsNamed s.given) s.versions h.named));
  given = λ at k.
      (let last = last_ended s.versions place scn v e live in let before : last_scn s.versions ≤ at = omega (arith, last, k) in given_ended at s.versions place scn v e ∙ h.given at before);
  placed = subst (λ n. s.given ≤ n) (sym (length_ended s.versions place scn v e)) h.placed;
  bounded = subst (λ n. n < 2 ^ 32) (sym (length_ended s.versions place scn v e)) h.bounded;
}

-- ---- a row with other values

updated_last : (s : Stored) (scn place : ℕ) (values : List Value) (v : Version) → slice_get s.versions place ≡ Some v → is_live v ≡ true
    → last_scn (updated scn place values s).versions ≡ max (last_scn s.versions) scn
updated_last s scn place values v e live =
    inserted_last (ended_at place scn s.versions) scn (rowid_at s place) values ∙ ap (λ n. max n scn) (last_ended s.versions place scn v e live) ∙ omega arith

updated_given : (s : Stored) (scn place : ℕ) (values : List Value) (v : Version) (at : ℕ) → IsStored s → slice_get s.versions place ≡ Some v → is_live v ≡ true
    → last_scn (updated scn place values s).versions ≤ at → given_at at (updated scn place values s).versions ≡ s.given
updated_given s scn place values v at h e live k =
    let last = updated_last s scn place values v e live in
    let later : scn ≤ at = omega (arith, last, k) in
    let settled : last_scn s.versions ≤ at = omega (arith, last, k) in
    let all = h.given at settled in
    let name = (name_at s place v h e).last in
    let id = rowid_is s place v e in
    given_append at (ended_at place scn s.versions) (born_at scn (rowid_at s place) 0 values)
    ∙ ap (λ n. max n (cond (nat_le scn at) (rowid_at s place) 0)) (given_ended at s.versions place scn v e)
    ∙ ap (λ b. max (given_at at s.versions) (cond b (rowid_at s place) 0)) (le-leb scn at later)
    ∙ omega (arith, all, name, id)

pub kept_updated : (s : Stored) (scn place : ℕ) (values : List Value) (v : Version) → IsStored s → last_scn s.versions ≤ scn → slice_get s.versions place ≡ Some v → is_live v ≡ true → length s.versions < 2 ^ 32 - 1 → IsSmallRow values
    → IsStored (updated scn place values s)
kept_updated s scn place values v h settled e live few small_values =
    let longer = length_push (ended_at place scn s.versions) (born_at scn (rowid_at s place) 0 values) in
    let as_long = length_ended s.versions place scn v e in
    let before : s.given ≤ length s.versions = h.placed in
    let row : RowAt = new_row (rowid_at s place) values in
    let name : IsNamed s.given v = name_at s place v h e in
    let id : rowid_at s place ≡ v.rowid = rowid_is s place v e in
    let first : 1 ≤ v.rowid = name.first in
    let last : v.rowid ≤ s.given = name.last in
    record {
      few = λ at. either (λ rows. length rows ≤ most_live) (nat_le scn at) _ _ _ (rows_updated s scn place values v at h settled e live)
          (λ f. few_same at (rows_less s scn place v at h settled e live f)) (h.few at);
      differ = λ at. either HaveRowids (nat_le scn at) _ _ _ (rows_updated s scn place values v at h settled e live)
          (λ f. have_from (filter (keeps v.rowid) (rows_living at s) ++ row ∷ [])
          (differ_push (filter (keeps v.rowid) (rows_living at s)) row (differ_filter (keeps v.rowid) (rows_living at s) (differ_from (rows_living at s) (h.differ at)))
          (subst (λ n. Each (λ x. x.rowid ≡ n → ⊥) (filter (keeps v.rowid) (rows_living at s))) (sym id) (filter_apart v.rowid (rows_living at s))))) (h.differ at);
      small = λ at. either AreSmall (nat_le scn at) _ _ _ (rows_updated s scn place values v at h settled e live)
          (λ f. small_push (filter (keeps v.rowid) (rows_living at s)) row (small_filter (keeps v.rowid) (rows_living at s) (h.small at)) small_values) (h.small at);
      named = all_from (IsNamed s.given) (updated scn place values s).versions
          (each_append (IsNamed s.given) (ended_at place scn s.versions) (born_at scn (rowid_at s place) 0 values ∷ []) (all_named_ended s.given s.versions place scn v e (each_from (IsNamed s.given) s.versions h.named))
          (record { first = omega (arith, first, id); last = omega (arith, last, id); unmarked = refl }, tt));
      given = λ at k. updated_given s scn place values v at h e live k;
      placed = omega (arith, longer, as_long, before);
      bounded = omega (arith, longer, as_long, few);
    }
  where
    few_same : (at : ℕ) → length (filter (keeps v.rowid) (rows_living at s)) + 1 ≡ length (rows_living at s) → length (filter (keeps v.rowid) (rows_living at s) ++ new_row (rowid_at s place) values ∷ []) ≤ most_live
    few_same at less =
        let pushed = length_push (filter (keeps v.rowid) (rows_living at s)) (new_row (rowid_at s place) values) in
        let few = h.few at in
        omega (arith, pushed, less, few)

-- ---- how many live, and when the last change was

pub count_inserted : (s : Stored) (scn : ℕ) (values : List Value) → live_count (inserted scn values s) ≡ live_count s + 1
count_inserted s scn values = count_append s.versions scn (s.given + 1) 0 values

pub count_deleted : (s : Stored) (scn place : ℕ) (v : Version) → slice_get s.versions place ≡ Some v → is_live v ≡ true → live_count (deleted scn place s) + 1 ≡ live_count s
count_deleted s scn place v e live = count_ended s.versions place scn v e live

pub count_updated : (s : Stored) (scn place : ℕ) (values : List Value) (v : Version) → slice_get s.versions place ≡ Some v → is_live v ≡ true → live_count (updated scn place values s) ≡ live_count s
count_updated s scn place values v e live = count_append (ended_at place scn s.versions) scn (rowid_at s place) 0 values ∙ count_ended s.versions place scn v e live

pub last_inserted : (s : Stored) (scn : ℕ) (values : List Value) → last_scn s.versions ≤ scn → last_scn (inserted scn values s).versions ≤ scn
last_inserted s scn values h = let last = inserted_last s.versions scn (s.given + 1) values in omega (arith, last, h)

pub last_deleted : (s : Stored) (scn place : ℕ) (v : Version) → slice_get s.versions place ≡ Some v → is_live v ≡ true → last_scn s.versions ≤ scn → last_scn (deleted scn place s).versions ≤ scn
last_deleted s scn place v e live h = let last = last_ended s.versions place scn v e live in omega (arith, last, h)

pub last_updated : (s : Stored) (scn place : ℕ) (values : List Value) (v : Version) → slice_get s.versions place ≡ Some v → is_live v ≡ true → last_scn s.versions ≤ scn
    → last_scn (updated scn place values s).versions ≤ scn
last_updated s scn place values v e live h = let last = updated_last s scn place values v e live in omega (arith, last, h)

-- ---- the same by the words of the calls

-- a live version stands at a place
abbrev pub LivesAt : List Version → ℕ → Type 0
LivesAt vs place = IsSomeAnd (slice_get vs place) (λ v. IsTrue (is_live v))

pub live_version : (vs : List Version) (place : ℕ) → LivesAt vs place → (v : Version) × ((slice_get vs place ≡ Some v) × (is_live v ≡ true))
live_version vs place h = by (slice_get vs place) refl h
  where
    by : (o : Option Version) → slice_get vs place ≡ o → IsSomeAnd o (λ v. IsTrue (is_live v)) → (v : Version) × ((slice_get vs place ≡ Some v) × (is_live v ≡ true))
    by None e h = absurd h
    by (Some v) e h = (v, (e, h))

abbrev pub stored_as : TableDef → List Version → ℕ → Stored
stored_as def versions given = record { def = def; versions = versions; given = given }

-- one place was left for the version
pub few_inserted : (vs ws : List Version) (v : Version) → length ws < 2 ^ 32 → ws ≡ vs ++ v ∷ [] → length vs < 2 ^ 32 - 1
few_inserted vs ws v bounded e =
    let longer = length_push vs v in
    let more = ap length e in
    omega (arith, longer, more, bounded)

pub held_insert : (live changed : ℕ) (def : TableDef) (vs ws : List Version) (given scn : ℕ) (values : List Value) → IsHeld live changed (stored_as def vs given)
    → last_scn vs ≤ scn → live_count (stored_as def vs given) < most_live → length ws < 2 ^ 32 → IsSmallRow values → ws ≡ vs ++ born_at scn (given + 1) 0 values ∷ []
    → IsHeld (live + 1) scn (stored_as def ws (given + 1))
held_insert live changed def vs ws given scn values h settled room bounded small e =
    let few = few_inserted vs ws (born_at scn (given + 1) 0 values) bounded e in
    let last : last_scn (vs ++ born_at scn (given + 1) 0 values ∷ []) ≡ max (last_scn vs) scn = inserted_last vs scn (given + 1) values in
    subst (λ us. IsHeld (live + 1) scn (stored_as def us (given + 1))) (sym e) (record {
      stored = kept_inserted (stored_as def vs given) scn values h.stored settled room few small;
      counted = ap (λ n. n + 1) h.counted ∙ sym (count_inserted (stored_as def vs given) scn values);
      latest = omega (arith, last, settled);
    })

pub held_delete : (live changed : ℕ) (def : TableDef) (vs ws : List Version) (given scn place : ℕ) → IsHeld live changed (stored_as def vs given)
    → last_scn vs ≤ scn → LivesAt vs place → ws ≡ ended_at place scn vs → IsHeld (live - 1) scn (stored_as def ws given)
held_delete live changed def vs ws given scn place h settled there e =
    let v = live_version vs place there in
    let less = count_deleted (stored_as def vs given) scn place v.0 v.1.0 v.1.1 in
    let all = h.counted in
    let last : last_scn (ended_at place scn vs) ≡ max (last_scn vs) scn = last_ended vs place scn v.0 v.1.0 v.1.1 in
    subst (λ us. IsHeld (live - 1) scn (stored_as def us given)) (sym e) (record {
      stored = kept_deleted (stored_as def vs given) scn place v.0 h.stored settled v.1.0 v.1.1;
      counted = omega (arith, less, all);
      latest = omega (arith, last, settled);
    })

-- what a segment makes of the version at a place is what the definition of the call says
replaced_is : (def : TableDef) (vs : List Version) (given scn place : ℕ) (values : List Value) → All (IsNamed given) vs → LivesAt vs place
    → replaced_at place scn values vs ≡ (updated scn place values (stored_as def vs given)).versions
replaced_is def vs given scn place values named there =
    let v = live_version vs place there in
    let unmarked : v.0.part ≡ 0 = (each_get (IsNamed given) vs place v.0 v.1.0 (each_from (IsNamed given) vs named)).unmarked in
    let id : rowid_at (stored_as def vs given) place ≡ v.0.rowid = rowid_is (stored_as def vs given) place v.0 v.1.0 in
    ap (λ o. option_case o vs (λ w. slice_set vs place (ended scn w) ++ born_at scn w.rowid w.part values ∷ [])) v.1.0
    ∙ (λ i. slice_set vs place (ended scn v.0) ++ born_at scn (sym id i) (unmarked i) values ∷ [])
    ∙ ap (λ us. us ++ born_at scn (rowid_at (stored_as def vs given) place) 0 values ∷ []) (sym (ended_is vs place scn v.0 v.1.0))

-- one place was left for the successor
pub few_replaced : (def : TableDef) (vs ws : List Version) (given scn place : ℕ) (values : List Value) → All (IsNamed given) vs → LivesAt vs place → length ws < 2 ^ 32
    → ws ≡ replaced_at place scn values vs → length vs < 2 ^ 32 - 1
few_replaced def vs ws given scn place values named there bounded e =
    let v = live_version vs place there in
    let longer = length_push (ended_at place scn vs) (born_at scn (rowid_at (stored_as def vs given) place) 0 values) in
    let as_long = length_ended vs place scn v.0 v.1.0 in
    let more = ap length (e ∙ replaced_is def vs given scn place values named there) in
    omega (arith, longer, as_long, more, bounded)

pub held_update : (live changed : ℕ) (def : TableDef) (vs ws : List Version) (given scn place : ℕ) (values : List Value) → IsHeld live changed (stored_as def vs given)
    → last_scn vs ≤ scn → LivesAt vs place → length ws < 2 ^ 32 → IsSmallRow values → ws ≡ replaced_at place scn values vs → IsHeld live scn (stored_as def ws given)
held_update live changed def vs ws given scn place values h settled there bounded small e =
    let v = live_version vs place there in
    let few = few_replaced def vs ws given scn place values h.stored.named there bounded e in
    let last = updated_last (stored_as def vs given) scn place values v.0 v.1.0 v.1.1 in
    subst (λ xs. IsHeld live scn (stored_as def xs given)) (sym (e ∙ replaced_is def vs given scn place values h.stored.named there)) (record {
      stored = kept_updated (stored_as def vs given) scn place values v.0 h.stored settled v.1.0 v.1.1 few small;
      counted = h.counted ∙ sym (count_updated (stored_as def vs given) scn place values v.0 v.1.0 v.1.1);
      latest = omega (arith, last, settled);
    })

pub updated_is : (live changed : ℕ) (def : TableDef) (vs ws : List Version) (given scn place : ℕ) (values : List Value) → IsHeld live changed (stored_as def vs given)
    → LivesAt vs place → ws ≡ replaced_at place scn values vs → stored_as def ws given ≡ updated scn place values (stored_as def vs given)
updated_is live changed def vs ws given scn place values h there e = ap (λ us. stored_as def us given) (e ∙ replaced_is def vs given scn place values h.stored.named there)

pub some_live : (live changed : ℕ) (def : TableDef) (vs : List Version) (given scn place : ℕ) → IsHeld live changed (stored_as def vs given) → LivesAt vs place → 1 ≤ live
some_live live changed def vs given scn place h there =
    let v = live_version vs place there in
    let less = count_deleted (stored_as def vs given) scn place v.0 v.1.0 v.1.1 in
    let all = h.counted in
    omega (arith, less, all)
