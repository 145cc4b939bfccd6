-- The changes that a statement asks fit its table one after another.
use Rattle.std.proofs.Common.{◌≡◌, ◌∙◌, sym, ap, refl, subst, arith, ℕ, zero, suc, ◌+◌, ◌<◌, ◌≤◌, Bool, true, false, cond, List, [], ◌∷◌, ◌++◌, map, length, Option, None, Some, IsTrue, is_lt, slice_get, slice_set}
use Rattle.std.proofs.lemmas.List.{length_push}
use Rattle.std.proofs.lemmas.Option.{none-some, same_Some, slice_get_within}
use Rattle.std.specs.List.{filter}
use Rattle.std.specs.Option.{ForSome, IsSomeAnd}
use Rattle.std.specs.declared.cmp.Ordering.{Ordering}
use Rattle.wh_base.specs.Lists.{option_case, put_in_order, sort_onto, where_true}
use Rattle.wh_base.specs.Tables.{Places}
use Rattle.wh_base.specs.declared.values.Value.{Value}
use Rattle.wh_dml.specs.Picking.{deleted_of, inserts_from, is_picked, picked_at, picked_cmp, picked_from, picks, rows_picked, updates_from}
use Rattle.wh_dml.specs.declared.picking.Picked.{Picked}
use Rattle.wh_dml.specs.Changing.{row_set}
use Rattle.wh_dml.specs.Placed.{AreNext, ArePlaced, StandsAt}
use Rattle.wh_dml.specs.declared.changes.PlacedRow.{PlacedRow}
use Rattle.wh_dml.specs.declared.changes.RowChange.{RowChange}
use Rattle.wh_dml.specs.declared.filter.Filter.{Filter}
use Rattle.wh_dml.specs.declared.set_list.SetList.{SetList}
use Rattle.wh_segment.specs.Versions.{born_at, ended, ended_at, is_live, is_visible, row_at, rows_at}
use Rattle.wh_segment.specs.declared.version.Version.{Version}
use Rattle.wh_table.specs.Stored.{Stored, changed_at, deleted, inserted, last_scn, places_at, rowid_at, updated}
use Rattle.wh_table.proofs.Counting.{all_from, length_ended}
use Rattle.wh_table.proofs.Living.{settled}
use Rattle.wh_table.proofs.Ordered.{Each, each_filter, each_weaker}

-- ---- rows of a table

-- the row lives at its place
abbrev pub Stands : Stored → Picked → Type 0
Stands s p = StandsAt s p.rowid p.row

-- the version is a live one of this row
abbrev Fits : Picked → Version → Type 0
Fits p v = IsTrue (is_live v) × ((v.rowid ≡ p.rowid) × (v.values ≡ Some p.row.values))

-- the same of the versions of a table
abbrev Among : List Version → Picked → Type 0
Among vs p = IsSomeAnd (slice_get vs p.row.place) (Fits p)

-- the two have places of their own
abbrev pub Beside : Picked → Picked → Type 0
Beside p q = p.row.place ≡ q.row.place → ⊥

-- no two have one place
abbrev pub AreBeside : List Picked → Type 0
AreBeside [] = Unit {0}
AreBeside (p ∷ ps) = Each (Beside p) ps × AreBeside ps

-- ---- the rows at the places

stand_at : (all : List Version) (at from : ℕ) (v : Version) (rest : List Picked) → changed_at v ≤ at → slice_get all from ≡ Some v → Each (Among all) rest → Each (Among all) (picked_at from (row_at at v) ++ rest)
stand_at all at from v rest h here others = by v.values (is_visible at v) refl refl
  where
    by : (values : Option (List Value)) (b : Bool) → v.values ≡ values → is_visible at v ≡ b
        → Each (Among all) (picked_at from (option_case values None (λ ws. where_true b (record { rowid = v.rowid; mark = v.part; values = ws }))) ++ rest)
    by None b e f = others
    by (Some ws) false e f = others
    by (Some ws) true e f =
        let live : is_live v ≡ true = sym (settled at v h) ∙ f in
        (subst (λ o. IsSomeAnd o (λ u. IsTrue (is_live u) × ((u.rowid ≡ v.rowid) × (u.values ≡ Some ws)))) (sym here) (live, (refl, e)), others)

stand_from : (all : List Version) (at from : ℕ) (vs : List Version) → last_scn vs ≤ at → ((i : ℕ) → slice_get all (from + i) ≡ slice_get vs i) → Each (Among all) (picked_from from (rows_at at vs))
stand_from all at from [] h is = tt
stand_from all at from (v ∷ vs) h is =
    let here : slice_get all from ≡ Some v = ap (slice_get all) (omega arith) ∙ is 0 in
    let next : (i : ℕ) → slice_get all ((from + 1) + i) ≡ slice_get vs i = λ i. ap (slice_get all) (one_more i) ∙ is (suc i) in
    stand_at all at from v (picked_from (from + 1) (rows_at at vs)) (omega (arith, h)) here (stand_from all at (from + 1) vs (omega (arith, h)) next)
  where
    one_more : (i : ℕ) → (from + 1) + i ≡ from + suc i
    one_more i = omega arith

all_stand : (s : Stored) (at : ℕ) → last_scn s.versions ≤ at → Each (Stands s) (picked_from 0 (places_at at s))
all_stand s at h = stand_from s.versions at 0 s.versions h (λ i. ap (slice_get s.versions) (omega arith))

-- each place from one on
from_on : (from : ℕ) (ps : Places) → Each (λ p. from ≤ p.row.place) (picked_from from ps)
from_on from [] = tt
from_on from (None ∷ ps) = each_weaker (λ p. from + 1 ≤ p.row.place) (λ p. from ≤ p.row.place) (λ p h. (let more : from + 1 ≤ p.row.place = h in omega (arith, more))) (picked_from (from + 1) ps) (from_on (from + 1) ps)
from_on from (Some r ∷ ps) = (
  omega arith,
  each_weaker (λ p. from + 1 ≤ p.row.place) (λ p. from ≤ p.row.place) (λ p h. (let more : from + 1 ≤ p.row.place = h in omega (arith, more))) (picked_from (from + 1) ps) (from_on (from + 1) ps),
)

beside_from : (from : ℕ) (ps : Places) → AreBeside (picked_from from ps)
beside_from from [] = tt
beside_from from (None ∷ ps) = beside_from (from + 1) ps
beside_from from (Some r ∷ ps) = (
  each_weaker (λ p. from + 1 ≤ p.row.place) (Beside (record { rowid = r.rowid; row = record { place = from; values = r.values } }))
      (λ p h same. (let more : from + 1 ≤ p.row.place = h in absurd (omega (arith, more, same)))) (picked_from (from + 1) ps) (from_on (from + 1) ps),
  beside_from (from + 1) ps,
)

-- ---- those that pass, in order

beside_filter : (test : Picked → Bool) (ps : List Picked) → AreBeside ps → AreBeside (filter test ps)
beside_filter test [] h = tt
beside_filter test (p ∷ ps) h = by (test p) (beside_filter test ps h.1)
  where
    by : (b : Bool) → AreBeside (filter test ps) → AreBeside (cond b (p ∷ filter test ps) (filter test ps))
    by true rest = (each_filter (Beside p) test ps h.0, rest)
    by false rest = rest

module _ (cmp : Picked → Picked → Ordering) where
  each_put : (P : Picked → Type 0) (p : Picked) (ps : List Picked) → P p → Each P ps → Each P (put_in_order cmp p ps)
  each_put P p [] h k = (h, tt)
  each_put P p (q ∷ ps) h k = by (is_lt (cmp p q)) (each_put P p ps h k.1)
    where
      by : (b : Bool) → Each P (put_in_order cmp p ps) → Each P (cond b (p ∷ q ∷ ps) (q ∷ put_in_order cmp p ps))
      by true rest = (h, k)
      by false rest = (k.0, rest)

  each_sort : (P : Picked → Type 0) (done ps : List Picked) → Each P done → Each P ps → Each P (sort_onto cmp done ps)
  each_sort P done [] h k = h
  each_sort P done (p ∷ ps) h k = each_sort P (put_in_order cmp p done) ps (each_put P p done k.0 h) k.1

  beside_put : (p : Picked) (ps : List Picked) → Each (Beside p) ps → AreBeside ps → AreBeside (put_in_order cmp p ps)
  beside_put p [] h k = (tt, tt)
  beside_put p (q ∷ ps) h k = by (is_lt (cmp p q)) (beside_put p ps h.1 k.1)
    where
      by : (b : Bool) → AreBeside (put_in_order cmp p ps) → AreBeside (cond b (p ∷ q ∷ ps) (q ∷ put_in_order cmp p ps))
      by true rest = (h, k)
      by false rest = (each_put (Beside q) p ps (λ same. h.0 (sym same)) k.0, rest)

  apart_put : (p : Picked) (done ps : List Picked) → Each (Beside p) ps → Each (λ q. Each (Beside q) done) ps → Each (λ q. Each (Beside q) (put_in_order cmp p done)) ps
  apart_put p done [] h k = tt
  apart_put p done (q ∷ ps) h k = (each_put (Beside q) p done (λ same. h.0 (sym same)) k.0, apart_put p done ps h.1 k.1)

  beside_sort : (done ps : List Picked) → AreBeside done → AreBeside ps → Each (λ q. Each (Beside q) done) ps → AreBeside (sort_onto cmp done ps)
  beside_sort done [] h k apart = h
  beside_sort done (p ∷ ps) h k apart = beside_sort (put_in_order cmp p done) ps (beside_put p done apart.0 h) k.1 (apart_put p done ps k.0 apart.1)

none_before : (ps : List Picked) → Each (λ q. Each (Beside q) []) ps
none_before [] = tt
none_before (p ∷ ps) = (tt, none_before ps)

pub picked_stand : (f : Filter) (s : Stored) (at : ℕ) → last_scn s.versions ≤ at → Each (Stands s) (rows_picked f (places_at at s))
picked_stand f s at h =
    each_sort picked_cmp (Stands s) [] (picks f (picked_from 0 (places_at at s))) tt (each_filter (Stands s) (is_picked f) (picked_from 0 (places_at at s)) (all_stand s at h))

pub picked_beside : (f : Filter) (s : Stored) (at : ℕ) → AreBeside (rows_picked f (places_at at s))
picked_beside f s at =
    let passed : List Picked = picks f (picked_from 0 (places_at at s)) in
    beside_sort picked_cmp [] passed tt (beside_filter (is_picked f) (picked_from 0 (places_at at s)) (beside_from 0 (places_at at s))) (none_before passed)

-- ---- what a change leaves of the others

get_other : (vs : List Version) (i j : ℕ) (v : Version) → (i ≡ j → ⊥) → slice_get (slice_set vs i v) j ≡ slice_get vs j
get_other [] i j v h = refl
get_other (w ∷ vs) zero zero v h = absurd (h refl)
get_other (w ∷ vs) zero (suc j) v h = refl
get_other (w ∷ vs) (suc i) zero v h = refl
get_other (w ∷ vs) (suc i) (suc j) v h = get_other vs i j v (λ same. h (ap suc same))

ended_other : (vs : List Version) (place scn j : ℕ) → (place ≡ j → ⊥) → slice_get (ended_at place scn vs) j ≡ slice_get vs j
ended_other vs place scn j h = by (slice_get vs place)
  where
    by : (o : Option Version) → slice_get (option_case o vs (λ v. slice_set vs place (ended scn v))) j ≡ slice_get vs j
    by None = refl
    by (Some v) = get_other vs place j (ended scn v) h

get_append : (vs more : List Version) (j : ℕ) (v : Version) → slice_get vs j ≡ Some v → slice_get (vs ++ more) j ≡ Some v
get_append [] more j v e = absurd (none-some v e)
get_append (w ∷ vs) more zero v e = e
get_append (w ∷ vs) more (suc j) v e = get_append vs more j v e

among_append : (vs more : List Version) (p : Picked) → Among vs p → Among (vs ++ more) p
among_append vs more p h = by (slice_get vs p.row.place) refl h
  where
    by : (o : Option Version) → slice_get vs p.row.place ≡ o → IsSomeAnd o (Fits p) → IsSomeAnd (slice_get (vs ++ more) p.row.place) (Fits p)
    by None e k = absurd k
    by (Some v) e k = subst (λ o. IsSomeAnd o (Fits p)) (sym (get_append vs more p.row.place v e)) k

among_ended : (vs : List Version) (place scn : ℕ) (p : Picked) → (place ≡ p.row.place → ⊥) → Among vs p → Among (ended_at place scn vs) p
among_ended vs place scn p h k = subst (λ o. IsSomeAnd o (Fits p)) (sym (ended_other vs place scn p.row.place h)) k

-- the version at a place where a row stands
version_of : (s : Stored) (p : Picked) → Stands s p → (v : Version) × (slice_get s.versions p.row.place ≡ Some v)
version_of s p h = by (slice_get s.versions p.row.place) refl h
  where
    by : (o : Option Version) → slice_get s.versions p.row.place ≡ o → IsSomeAnd o (Fits p)
        → (v : Version) × (slice_get s.versions p.row.place ≡ Some v)
    by None e k = absurd k
    by (Some v) e k = (v, e)

within : (s : Stored) (p : Picked) → Stands s p → p.row.place < length s.versions
within s p h = let found = version_of s p h in slice_get_within s.versions p.row.place found.0 found.1

still_deleted : (scn : ℕ) (s : Stored) (p : Picked) (ps : List Picked) → Each (Beside p) ps → Each (Stands s) ps → Each (Stands (deleted scn p.row.place s)) ps
still_deleted scn s p [] h k = tt
still_deleted scn s p (q ∷ ps) h k = (among_ended s.versions p.row.place scn q h.0 k.0, still_deleted scn s p ps h.1 k.1)

still_updated : (scn : ℕ) (values : List Value) (s : Stored) (p : Picked) (ps : List Picked) → Each (Beside p) ps → Each (Stands s) ps → Each (Stands (updated scn p.row.place values s)) ps
still_updated scn values s p [] h k = tt
still_updated scn values s p (q ∷ ps) h k = (
  among_append (ended_at p.row.place scn s.versions) (born_at scn (rowid_at s p.row.place) 0 values ∷ []) q (among_ended s.versions p.row.place scn q h.0 k.0),
  still_updated scn values s p ps h.1 k.1,
)

-- ---- one after another

one_for : {A : Type 0} (x : A) (P : A → Type 0) → P x → ForSome (Some x) P
one_for x P h y e = subst P (same_Some x y e) h

none_for : {A : Type 0} (P : A → Type 0) → ForSome None P
none_for P y e = absurd (none-some y e)

pub deletes_next : (scn : ℕ) (s : Stored) (ps : List Picked) → Each (Stands s) ps → AreBeside ps → AreNext scn s (map deleted_of ps)
deletes_next scn s [] h k = tt
deletes_next scn s (p ∷ ps) h k = (
  record {
    old = one_for p.row (StandsAt s p.rowid) h.0;
    next = λ e. absurd (none-some p.row (sym e));
    new = none_for (λ r. r.place ≡ length s.versions);
    some = λ e f. none-some p.row (sym e);
  },
  deletes_next scn (deleted scn p.row.place s) ps (still_deleted scn s p ps k.0 h.1) k.1,
)

abbrev new_values : SetList → Picked → List Value
new_values sets p = row_set sets p.row.values

abbrev new_row : SetList → ℕ → Picked → PlacedRow
new_row sets place p = record { place = place; values = new_values sets p }

pub updates_next : (scn : ℕ) (s : Stored) (sets : SetList) (place : ℕ) (ps : List Picked) → place ≡ length s.versions → Each (Stands s) ps → AreBeside ps → AreNext scn s (updates_from sets place ps)
updates_next scn s sets place [] at h k = tt
updates_next scn s sets place (p ∷ ps) at h k =
    let found = version_of s p h.0 in
    let pushed : length (ended_at p.row.place scn s.versions ++ born_at scn (rowid_at s p.row.place) 0 (new_values sets p) ∷ []) ≡ length (ended_at p.row.place scn s.versions) + 1 =
    length_push (ended_at p.row.place scn s.versions) (born_at scn (rowid_at s p.row.place) 0 (new_values sets p)) in
    let same = length_ended s.versions p.row.place scn found.0 found.1 in (
      record {
        old = one_for p.row (StandsAt s p.rowid) h.0;
        next = λ e. absurd (none-some p.row (sym e));
        new = one_for (new_row sets place p) (λ r. r.place ≡ length s.versions) at;
        some = λ e f. none-some p.row (sym e);
      },
      updates_next scn (updated scn p.row.place (new_values sets p) s) sets (place + 1) ps (omega (arith, at, pushed, same)) (still_updated scn (new_values sets p) s p ps k.0 h.1) k.1,
    )

pub inserts_next : (scn : ℕ) (s : Stored) (rowid place : ℕ) (rows : List (List Value)) → rowid ≡ s.given + 1 → place ≡ length s.versions → AreNext scn s (inserts_from rowid place rows)
inserts_next scn s rowid place [] id at = tt
inserts_next scn s rowid place (vs ∷ rows) id at =
    let r : PlacedRow = record { place = place; values = vs } in
    let pushed = length_push s.versions (born_at scn (s.given + 1) 0 vs) in (
      record {
        old = none_for (StandsAt s rowid);
        next = λ e. id;
        new = one_for r (λ q. q.place ≡ length s.versions) at;
        some = λ e f. none-some r (sym f);
      },
      inserts_next scn (inserted scn vs s) (rowid + 1) (place + 1) rows (omega (arith, id)) (omega (arith, at, pushed)),
    )

-- ---- all old places are there

abbrev IsBelow : Stored → RowChange → Type 0
IsBelow s c = ForSome c.old (λ q. q.place < length s.versions)

deletes_below : (s : Stored) (ps : List Picked) → Each (Stands s) ps → Each (IsBelow s) (map deleted_of ps)
deletes_below s [] h = tt
deletes_below s (p ∷ ps) h = (one_for p.row (λ q. q.place < length s.versions) (within s p h.0), deletes_below s ps h.1)

updates_below : (s : Stored) (sets : SetList) (place : ℕ) (ps : List Picked) → Each (Stands s) ps → Each (IsBelow s) (updates_from sets place ps)
updates_below s sets place [] h = tt
updates_below s sets place (p ∷ ps) h = (one_for p.row (λ q. q.place < length s.versions) (within s p h.0), updates_below s sets (place + 1) ps h.1)

inserts_below : (s : Stored) (rowid place : ℕ) (rows : List (List Value)) → Each (IsBelow s) (inserts_from rowid place rows)
inserts_below s rowid place [] = tt
inserts_below s rowid place (vs ∷ rows) = (none_for (λ q. q.place < length s.versions), inserts_below s (rowid + 1) (place + 1) rows)

-- ---- the changes of each kind of statement

pub deletes_placed : (scn : ℕ) (s : Stored) (ps : List Picked) → Each (Stands s) ps → AreBeside ps → ArePlaced scn s (map deleted_of ps)
deletes_placed scn s ps h k = record { next = deletes_next scn s ps h k; apart = all_from (IsBelow s) (map deleted_of ps) (deletes_below s ps h) }

pub updates_placed : (scn : ℕ) (s : Stored) (sets : SetList) (ps : List Picked) → Each (Stands s) ps → AreBeside ps → ArePlaced scn s (updates_from sets (length s.versions) ps)
updates_placed scn s sets ps h k =
    record {
      next = updates_next scn s sets (length s.versions) ps refl h k;
      apart = all_from (IsBelow s) (updates_from sets (length s.versions) ps) (updates_below s sets (length s.versions) ps h);
    }

pub inserts_placed : (scn : ℕ) (s : Stored) (rows : List (List Value)) → ArePlaced scn s (inserts_from (s.given + 1) (length s.versions) rows)
inserts_placed scn s rows =
    record {
      next = inserts_next scn s (s.given + 1) (length s.versions) rows refl refl;
      apart = all_from (IsBelow s) (inserts_from (s.given + 1) (length s.versions) rows) (inserts_below s (s.given + 1) (length s.versions) rows);
    }
