-- What the changes of a statement make of a table: the table of the definitions with them, what is kept of it, and when it was last changed.
use Rattle.std.proofs.Common.{◌≡◌, ◌∙◌, sym, ap, subst, refl, arith, ℕ, zero, suc, ◌+◌, ◌<◌, ◌≤◌, ◌^◌, Bool, true, false, cond, not, ◌&&◌, ◌||◌, List, [], ◌∷◌, length, map, Option, Some, None, IfSome, IsSomeAnd, IsTrue, ◌==◌, slice_get, true≢false}
use Rattle.std.proofs.lemmas.Option.{none-some, same_Some}
use Rattle.std.proofs.lemmas.Bool.{and_parts, eqb-true, le-leb}
use Rattle.std.proofs.lemmas.List.{length_push}
use Rattle.std.proofs.lemmas.List.Sums.{sum_by-cons}
use Rattle.std.specs.List.{All, count_by, filter, fold, list_all}
use Rattle.std.specs.Option.{ForSome}
use Rattle.std.specs.Prelude.{is_none, is_some, option_map, unwrap_or}
use Rattle.wh_base.specs.Lists.{is_empty, option_case}
use Rattle.wh_base.specs.Tables.{Row, Table, TableChange, is_insert, most_live, rows_after, table_after, table_at, with_table}
use Rattle.wh_base.specs.Values.{is_small}
use Rattle.wh_base.specs.declared.tables.Change.{Change}
use Rattle.wh_check.specs.Fresh.{brings, changes_made, fresh_come}
use Rattle.wh_check.specs.Making.{CanMake, inserts_in, is_small_change}
use Rattle.wh_check.proofs.FreshSteps.{change_here, change_none, change_twice, equal_next, equal_self}
use Rattle.wh_check.proofs.Looked.{get_within, if_there, suc_zero, table_seen, there_if, zero_suc}
use Rattle.wh_dml.specs.Changes.{change_of}
use Rattle.wh_dml.specs.Placed.{AreNext, ArePlaced, IsNext, StandsAt, all_made, made, made_of}
use Rattle.wh_dml.specs.declared.changes.PlacedRow.{PlacedRow}
use Rattle.wh_dml.specs.declared.changes.RowChange.{RowChange}
use Rattle.wh_image.specs.Laws.{is_in}
use Rattle.wh_image.specs.Standing.{changed_at, is_change}
use Rattle.wh_segment.specs.Versions.{born_at, ended_at, is_live}
use Rattle.wh_segment.specs.declared.version.Version.{Version}
use Rattle.wh_table.specs.Kept.{defs_of, with_change}
use Rattle.wh_table.specs.Stored.{IsStored, Stored, base_seen, deletion, insertion, last_scn, live_count, rowid_at, seen, update, values_at}
use Rattle.wh_table.proofs.Counting.{all_from, last_append, last_ended, length_ended}
use Rattle.wh_table.proofs.Keeping.{count_deleted, count_inserted, count_updated, kept_deleted, kept_inserted, kept_updated}
use Rattle.wh_table.proofs.Ordered.{Each}
use Rattle.wh_table.proofs.Seen.{laws_hold, rowid_is}

-- ---- the row that a change takes away

record Stands (s : Stored) (rowid : ℕ) (q : PlacedRow) : Type 0 where
  version : Version
  at : slice_get s.versions q.place ≡ Some version
  live : is_live version ≡ true
  name : version.rowid ≡ rowid
  content : version.values ≡ Some q.values

stands : (s : Stored) (rowid : ℕ) (q : PlacedRow) → StandsAt s rowid q → Stands s rowid q
stands s rowid q h = by (slice_get s.versions q.place) refl h
  where
    by : (o : Option Version) → slice_get s.versions q.place ≡ o → IsSomeAnd o (λ v. IsTrue (is_live v) × ((v.rowid ≡ rowid) × (v.values ≡ Some q.values))) → Stands s rowid q
    by None e h = absurd h
    by (Some v) e h = record { version = v; at = e; live = h.0; name = h.1.0; content = h.1.1 }

values_are : (s : Stored) (rowid : ℕ) (q : PlacedRow) → Stands s rowid q → values_at s q.place ≡ q.values
values_are s rowid q h = ap (λ o. option_case o [] (λ v. unwrap_or v.values [])) h.at ∙ ap (λ o. unwrap_or o []) h.content

names_are : (s : Stored) (rowid : ℕ) (q : PlacedRow) → Stands s rowid q → rowid_at s q.place ≡ rowid
names_are s rowid q h = rowid_is s q.place h.version h.at ∙ h.name

-- ---- one change

abbrev pub as_change : ℕ → Option PlacedRow → Option PlacedRow → Change
as_change rowid old new = record { rowid = rowid; old = option_map (λ r. r.values) old; new = option_map (λ r. r.values) new }

abbrev pub Fits : Stored → ℕ → Option PlacedRow → Option PlacedRow → Type 0
Fits s rowid old new = (ForSome old (StandsAt s rowid)) × ((old ≡ None → rowid ≡ s.given + 1) × (old ≡ None → new ≡ None → ⊥))

pub fits : (s : Stored) (c : RowChange) → IsNext s c → Fits s c.rowid c.old c.new
fits s c h = (h.old, (h.next, h.some))

seen_step : (scn : ℕ) (s : Stored) (rowid : ℕ) (old new : Option PlacedRow) → IsStored s → last_scn s.versions ≤ scn → Fits s rowid old new
    → seen scn (made_of scn old new s) ≡ table_after (seen scn s) (as_change rowid old new ∷ [])
seen_step scn s rowid None None h settled f = absurd (f.1.1 refl refl)
seen_step scn s rowid None (Some r) h settled f =
    laws_hold.inserts s scn r.values scn h settled
    ∙ ap (λ b. cond b (table_after (seen scn s) (insertion s r.values ∷ [])) (seen scn s)) (le-leb scn scn (omega arith))
    ∙ ap (λ id. table_after (seen scn s) ((record { rowid = id; old = None; new = Some r.values }) ∷ [])) (sym (f.1.0 refl))
seen_step scn s rowid (Some q) None h settled f =
    let there = stands s rowid q (f.0 q refl) in
    laws_hold.deletes s scn q.place there.version scn h settled there.at there.live
    ∙ ap (λ b. cond b (table_after (seen scn s) (deletion s q.place ∷ [])) (seen scn s)) (le-leb scn scn (omega arith))
    ∙ (λ i. table_after (seen scn s) ((record { rowid = names_are s rowid q there i; old = Some (values_are s rowid q there i); new = None }) ∷ []))
seen_step scn s rowid (Some q) (Some r) h settled f =
    let there = stands s rowid q (f.0 q refl) in
    laws_hold.updates s scn q.place r.values there.version scn h settled there.at there.live
    ∙ ap (λ b. cond b (table_after (seen scn s) (update s q.place r.values ∷ [])) (seen scn s)) (le-leb scn scn (omega arith))
    ∙ (λ i. table_after (seen scn s) ((record { rowid = names_are s rowid q there i; old = Some (values_are s rowid q there i); new = Some r.values }) ∷ []))

last_step : (scn : ℕ) (s : Stored) (rowid : ℕ) (old new : Option PlacedRow) → last_scn s.versions ≤ scn → Fits s rowid old new → last_scn (made_of scn old new s).versions ≡ scn
last_step scn s rowid None None settled f = absurd (f.1.1 refl refl)
last_step scn s rowid None (Some r) settled f = let last = last_append s.versions (born_at scn (s.given + 1) 0 r.values) in omega (arith, last, settled)
last_step scn s rowid (Some q) None settled f =
    let there = stands s rowid q (f.0 q refl) in
    let last = last_ended s.versions q.place scn there.version there.at there.live in
    omega (arith, last, settled)
last_step scn s rowid (Some q) (Some r) settled f =
    let there = stands s rowid q (f.0 q refl) in
    let last = last_ended s.versions q.place scn there.version there.at there.live in
    let more = last_append (ended_at q.place scn s.versions) (born_at scn (rowid_at s q.place) 0 r.values) in
    omega (arith, last, more, settled)

longer_step : (scn : ℕ) (s : Stored) (rowid : ℕ) (old new : Option PlacedRow) → Fits s rowid old new → length s.versions + cond (is_some new) 1 0 ≤ length (made_of scn old new s).versions
longer_step scn s rowid None None f = omega arith
longer_step scn s rowid None (Some r) f = let longer = length_push s.versions (born_at scn (s.given + 1) 0 r.values) in omega (arith, longer)
longer_step scn s rowid (Some q) None f =
    let there = stands s rowid q (f.0 q refl) in
    let as_long = length_ended s.versions q.place scn there.version there.at in
    omega (arith, as_long)
longer_step scn s rowid (Some q) (Some r) f =
    let there = stands s rowid q (f.0 q refl) in
    let as_long = length_ended s.versions q.place scn there.version there.at in
    let longer = length_push (ended_at q.place scn s.versions) (born_at scn (rowid_at s q.place) 0 r.values) in
    omega (arith, as_long, longer)

live_step : (scn : ℕ) (s : Stored) (rowid : ℕ) (old new : Option PlacedRow) → Fits s rowid old new → live_count (made_of scn old new s) ≤ live_count s + cond (is_none old) 1 0
live_step scn s rowid None None f = absurd (f.1.1 refl refl)
live_step scn s rowid None (Some r) f = let count = count_inserted s scn r.values in omega (arith, count)
live_step scn s rowid (Some q) None f =
    let there = stands s rowid q (f.0 q refl) in
    let count = count_deleted s scn q.place there.version there.at there.live in
    omega (arith, count)
live_step scn s rowid (Some q) (Some r) f =
    let there = stands s rowid q (f.0 q refl) in
    let count = count_updated s scn q.place r.values there.version there.at there.live in
    omega (arith, count)

abbrev is_small_new : Option PlacedRow → Bool
is_small_new new = option_case new true (λ r. list_all is_small r.values)

kept_step : (scn : ℕ) (s : Stored) (rowid : ℕ) (old new : Option PlacedRow) → IsStored s → last_scn s.versions ≤ scn → Fits s rowid old new
    → live_count s + cond (is_none old) 1 0 ≤ most_live → length (made_of scn old new s).versions < 2 ^ 32 → is_small_new new ≡ true → IsStored (made_of scn old new s)
kept_step scn s rowid None None h settled f room bounded small = absurd (f.1.1 refl refl)
kept_step scn s rowid None (Some r) h settled f room bounded small =
    let longer = length_push s.versions (born_at scn (s.given + 1) 0 r.values) in
    kept_inserted s scn r.values h settled (omega (arith, room)) (omega (arith, longer, bounded)) small
kept_step scn s rowid (Some q) None h settled f room bounded small =
    let there = stands s rowid q (f.0 q refl) in
    kept_deleted s scn q.place there.version h settled there.at there.live
kept_step scn s rowid (Some q) (Some r) h settled f room bounded small =
    let there = stands s rowid q (f.0 q refl) in
    let as_long = length_ended s.versions q.place scn there.version there.at in
    let longer = length_push (ended_at q.place scn s.versions) (born_at scn (rowid_at s q.place) 0 r.values) in
    kept_updated s scn q.place r.values there.version h settled there.at there.live (omega (arith, as_long, longer, bounded)) small

def_step : (scn : ℕ) (s : Stored) (old new : Option PlacedRow) → (made_of scn old new s).def ≡ s.def
def_step scn s None None = refl
def_step scn s None (Some r) = refl
def_step scn s (Some q) None = refl
def_step scn s (Some q) (Some r) = refl

-- ---- changes of a table, one after another

pub inserts_more : (c : RowChange) (cs : List RowChange) → inserts_in (c ∷ cs) ≡ cond (is_none c.old) 1 0 + inserts_in cs
inserts_more c cs = by (is_none c.old)
  where
    by : (b : Bool) → length (cond b (c ∷ filter (λ d. is_none d.old) cs) (filter (λ d. is_none d.old) cs)) ≡ cond b 1 0 + length (filter (λ d. is_none d.old) cs)
    by true = omega arith
    by false = omega arith

pub after_none : (t : Table) → table_after t [] ≡ t
after_none t = let same : t.given + 0 ≡ t.given = omega arith in (λ i. record t { given = same i })

pub after_more : (t : Table) (c : Change) (cs : List Change) → table_after t (c ∷ cs) ≡ table_after (table_after t (c ∷ [])) cs
after_more t c cs =
    let all : count_by is_insert (c ∷ cs) ≡ cond (is_insert c) 1 0 + count_by is_insert cs = sum_by-cons (λ d. cond (is_insert d) 1 0) c cs in
    let one : count_by is_insert (c ∷ []) ≡ cond (is_insert c) 1 0 + count_by is_insert [] = sum_by-cons (λ d. cond (is_insert d) 1 0) c [] in
    let none : count_by is_insert [] ≡ 0 = refl in
    let sum : t.given + count_by is_insert (c ∷ cs) ≡ (t.given + count_by is_insert (c ∷ [])) + count_by is_insert cs = omega (arith, all, one, none) in
    (λ i. record t { rows = fold rows_after (rows_after t.rows c) cs; given = sum i })

pub longer_all : (scn : ℕ) (s : Stored) (cs : List RowChange) → AreNext scn s cs → length s.versions ≤ length (all_made scn cs s).versions
longer_all scn s [] h = omega arith
longer_all scn s (c ∷ cs) h =
    let one = longer_step scn s c.rowid c.old c.new (fits s c h.0) in
    let all = longer_all scn (made scn c s) cs h.1 in
    omega (arith, one, all)

shorter_step : (scn : ℕ) (s : Stored) (rowid : ℕ) (old new : Option PlacedRow) → Fits s rowid old new → length (made_of scn old new s).versions ≤ length s.versions + cond (is_some new) 1 0
shorter_step scn s rowid None None f = omega arith
shorter_step scn s rowid None (Some r) f = let longer = length_push s.versions (born_at scn (s.given + 1) 0 r.values) in omega (arith, longer)
shorter_step scn s rowid (Some q) None f =
    let there = stands s rowid q (f.0 q refl) in
    let as_long = length_ended s.versions q.place scn there.version there.at in
    omega (arith, as_long)
shorter_step scn s rowid (Some q) (Some r) f =
    let there = stands s rowid q (f.0 q refl) in
    let as_long = length_ended s.versions q.place scn there.version there.at in
    let longer = length_push (ended_at q.place scn s.versions) (born_at scn (rowid_at s q.place) 0 r.values) in
    omega (arith, as_long, longer)

-- no more places are taken than rows come
pub shorter_all : (scn : ℕ) (s : Stored) (cs : List RowChange) → AreNext scn s cs → length (all_made scn cs s).versions ≤ length s.versions + fresh_come cs
shorter_all scn s [] h = omega arith
shorter_all scn s (c ∷ cs) h =
    let one = shorter_step scn s c.rowid c.old c.new (fits s c h.0) in
    let all = shorter_all scn (made scn c s) cs h.1 in
    let count : fresh_come (c ∷ cs) ≡ cond (brings c) 1 0 + fresh_come cs = sum_by-cons (λ d. cond (brings d) 1 0) c cs in
    omega (arith, one, all, count)

-- What a table is after changes that fit it.
pub record IsMade (scn : ℕ) (s : Stored) (cs : List RowChange) : Type 0 where
  pub shown : seen scn (all_made scn cs s) ≡ table_after (seen scn s) (map change_of cs)
  pub stored : IsStored (all_made scn cs s)

pub is_made : (scn : ℕ) (s : Stored) (cs : List RowChange) → IsStored s → last_scn s.versions ≤ scn → AreNext scn s cs → live_count s + inserts_in cs ≤ most_live → list_all is_small_change cs ≡ true
    → length (all_made scn cs s).versions < 2 ^ 32 → IsMade scn s cs
is_made scn s [] h settled next room small bounded = record { shown = sym (after_none (seen scn s)); stored = h }
is_made scn s (c ∷ cs) h settled next room small bounded =
    let f = fits s c next.0 in
    let smalls = and_parts (is_small_change c) (list_all is_small_change cs) small in
    let count = inserts_more c cs in
    let long = longer_all scn (made scn c s) cs next.1 in
    let live = live_step scn s c.rowid c.old c.new f in
    let last = last_step scn s c.rowid c.old c.new settled f in
    let stored = kept_step scn s c.rowid c.old c.new h settled f (omega (arith, room, count)) (omega (arith, long, bounded)) smalls.0 in
    let rest = is_made scn (made scn c s) cs stored (omega (arith, last)) next.1 (omega (arith, room, count, live)) smalls.1 bounded in
    record {
      shown = rest.shown ∙ ap (λ t. table_after t (map change_of cs)) (seen_step scn s c.rowid c.old c.new h settled f) ∙ sym (after_more (seen scn s) (change_of c) (map change_of cs));
      stored = rest.stored;
    }

pub last_all : (scn : ℕ) (s : Stored) (cs : List RowChange) → last_scn s.versions ≤ scn → AreNext scn s cs → last_scn (all_made scn cs s).versions ≡ cond (is_empty cs) (last_scn s.versions) scn
last_all scn s [] settled next = refl
last_all scn s (c ∷ cs) settled next =
    let last = last_step scn s c.rowid c.old c.new settled (fits s c next.0) in
    last_all scn (made scn c s) cs (omega (arith, last)) next.1 ∙ ap (λ n. cond (is_empty cs) n scn) last ∙ same (is_empty cs)
  where
    same : (b : Bool) → cond b scn scn ≡ scn
    same true = refl
    same false = refl

pub def_all : (scn : ℕ) (s : Stored) (cs : List RowChange) → (all_made scn cs s).def ≡ s.def
def_all scn s [] = refl
def_all scn s (c ∷ cs) = def_all scn (made scn c s) cs ∙ def_step scn s c.old c.new

-- ---- a table among others

pub length_change : (change : Stored → Stored) (tables : List Stored) (n : ℕ) → length (with_change n change tables) ≡ length tables
length_change change [] n = refl
length_change change (s ∷ tables) zero = refl
length_change change (s ∷ tables) (suc n) = ap suc (length_change change tables n)

-- the base state with the changes
pub base_made : (scn : ℕ) (tables : List Stored) (n : ℕ) (s : Stored) (cs : List RowChange) → slice_get tables n ≡ Some s → seen scn (all_made scn cs s) ≡ table_after (seen scn s) (map change_of cs)
    → base_seen scn (with_change n (all_made scn cs) tables) ≡ with_table (base_seen scn tables) n (table_after (table_at (base_seen scn tables) n) (map change_of cs))
base_made scn tables n s cs e shown =
    laws_hold.changes (all_made scn cs) tables scn n s e
    ∙ ap (with_table (base_seen scn tables) n) (shown ∙ ap (λ t. table_after t (map change_of cs)) (sym (table_seen scn tables n s e)))

pub defs_made : (scn : ℕ) (cs : List RowChange) (tables : List Stored) (n : ℕ) → defs_of (with_change n (all_made scn cs) tables) ≡ defs_of tables
defs_made scn cs [] n = refl
defs_made scn cs (s ∷ tables) zero = ap (λ d. d ∷ defs_of tables) (def_all scn s cs)
defs_made scn cs (s ∷ tables) (suc n) = ap (λ ds. s.def ∷ ds) (defs_made scn cs tables n)

changed_with : (change : Stored → Stored) (tables : List Stored) (n m : ℕ) (s : Stored) → slice_get tables n ≡ Some s
    → changed_at (with_change n change tables) m ≡ cond (n == m) (last_scn (change s).versions) (changed_at tables m)
changed_with change [] n m s e = absurd (none-some s e)
changed_with change (t ∷ tables) zero zero s e = ap (λ u. last_scn (change u).versions) (same_Some t s e) ∙ sym (ap (λ b. cond b (last_scn (change s).versions) (last_scn t.versions)) (equal_self 0))
changed_with change (t ∷ tables) zero (suc m) s e = sym (ap (λ b. cond b (last_scn (change s).versions) (changed_at tables m)) (zero_suc m))
changed_with change (t ∷ tables) (suc n) zero s e = sym (ap (λ b. cond b (last_scn (change s).versions) (last_scn t.versions)) (suc_zero n))
changed_with change (t ∷ tables) (suc n) (suc m) s e = changed_with change tables n m s e ∙ sym (ap (λ b. cond b (last_scn (change s).versions) (changed_at tables m)) (equal_next n m))

is_in_made : (n m : ℕ) (cs : List RowChange) → is_in (changes_made n cs) m ≡ ((n == m) && not (is_empty cs))
is_in_made n m [] = sym (and_false (n == m))
  where
    and_false : (b : Bool) → (b && false) ≡ false
    and_false true = refl
    and_false false = refl
is_in_made n m (c ∷ cs) = ap (λ b. (n == m) || b) (is_in_made n m cs) ∙ by (n == m) (not (is_empty cs))
  where
    by : (p q : Bool) → (p || (p && q)) ≡ (p && true)
    by true q = refl
    by false q = refl

-- the last change of each table
pub moved_made : (scn : ℕ) (cs : List RowChange) (tables : List Stored) (n m : ℕ) (s : Stored) → slice_get tables n ≡ Some s → last_scn s.versions ≤ scn → AreNext scn s cs
    → changed_at (with_change n (all_made scn cs) tables) m ≡ cond (is_in (changes_made n cs) m) scn (changed_at tables m)
moved_made scn cs tables n m s e settled next =
    changed_with (all_made scn cs) tables n m s e
    ∙ ap (λ last. cond (n == m) last (changed_at tables m)) (last_all scn s cs settled next)
    ∙ by (n == m) refl (is_empty cs)
    ∙ ap (λ b. cond b scn (changed_at tables m)) (sym (is_in_made n m cs))
  where
    by : (b : Bool) → (n == m) ≡ b → (none : Bool) → cond b (cond none (last_scn s.versions) scn) (changed_at tables m) ≡ cond (b && not none) scn (changed_at tables m)
    by true same true = sym (ap (λ o. option_case o 0 (λ (t : Stored). last_scn t.versions)) (ap (slice_get tables) (sym (eqb-true n m same)) ∙ e))
    by true same false = refl
    by false same none = refl

-- each is a change
pub noted_made : (scn n : ℕ) (s : Stored) (cs : List RowChange) → AreNext scn s cs → All (λ d. is_change d.change ≡ true) (changes_made n cs)
noted_made scn n s cs next = all_from (λ d. is_change d.change ≡ true) (changes_made n cs) (each s cs next)
  where
    one : (rowid : ℕ) (old new : Option PlacedRow) → (old ≡ None → new ≡ None → ⊥) → is_change (as_change rowid old new) ≡ true
    one rowid None None some = absurd (some refl refl)
    one rowid None (Some r) some = refl
    one rowid (Some q) None some = refl
    one rowid (Some q) (Some r) some = refl

    each : (s : Stored) (cs : List RowChange) → AreNext scn s cs → Each (λ (d : TableChange). is_change d.change ≡ true) (changes_made n cs)
    each s [] next = tt
    each s (c ∷ cs) next = (one c.rowid c.old c.new next.0.some, each (made scn c s) cs next.1)

-- ---- rows that are inserted

-- the table has so many rows more
pub rows_inserted : (scn : ℕ) (s : Stored) (t : Table) (cs : List RowChange) → AreNext scn s cs → Each (λ (c : RowChange). is_none c.old ≡ true) cs → length (table_after t (map change_of cs)).rows ≡ length t.rows + length cs
rows_inserted scn s t cs next each = from s t.rows cs next each
  where
    one : (rows : List Row) (rowid : ℕ) (old new : Option PlacedRow) → (old ≡ None → new ≡ None → ⊥) → is_none old ≡ true → length (rows_after rows (as_change rowid old new)) ≡ length rows + 1
    one rows rowid None None some h = absurd (some refl refl)
    one rows rowid None (Some r) some h = length_push rows _
    one rows rowid (Some q) new some h = absurd (true≢false (sym h))

    from : (s : Stored) (rows : List Row) (cs : List RowChange) → AreNext scn s cs → Each (λ (c : RowChange). is_none c.old ≡ true) cs → length (fold rows_after rows (map change_of cs)) ≡ length rows + length cs
    from s rows [] next each = omega arith
    from s rows (c ∷ cs) next each =
        let first = one rows c.rowid c.old c.new next.0.some each.0 in
        let rest = from (made scn c s) (rows_after rows (change_of c)) cs next.1 each.1 in
        omega (arith, first, rest)

-- ---- change by change

-- Of all changes of a table so many are left to make.
pub record IsOn (scn n : ℕ) (all : List RowChange) (before : List Stored) (rest : List RowChange) (now : List Stored) : Type 0 where
  pub there : n < length now
  pub table : Stored
  pub at : slice_get now n ≡ Some table
  pub next : AreNext scn table rest
  pub room : live_count table + inserts_in rest ≤ most_live
  pub small : list_all is_small_change rest ≡ true
  pub list : with_change n (all_made scn rest) now ≡ with_change n (all_made scn all) before

pub on_begins : (scn n : ℕ) (all rest : List RowChange) (before : List Stored) → rest ≡ all → n < length before → IfSome (slice_get before n) (λ t. ArePlaced scn t all)
    → IfSome (slice_get before n) (λ t. live_count t + inserts_in all ≤ most_live) → IsTrue (list_all is_small_change all) → IsOn scn n all before rest before
on_begins scn n all rest before same there placed room small =
    let found = get_within before n there in
    subst (λ cs. IsOn scn n all before cs before) (sym same) (record {
      there = there;
      table = found.0;
      at = found.1;
      next = (if_there before n found.0 (λ t. ArePlaced scn t all) found.1 placed).next;
      room = if_there before n found.0 (λ t. live_count t + inserts_in all ≤ most_live) found.1 room;
      small = small;
      list = refl;
    })

pub on_can : (scn n : ℕ) (all : List RowChange) (before : List Stored) (c : RowChange) (cs rest : List RowChange) (now : List Stored) → IsOn scn n all before cs now → cs ≡ c ∷ rest
    → IfSome (slice_get now n) (λ t. CanMake t c)
on_can scn n all before c cs rest now on cut =
    let h : IsOn scn n all before (c ∷ rest) now = subst (λ ds. IsOn scn n all before ds now) cut on in
    let count = inserts_more c rest in
    let room = h.room in
    there_if now n h.table (λ t. CanMake t c) h.at (record {
      next = h.next.0;
      room = omega (arith, room, count);
      small = (and_parts (is_small_change c) (list_all is_small_change rest) h.small).0;
    })

pub on_more : (scn at n : ℕ) (all : List RowChange) (before : List Stored) (c : RowChange) (cs rest : List RowChange) (now new : List Stored) → IsOn scn n all before cs now → cs ≡ c ∷ rest → at ≡ scn
    → new ≡ with_change n (made at c) now → IsOn scn n all before rest new
on_more scn at n all before c cs rest now new on cut same changed =
    let h : IsOn scn n all before (c ∷ rest) now = subst (λ ds. IsOn scn n all before ds now) cut on in
    let is : new ≡ with_change n (made scn c) now = changed ∙ ap (λ m. with_change n (made m c) now) same in
    let count = inserts_more c rest in
    let live = live_step scn h.table c.rowid c.old c.new (fits h.table c h.next.0) in
    let room = h.room in
    record {
      there = subst (λ m. n < m) (sym (ap length is ∙ length_change (made scn c) now n)) h.there;
      table = made scn c h.table;
      at = ap (λ ts. slice_get ts n) is ∙ change_here (made scn c) now n h.table h.at;
      next = h.next.1;
      room = omega (arith, room, count, live);
      small = (and_parts (is_small_change c) (list_all is_small_change rest) h.small).1;
      list = ap (with_change n (all_made scn rest)) is ∙ change_twice (made scn c) (all_made scn rest) now n ∙ h.list;
    }

pub on_done : (scn n : ℕ) (all : List RowChange) (before : List Stored) (rest : List RowChange) (now : List Stored) → IsOn scn n all before rest now → length rest ≡ 0 → now ≡ with_change n (all_made scn all) before
on_done scn n all before [] now on none = sym (change_none now n) ∙ on.list
on_done scn n all before (c ∷ cs) now on none = absurd (omega (arith, none))

pub ruleset changing = (on_can)

pub ruleset counting = (inserts_more)
