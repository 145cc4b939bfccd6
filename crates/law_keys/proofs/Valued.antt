-- What an index of a foreign key has after changes of a table's rows, and how many of its places have a value.
use Rattle.std.proofs.Common.{◌≡◌, ◌∙◌, sym, ap, refl, subst, arith, ℕ, zero, suc, ◌+◌, ◌<◌, ◌≤◌, Bool, true, false, cond, List, [], ◌∷◌, ◌++◌, fold, length, map, Option, None, Some, nat_cmp, true≢false}
use Rattle.std.proofs.lemmas.Option.{none-some, same_Some}
use Rattle.std.specs.Cmp.{nat_cmp_total, eq_by_cmp_equiv}
use Rattle.std.specs.FinMap as fin
use Rattle.std.specs.List.{cons_option, filter}
use Rattle.std.specs.Option.{ForSome}
use Rattle.std.specs.Ordering.{eq_by_cmp}
use Rattle.wh_base.proofs.Sorting.{times}
use Rattle.wh_base.specs.Lists.{option_case, where_true}
use Rattle.wh_base.specs.Tables.{value_at}
use Rattle.wh_base.specs.Values.{same_value}
use Rattle.wh_base.specs.declared.values.Value.{Value}
use Rattle.def_meaning.specs.Meaning.{not_null}
use Rattle.wh_dml.specs.Placed.{AreNext, ArePlaced, StandsAt, all_made, made, made_of}
use Rattle.wh_dml.specs.declared.changes.PlacedRow.{PlacedRow}
use Rattle.wh_dml.specs.declared.changes.RowChange.{RowChange}
use Rattle.law_keys.proofs.Changed.{IsBelow, entry_of, stands, step_length}
use Rattle.law_keys.proofs.Counts.{length_filter, weight}
use Rattle.law_keys.proofs.Standing.{born_other, born_there, ended_other, ended_there, get_past, stood_there, value_there}
use Rattle.law_keys.proofs.Told.{below_all}
use Rattle.law_keys.specs.Fitting.{ValuesFit, count_in, has_value, value_in, value_of_row}
use Rattle.wh_keyindex.proofs.Looked.{is_equal}
use Rattle.wh_keyindex.proofs.Tallied.{one_if, passing-remove}
use Rattle.wh_keyindex.specs.Children.{Values, places_with}
use Rattle.wh_keys.specs.Indexes.{coming, entry_in, going, values_changed}
use Rattle.wh_segment.specs.Versions.{born_at, ended_at}
use Rattle.wh_segment.specs.declared.version.Version.{Version}
use Rattle.wh_table.proofs.Counting.{length_ended}
use Rattle.wh_table.proofs.Ordered.{Each}
use Rattle.wh_table.specs.Stored.{Stored, rowid_at}

-- ---- the map

abbrev same_number : ℕ → ℕ → Bool
same_number p k = eq_by_cmp nat_cmp p k

one_number : (p k : ℕ) → same_number p k ≡ true → p ≡ k
one_number p k h = fin.nat_cmp-IsAntisymmetric p k (is_equal (nat_cmp p k) h)

number_itself : (p k : ℕ) → p ≡ k → same_number p k ≡ true
number_itself p k e = subst (λ j. same_number p j ≡ true) e ((eq_by_cmp_equiv nat_cmp_total).refl p)

get_less : (m : Values) (k p : ℕ) → fin.get (fin.remove m k) p ≡ cond (same_number p k) None (fin.get m p)
get_less m k p = fin.get-remove nat_cmp_total m k p

get_more : (m : Values) (k : ℕ) (v : Value) (p : ℕ) → fin.get (fin.insert m k v) p ≡ cond (same_number p k) (Some v) (fin.get m p)
get_more m k v p = fin.get-insert nat_cmp_total m k v p

-- the map without the place of an entry, and with an entry
abbrev less : Values → Value × ℕ → Values
less m e = fin.remove m e.1

abbrev more : Values → Value × ℕ → Values
more m e = fin.insert m e.1 e.0

abbrev less_option : Values → Option (Value × ℕ) → Values
less_option m o = option_case o m (less m)

abbrev more_option : Values → Option (Value × ℕ) → Values
more_option m o = option_case o m (more m)

-- an entry taken out after another was put in at another place
turned : (m : Values) (k j : ℕ) (v : Value) → (k ≡ j → ⊥) → fin.remove (fin.insert m k v) j ≡ fin.insert (fin.remove m j) k v
turned m k j v apart =
    fin.same_map nat_cmp_total fin.nat_cmp-IsAntisymmetric _ _
    (λ p.
    get_less (fin.insert m k v) j p
    ∙ ap (λ o. cond (same_number p j) None o) (get_more m k v p)
    ∙ by p (same_number p j) refl (same_number p k) refl
    ∙ sym (get_more (fin.remove m j) k v p ∙ ap (λ o. cond (same_number p k) (Some v) o) (get_less m j p)))
  where
    by : (p : ℕ) (b : Bool) → same_number p j ≡ b → (c : Bool) → same_number p k ≡ c → cond b None (cond c (Some v) (fin.get m p)) ≡ cond c (Some v) (cond b None (fin.get m p))
    by p true e true f = absurd (apart (sym (one_number p k f) ∙ one_number p j e))
    by p true e false f = refl
    by p false e true f = refl
    by p false e false f = refl

all_turned : (n : ℕ) (es : List (Value × ℕ)) (m : Values) (o : Option (Value × ℕ)) → Each (λ e. e.1 < n) es → ForSome o (λ e. n ≤ e.1) → fold less (more_option m o) es ≡ more_option (fold less m es) o
all_turned n es m None below past = refl
all_turned n [] m (Some d) below past = refl
all_turned n (e ∷ es) m (Some d) below past =
    let beyond : n ≤ d.1 = past d refl in
    let under : e.1 < n = below.0 in
    ap (λ i. fold less i es) (turned m d.1 e.1 d.0 (λ same. omega (arith, same, beyond, under)))
    ∙ all_turned n es (fin.remove m e.1) (Some d) below.1 past

fold_option : {A B : Type 0} (f : B → A → B) (b : B) (o : Option A) (xs : List A) → fold f b (cons_option o xs) ≡ fold f (option_case o b (f b)) xs
fold_option f b None xs = refl
fold_option f b (Some x) xs = refl

-- the index after the first change
abbrev after_first : ℕ → Option PlacedRow → Option PlacedRow → Values → Values
after_first column old new m = more_option (less_option m (entry_of column old)) (entry_of column new)

-- the changes may be made in the index one after another
one_by_one : (column n : ℕ) (c : RowChange) (cs : List RowChange) (m : Values) → Each (λ e. e.1 < n) (going column cs) → ForSome (entry_of column c.new) (λ e. n ≤ e.1)
    → values_changed column (c ∷ cs) m ≡ values_changed column cs (after_first column c.old c.new m)
one_by_one column n c cs m below past =
    fold_option more (fold less m (going column (c ∷ cs))) (entry_of column c.new) (coming column cs)
    ∙ ap (λ i. fold more (more_option i (entry_of column c.new)) (coming column cs)) (fold_option less m (entry_of column c.old) (going column cs))
    ∙ ap (λ i. fold more i (coming column cs)) (sym (all_turned n (going column cs) (less_option m (entry_of column c.old)) (entry_of column c.new) below past))

-- ---- one change

-- the index has what stands at each place
abbrev IsExact : ℕ → Values → List Version → Type 0
IsExact column m vs = (p : ℕ) → fin.get m p ≡ value_there column vs p

without_old : (column scn rowid : ℕ) (s : Stored) (q : PlacedRow) (m : Values) → StandsAt s rowid q → IsExact column m s.versions
    → IsExact column (less_option m (entry_in column q)) (ended_at q.place scn s.versions)
without_old column scn rowid s q m h exact p = by (not_null (value_at q.values column)) refl
  where
    other : (p ≡ q.place → ⊥) → fin.get m p ≡ value_there column (ended_at q.place scn s.versions) p
    other apart = let at = stands s rowid q h in exact p ∙ sym (ended_other column scn s.versions q.place p at.version at.there apart)

    gone : p ≡ q.place → value_there column (ended_at q.place scn s.versions) p ≡ None
    gone e = let at = stands s rowid q h in ap (value_there column (ended_at q.place scn s.versions)) e ∙ ended_there column scn s.versions q.place at.version at.there

    one : (b : Bool) → same_number p q.place ≡ b → cond b None (fin.get m p) ≡ value_there column (ended_at q.place scn s.versions) p
    one true e = sym (gone (one_number p q.place e))
    one false e = other (λ same. true≢false (sym (number_itself p q.place same) ∙ e))

    null : not_null (value_at q.values column) ≡ false → (b : Bool) → same_number p q.place ≡ b → fin.get m p ≡ value_there column (ended_at q.place scn s.versions) p
    null f true e =
        exact p ∙ ap (value_there column s.versions) (one_number p q.place e) ∙ stood_there column s q (stands s rowid q h)
        ∙ ap (λ b. where_true b (value_at q.values column)) f
        ∙ sym (gone (one_number p q.place e))
    null f false e = other (λ same. true≢false (sym (number_itself p q.place same) ∙ e))

    by : (b : Bool) → not_null (value_at q.values column) ≡ b → fin.get (less_option m (where_true b (value_at q.values column, q.place))) p ≡ value_there column (ended_at q.place scn s.versions) p
    by true f = get_less m q.place p ∙ one (same_number p q.place) refl
    by false f = null f (same_number p q.place) refl

with_new : (column scn rowid : ℕ) (vs : List Version) (r : PlacedRow) (m : Values) → r.place ≡ length vs → IsExact column m vs
    → IsExact column (more_option m (entry_in column r)) (vs ++ born_at scn rowid 0 r.values ∷ [])
with_new column scn rowid vs r m at_end exact p = by (not_null (value_at r.values column)) refl
  where
    other : (p ≡ r.place → ⊥) → fin.get m p ≡ value_there column (vs ++ born_at scn rowid 0 r.values ∷ []) p
    other apart = exact p ∙ sym (born_other column vs (born_at scn rowid 0 r.values) p (λ e. apart (e ∙ sym at_end)))

    comes : p ≡ r.place → value_there column (vs ++ born_at scn rowid 0 r.values ∷ []) p ≡ value_of_row column r.values
    comes e = ap (value_there column (vs ++ born_at scn rowid 0 r.values ∷ [])) (e ∙ at_end) ∙ born_there column vs (born_at scn rowid 0 r.values)

    one : not_null (value_at r.values column) ≡ true → (b : Bool) → same_number p r.place ≡ b
        → cond b (Some (value_at r.values column)) (fin.get m p) ≡ value_there column (vs ++ born_at scn rowid 0 r.values ∷ []) p
    one f true e = sym (comes (one_number p r.place e) ∙ ap (λ b. where_true b (value_at r.values column)) f)
    one f false e = other (λ same. true≢false (sym (number_itself p r.place same) ∙ e))

    null : not_null (value_at r.values column) ≡ false → (b : Bool) → same_number p r.place ≡ b → fin.get m p ≡ value_there column (vs ++ born_at scn rowid 0 r.values ∷ []) p
    null f true e =
        exact p ∙ ap (value_there column vs) (one_number p r.place e ∙ at_end) ∙ ap (λ o. option_case o None (value_in column)) (get_past vs)
        ∙ sym (comes (one_number p r.place e) ∙ ap (λ b. where_true b (value_at r.values column)) f)
    null f false e = other (λ same. true≢false (sym (number_itself p r.place same) ∙ e))

    by : (b : Bool) → not_null (value_at r.values column) ≡ b
        → fin.get (more_option m (where_true b (value_at r.values column, r.place))) p ≡ value_there column (vs ++ born_at scn rowid 0 r.values ∷ []) p
    by true f = get_more m r.place (value_at r.values column) p ∙ one f (same_number p r.place) refl
    by false f = null f (same_number p r.place) refl

step_exact : (column scn rowid : ℕ) (s : Stored) (old new : Option PlacedRow) (m : Values) → ForSome old (StandsAt s rowid) → ForSome new (λ r. r.place ≡ length s.versions)
    → IsExact column m s.versions → IsExact column (after_first column old new m) (made_of scn old new s).versions
step_exact column scn rowid s None None m h at_end exact = exact
step_exact column scn rowid s None (Some r) m h at_end exact = with_new column scn (s.given + 1) s.versions r m (at_end r refl) exact
step_exact column scn rowid s (Some q) None m h at_end exact = without_old column scn rowid s q m (h q refl) exact
step_exact column scn rowid s (Some q) (Some r) m h at_end exact =
    let at = stands s rowid q (h q refl) in
    with_new column scn (rowid_at s q.place) (ended_at q.place scn s.versions) r (less_option m (entry_in column q)) (at_end r refl ∙ sym (length_ended s.versions q.place scn at.version at.there))
    (without_old column scn rowid s q m (h q refl) exact)

-- ---- all changes

going_below : (column n : ℕ) (cs : List RowChange) → Each (IsBelow n) cs → Each (λ e. e.1 < n) (going column cs)
going_below column n [] below = tt
going_below column n (c ∷ cs) below = by c.old below.0 (going_below column n cs below.1)
  where
    one : (r : PlacedRow) (b : Bool) → r.place < n → Each (λ e. e.1 < n) (going column cs) → Each (λ e. e.1 < n) (cons_option (where_true b (value_at r.values column, r.place)) (going column cs))
    one r true under rest = (under, rest)
    one r false under rest = rest

    by : (o : Option PlacedRow) → ForSome o (λ q. q.place < n) → Each (λ e. e.1 < n) (going column cs) → Each (λ e. e.1 < n) (cons_option (entry_of column o) (going column cs))
    by None under rest = rest
    by (Some q) under rest = one q (not_null (value_at q.values column)) (under q refl) rest

coming_past : (column n : ℕ) (o : Option PlacedRow) → ForSome o (λ r. n ≤ r.place) → ForSome (entry_of column o) (λ e. n ≤ e.1)
coming_past column n None past e is = absurd (none-some e is)
coming_past column n (Some r) past e is = by (not_null (value_at r.values column)) is
  where
    by : (b : Bool) → where_true b (value_at r.values column, r.place) ≡ Some e → n ≤ e.1
    by true f = subst (λ d. n ≤ d.1) (same_Some (value_at r.values column, r.place) e f) (past r refl)
    by false f = absurd (none-some e f)

all_exact : (column scn n : ℕ) (s : Stored) (cs : List RowChange) (m : Values) → AreNext scn s cs → Each (IsBelow n) cs → n ≤ length s.versions
    → IsExact column m s.versions → IsExact column (values_changed column cs m) (all_made scn cs s).versions
all_exact column scn n s [] m h below within exact = exact
all_exact column scn n s (c ∷ cs) m h below within exact =
    let longer = step_length scn c.rowid s c.old c.new h.0.old in
    let past = coming_past column n c.new (λ r is. (let at_end = h.0.new r is in omega (arith, at_end, within))) in
    subst (λ i. IsExact column i (all_made scn (c ∷ cs) s).versions) (sym (one_by_one column n c cs m (going_below column n cs below.1) past))
    (all_exact column scn n (made scn c s) cs (after_first column c.old c.new m) h.1 below.1 (omega (arith, longer, within))
    (step_exact column scn c.rowid s c.old c.new m h.0.old h.0.new exact))

pub values_fit : (scn : ℕ) (s : Stored) (column : ℕ) (cs : List RowChange) (m : Values) → ArePlaced scn s cs → ValuesFit s column m → ValuesFit (all_made scn cs s) column (values_changed column cs m)
values_fit scn s column cs m placed fit = record { exact = all_exact column scn (length s.versions) s cs m placed.next (below_all scn s cs placed) (omega arith) fit.exact }

-- ---- how many have a value

-- the index from a place on is that of these versions, and it has nothing below
record IsFrom (column start : ℕ) (m : Values) (vs : List Version) : Type 0 where
  below : (p : ℕ) → p < start → fin.get m p ≡ None
  from : (i : ℕ) → fin.get m (start + i) ≡ value_there column vs i

-- a place lower than the first is one of those below, else it is so far from it
place_cases : (P : ℕ → Type 0) (start p : ℕ) → (p < start → P p) → ((i : ℕ) → P (start + i)) → P p
place_cases P zero p low high = high_zero (high p)
  where
    high_zero : P (zero + p) → P p
    high_zero h = let e : zero + p ≡ p = omega arith in subst P e h
place_cases P (suc start) zero low high = low (omega arith)
place_cases P (suc start) (suc p) low high =
    place_cases (λ q. P (suc q)) start p (λ under. low (omega (arith, under)))
    (λ i. (let e : suc start + i ≡ suc (start + i) = omega arith in subst P e (high i)))

from_empty : (column start : ℕ) (m : Values) → IsFrom column start m [] → m ≡ fin.empty
from_empty column start m h =
    fin.same_map nat_cmp_total fin.nat_cmp-IsAntisymmetric _ _
    (λ p. place_cases (λ q. fin.get m q ≡ None) start p (h.below p) h.from ∙ sym (fin.get-empty nat_cmp p))

empty_passing : (v : Value) → places_with v fin.empty ≡ 0
empty_passing v = by (fin.entries {R = nat_cmp} fin.empty) (sym (fin.len-entries {R = nat_cmp} fin.empty) ∙ fin.len-empty nat_cmp Value)
  where
    by : (es : List (ℕ × Value)) → length es ≡ 0 → length (filter (same_value v) (map (λ e. e.1) es)) ≡ 0
    by [] e = refl
    by (x ∷ es) e = absurd (omega (arith, e))

next_from : (column start : ℕ) (m : Values) (w : Version) (vs : List Version) → IsFrom column start m (w ∷ vs) → IsFrom column (suc start) (fin.remove m start) vs
next_from column start m w vs h = record { below = under; from = on }
  where
    under : (p : ℕ) → p < suc start → fin.get (fin.remove m start) p ≡ None
    under p below = get_less m start p ∙ by (same_number p start) refl
      where
        by : (b : Bool) → same_number p start ≡ b → cond b None (fin.get m p) ≡ None
        by true e = refl
        by false e =
            let apart : p ≡ start → ⊥ = λ same. true≢false (sym (number_itself p start same) ∙ e) in
            h.below p (omega (arith, below, apart))

    on : (i : ℕ) → fin.get (fin.remove m start) (suc start + i) ≡ value_there column vs i
    on i = get_less m start (suc start + i) ∙ by (same_number (suc start + i) start) refl
      where
        by : (b : Bool) → same_number (suc start + i) start ≡ b → cond b None (fin.get m (suc start + i)) ≡ value_there column vs i
        by true e = let same = one_number (suc start + i) start e in absurd (omega (arith, same))
        by false e = let next : suc start + i ≡ start + suc i = omega arith in ap (fin.get m) next ∙ h.from (suc i)

counted_from : (v : Value) (column start : ℕ) (m : Values) (vs : List Version) → IsFrom column start m vs → places_with v m ≡ times (has_value column v) vs
counted_from v column start m [] h = ap (places_with v) (from_empty column start m h) ∙ empty_passing v
counted_from v column start m (w ∷ vs) h = by (value_in column w) first (counted_from v column (suc start) (fin.remove m start) vs (next_from column start m w vs h))
  where
    first : fin.get m start ≡ value_in column w
    first = let e : start ≡ start + 0 = omega arith in ap (fin.get m) e ∙ h.from 0

    one_is : (b : Bool) → one_if b ≡ weight b
    one_is true = refl
    one_is false = refl

    by : (o : Option Value) → fin.get m start ≡ o → places_with v (fin.remove m start) ≡ times (has_value column v) vs
        → places_with v m ≡ weight (option_case o false (same_value v)) + times (has_value column v) vs
    by None e rest =
        let same : fin.remove m start ≡ m = fin.same_map nat_cmp_total fin.nat_cmp-IsAntisymmetric _ _ (λ p. get_less m start p ∙ absent p (same_number p start) refl) in
        let stays : places_with v (fin.remove m start) ≡ places_with v m = ap (places_with v) same in
        omega (arith, rest, stays)
      where
        absent : (p : ℕ) (b : Bool) → same_number p start ≡ b → cond b None (fin.get m p) ≡ fin.get m p
        absent p true f = sym (ap (fin.get m) (one_number p start f) ∙ e)
        absent p false f = refl
    by (Some x) e rest =
        let one = passing-remove nat_cmp_total fin.nat_cmp-IsAntisymmetric (same_value v) m start x e in
        let weighed : one_if (same_value v x) ≡ weight (same_value v x) = one_is (same_value v x) in
        omega (arith, rest, one, weighed)

pub places_counted : (s : Stored) (column : ℕ) (m : Values) (v : Value) → ValuesFit s column m → places_with v m ≡ count_in s column v
places_counted s column m v fit =
    counted_from v column 0 m s.versions (record {
      below = λ p under. absurd (omega (arith, under));
      from = λ i. (let e : 0 + i ≡ i = omega arith in ap (fin.get m) e ∙ fit.exact i);
    })
    ∙ sym (length_filter (has_value column v) s.versions)
