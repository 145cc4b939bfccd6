-- Which value stands at each place after changes of a table's rows.
use Rattle.std.proofs.Common.{◌≡◌, ◌∙◌, sym, ap, refl, subst, arith, ℕ, zero, suc, ◌+◌, ◌<◌, ◌≤◌, Bool, true, false, List, [], ◌∷◌, ◌++◌, length, Option, None, Some, slice_get, slice_set}
use Rattle.std.proofs.lemmas.Option.{none-some, same_Some}
use Rattle.std.proofs.lemmas.List.{length_push}
use Rattle.std.specs.List.{cons_option}
use Rattle.std.specs.Option.{ForSome}
use Rattle.wh_base.specs.Lists.{option_case, where_true}
use Rattle.wh_base.specs.Tables.{value_at}
use Rattle.wh_base.specs.declared.values.Value.{Value}
use Rattle.def_meaning.specs.Meaning.{not_null}
use Rattle.wh_dml.specs.Placed.{AreNext, StandsAt, all_made, made, made_of}
use Rattle.wh_dml.specs.declared.changes.PlacedRow.{PlacedRow}
use Rattle.wh_dml.specs.declared.changes.RowChange.{RowChange}
use Rattle.law_keys.proofs.Changed.{IsBelow, Stands, entries_more, entries_with, entry_of, has_entry, live_value, stands, step_length}
use Rattle.law_keys.proofs.Counts.{weight, weight_one}
use Rattle.law_keys.proofs.Repeated.{same_itself}
use Rattle.law_keys.specs.Fitting.{value_in, value_of_row}
use Rattle.wh_keys.specs.Indexes.{coming, entry_in, going}
use Rattle.wh_segment.specs.Versions.{born_at, ended, ended_at}
use Rattle.wh_segment.specs.declared.version.Version.{Version}
use Rattle.wh_table.proofs.Counting.{ended_is, length_ended}
use Rattle.wh_table.proofs.Ordered.{Each}
use Rattle.wh_table.specs.Stored.{Stored, rowid_at}

-- the value of a column at a place now
abbrev pub value_there : ℕ → List Version → ℕ → Option Value
value_there column vs place = option_case (slice_get vs place) None (value_in column)

-- ---- lists

get_other : (vs : List Version) (k p : ℕ) (w : Version) → (p ≡ k → ⊥) → slice_get (slice_set vs k w) p ≡ slice_get vs p
get_other [] k p w h = refl
get_other (v ∷ vs) zero zero w h = absurd (h refl)
get_other (v ∷ vs) zero (suc p) w h = refl
get_other (v ∷ vs) (suc k) zero w h = refl
get_other (v ∷ vs) (suc k) (suc p) w h = get_other vs k p w (λ e. h (ap suc e))

get_set : (vs : List Version) (k : ℕ) (v w : Version) → slice_get vs k ≡ Some v → slice_get (slice_set vs k w) k ≡ Some w
get_set [] k v w e = absurd (none-some v e)
get_set (u ∷ vs) zero v w e = refl
get_set (u ∷ vs) (suc k) v w e = get_set vs k v w e

get_old : (vs : List Version) (w : Version) (p : ℕ) → (p ≡ length vs → ⊥) → slice_get (vs ++ w ∷ []) p ≡ slice_get vs p
get_old [] w zero h = absurd (h refl)
get_old [] w (suc p) h = refl
get_old (v ∷ vs) w zero h = refl
get_old (v ∷ vs) w (suc p) h = get_old vs w p (λ e. h (ap suc e))

get_new : (vs : List Version) (w : Version) → slice_get (vs ++ w ∷ []) (length vs) ≡ Some w
get_new [] w = refl
get_new (v ∷ vs) w = get_new vs w

pub get_past : (vs : List Version) → slice_get vs (length vs) ≡ None
get_past [] = refl
get_past (v ∷ vs) = get_past vs

get_within : (vs : List Version) (p : ℕ) (v : Version) → slice_get vs p ≡ Some v → p < length vs
get_within [] p v e = absurd (none-some v e)
get_within (w ∷ vs) zero v e = omega arith
get_within (w ∷ vs) (suc p) v e = omega (arith, get_within vs p v e)

-- ---- one change

pub ended_there : (column scn : ℕ) (vs : List Version) (k : ℕ) (w : Version) → slice_get vs k ≡ Some w → value_there column (ended_at k scn vs) k ≡ None
ended_there column scn vs k w e =
    ap (λ us. value_there column us k) (ended_is vs k scn w e) ∙ ap (λ o. option_case o None (value_in column)) (get_set vs k w (ended scn w) e)

pub ended_other : (column scn : ℕ) (vs : List Version) (k p : ℕ) (w : Version) → slice_get vs k ≡ Some w → (p ≡ k → ⊥) → value_there column (ended_at k scn vs) p ≡ value_there column vs p
ended_other column scn vs k p w e h =
    ap (λ us. value_there column us p) (ended_is vs k scn w e) ∙ ap (λ o. option_case o None (value_in column)) (get_other vs k p (ended scn w) h)

pub born_there : (column : ℕ) (vs : List Version) (w : Version) → value_there column (vs ++ w ∷ []) (length vs) ≡ value_in column w
born_there column vs w = ap (λ o. option_case o None (value_in column)) (get_new vs w)

pub born_other : (column : ℕ) (vs : List Version) (w : Version) (p : ℕ) → (p ≡ length vs → ⊥) → value_there column (vs ++ w ∷ []) p ≡ value_there column vs p
born_other column vs w p h = ap (λ o. option_case o None (value_in column)) (get_old vs w p h)

-- a place that is neither that of the row that goes nor that of the row that comes
step_other : (column scn rowid : ℕ) (s : Stored) (old new : Option PlacedRow) (p : ℕ) → ForSome old (StandsAt s rowid) → p < length s.versions → ForSome old (λ q. p ≡ q.place → ⊥)
    → value_there column (made_of scn old new s).versions p ≡ value_there column s.versions p
step_other column scn rowid s None None p h within other = refl
step_other column scn rowid s None (Some r) p h within other = born_other column s.versions (born_at scn (s.given + 1) 0 r.values) p (λ e. omega (arith, e, within))
step_other column scn rowid s (Some q) None p h within other =
    let at = stands s rowid q (h q refl) in
    ended_other column scn s.versions q.place p at.version at.there (other q refl)
step_other column scn rowid s (Some q) (Some r) p h within other =
    let at = stands s rowid q (h q refl) in
    let as_long = length_ended s.versions q.place scn at.version at.there in
    born_other column (ended_at q.place scn s.versions) (born_at scn (rowid_at s q.place) 0 r.values) p (λ e. omega (arith, e, within, as_long))
    ∙ ended_other column scn s.versions q.place p at.version at.there (other q refl)

-- the row that comes stands at its place
step_comes : (column scn rowid : ℕ) (s : Stored) (old : Option PlacedRow) (r : PlacedRow) → ForSome old (StandsAt s rowid) → r.place ≡ length s.versions
    → value_there column (made_of scn old (Some r) s).versions r.place ≡ value_of_row column r.values
step_comes column scn rowid s None r h at_end =
    let w = born_at scn (s.given + 1) 0 r.values in
    ap (value_there column (s.versions ++ w ∷ [])) at_end ∙ born_there column s.versions w
step_comes column scn rowid s (Some q) r h at_end =
    let at = stands s rowid q (h q refl) in
    let w = born_at scn (rowid_at s q.place) 0 r.values in
    let as_long = length_ended s.versions q.place scn at.version at.there in
    ap (value_there column (ended_at q.place scn s.versions ++ w ∷ [])) (at_end ∙ sym as_long) ∙ born_there column (ended_at q.place scn s.versions) w

pub stood_there : (column : ℕ) (s : Stored) (q : PlacedRow) → Stands s.versions q.place q.values → value_there column s.versions q.place ≡ value_of_row column q.values
stood_there column s q at = ap (λ o. option_case o None (value_in column)) at.there ∙ live_value column at.version q.values at.live at.has

pub step_longer : (scn rowid : ℕ) (s : Stored) (old : Option PlacedRow) (r : PlacedRow) → ForSome old (StandsAt s rowid) → length s.versions < length (made_of scn old (Some r) s).versions
step_longer scn rowid s None r h = omega (arith, length_push s.versions (born_at scn (s.given + 1) 0 r.values))
step_longer scn rowid s (Some q) r h =
    let at = stands s rowid q (h q refl) in
    omega (arith, length_ended s.versions q.place scn at.version at.there, length_push (ended_at q.place scn s.versions) (born_at scn (rowid_at s q.place) 0 r.values))

-- ---- all changes

-- places from the n-th on stay as they are
stays : (column scn n : ℕ) (s : Stored) (cs : List RowChange) (p : ℕ) → AreNext scn s cs → Each (IsBelow n) cs → n ≤ p → p < length s.versions
    → value_there column (all_made scn cs s).versions p ≡ value_there column s.versions p
stays column scn n s [] p h below past within = refl
stays column scn n s (c ∷ cs) p h below past within =
    let longer = step_length scn c.rowid s c.old c.new h.0.old in
    stays column scn n (made scn c s) cs p h.1 below.1 past (omega (arith, longer, within))
    ∙ step_other column scn c.rowid s c.old c.new p h.0.old within
    (λ q is e. (let under = below.0 q is in omega (arith, under, past, e)))

-- each entry that comes is found at its place at the end
pub coming_stand : (column scn n : ℕ) (s : Stored) (cs : List RowChange) → AreNext scn s cs → Each (IsBelow n) cs → n ≤ length s.versions
    → Each (λ e. value_there column (all_made scn cs s).versions e.1 ≡ Some e.0) (coming column cs)
coming_stand column scn n s [] h below within = tt
coming_stand column scn n s (c ∷ cs) h below within =
    let longer = step_length scn c.rowid s c.old c.new h.0.old in
    by c.new refl (coming_stand column scn n (made scn c s) cs h.1 below.1 (omega (arith, longer, within)))
  where
    end : List Version
    end = (all_made scn (c ∷ cs) s).versions

    one : (r : PlacedRow) (b : Bool) → (b ≡ true → value_there column end r.place ≡ Some (value_at r.values column)) → Each (λ e. value_there column end e.1 ≡ Some e.0) (coming column cs)
        → Each (λ e. value_there column end e.1 ≡ Some e.0) (cons_option (where_true b (value_at r.values column, r.place)) (coming column cs))
    one r true there rest = (there refl, rest)
    one r false there rest = rest

    by : (o : Option PlacedRow) → c.new ≡ o → Each (λ e. value_there column end e.1 ≡ Some e.0) (coming column cs)
        → Each (λ e. value_there column end e.1 ≡ Some e.0) (cons_option (entry_of column o) (coming column cs))
    by None e rest = rest
    by (Some r) e rest =
        let at_end : r.place ≡ length s.versions = h.0.new r e in
        let comes : value_there column (made scn c s).versions r.place ≡ value_of_row column r.values =
        subst (λ o. value_there column (made_of scn c.old o s).versions r.place ≡ value_of_row column r.values) (sym e) (step_comes column scn c.rowid s c.old r h.0.old at_end) in
        let longer : length s.versions < length (made scn c s).versions = subst (λ o. length s.versions < length (made_of scn c.old o s).versions) (sym e) (step_longer scn c.rowid s c.old r h.0.old) in
        let there = stays column scn n (made scn c s) cs r.place h.1 below.1 (omega (arith, at_end, within)) (omega (arith, at_end, longer)) ∙ comes in
        one r (not_null (value_at r.values column)) (λ f. there ∙ ap (λ b. where_true b (value_at r.values column)) f) rest

-- a value of which no row goes stays at its place
pub kept : (v : Value) (column scn : ℕ) (s : Stored) (cs : List RowChange) (p : ℕ) → AreNext scn s cs → value_there column s.versions p ≡ Some v → entries_with v (going column cs) ≡ 0
    → value_there column (all_made scn cs s).versions p ≡ Some v
kept v column scn s [] p h there none = there
kept v column scn s (c ∷ cs) p h there none =
    let more = entries_more v (entry_of column c.old) (going column cs) in
    kept v column scn (made scn c s) cs p h.1
    (step_other column scn c.rowid s c.old c.new p h.0.old (within (slice_get s.versions p) refl there) (λ q is e. not_its q is e (omega (arith, more, none))) ∙ there)
    (omega (arith, more, none))
  where
    within : (o : Option Version) → slice_get s.versions p ≡ o → option_case o None (value_in column) ≡ Some v → p < length s.versions
    within None e k = absurd (none-some v k)
    within (Some w) e k = get_within s.versions p w e

    has_it : (b : Bool) (x : Value) (place : ℕ) → where_true b x ≡ Some v → has_entry v (where_true b (x, place)) ≡ true
    has_it true x place e = ap (λ u. same_of u) (same_Some x v e) ∙ same_itself v
      where
        same_of : Value → Bool
        same_of u = has_entry v (Some (u, place))
    has_it false x place e = absurd (none-some v e)

    not_its : (q : PlacedRow) → c.old ≡ Some q → p ≡ q.place → weight (has_entry v (entry_of column c.old)) ≡ 0 → ⊥
    not_its q is e none_left =
        let value : value_of_row column q.values ≡ Some v = sym (stood_there column s q (stands s c.rowid q (h.0.old q is))) ∙ ap (value_there column s.versions) (sym e) ∙ there in
        let has = has_it (not_null (value_at q.values column)) (value_at q.values column) q.place value in
        let one : weight (has_entry v (entry_of column c.old)) ≡ 1 = ap (λ o. weight (has_entry v (entry_of column o))) is ∙ weight_one (has_entry v (entry_in column q)) has in
        omega (arith, one, none_left)
