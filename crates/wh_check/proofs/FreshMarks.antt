-- A live row was made at the block's SCN exactly where the block's changes wrote it, after each change of a table.
use Rattle.std.proofs.Common.{◌≡◌, ◌∙◌, sym, ap, refl, subst, arith, ℕ, zero, suc, ◌+◌, ◌≤◌, Bool, true, false, ◌&&◌, ◌||◌, ◌==◌, List, [], ◌∷◌, ◌++◌, Option, None, Some, is_some, slice_get, true≢false}
use Rattle.std.proofs.Math.Bool.{or-false, or-true}
use Rattle.std.proofs.lemmas.Option.{none-some, same_Some}
use Rattle.std.proofs.lemmas.Bool.{eq-eqb, eqb-true}
use Rattle.std.proofs.lemmas.List.{append-nil, append_assoc}
use Rattle.std.proofs.lemmas.List.Elements.{filter_map-append}
use Rattle.std.proofs.lemmas.List.Folds.{list_any-append}
use Rattle.std.specs.List.{All, filter_map, list_any}
use Rattle.std.specs.Prelude.{option_map}
use Rattle.def_effect.specs.Block.{same_place, written_row}
use Rattle.wh_base.specs.Tables.{TableChange}
use Rattle.wh_base.specs.declared.values.Value.{Value}
use Rattle.wh_check.specs.Fresh.{AreMarked, change_made, changes_made, was_written}
use Rattle.wh_check.proofs.FreshSteps.{IsTidy, change_beside, change_here, change_none, change_twice, equal_self, other_rowid, step_case, tidy_made, tidy_stored, unequal}
use Rattle.wh_dml.specs.Placed.{AreNext, ArePlaced, IsNext, all_made, made}
use Rattle.wh_dml.specs.declared.changes.PlacedRow.{PlacedRow}
use Rattle.wh_dml.specs.declared.changes.RowChange.{RowChange}
use Rattle.wh_segment.specs.Versions.{is_live}
use Rattle.wh_segment.specs.declared.version.Version.{Version}
use Rattle.wh_table.specs.Kept.{with_change}
use Rattle.wh_table.specs.Stored.{IsStored, Stored, changed_at, last_scn}
use Rattle.wh_table.proofs.Counting.{each_from, each_get}

-- ---- before the block

-- a version was born by the SCN of the last change
pub born_by_last : (vs : List Version) (i : ℕ) (v : Version) → slice_get vs i ≡ Some v → v.born ≤ last_scn vs
born_by_last [] i v e = absurd (none-some v e)
born_by_last (w ∷ vs) zero v e =
    let here : w.born ≤ changed_at w = omega arith in
    let same : w.born ≡ v.born = ap (λ u. u.born) (same_Some w v e) in
    omega (arith, here, same)
born_by_last (w ∷ vs) (suc i) v e = let later = born_by_last vs i v e in omega (arith, later)

pub marks_none : (scn : ℕ) (tables : List Stored) → All (λ s. last_scn s.versions ≤ scn) tables → AreMarked (scn + 1) tables []
marks_none scn tables h = record {
  marked = λ n place s v e f live.
      (let settled : last_scn s.versions ≤ scn = each_get (λ (s : Stored). last_scn s.versions ≤ scn) tables n s e (each_from (λ (s : Stored). last_scn s.versions ≤ scn) tables h) in
      let born = born_by_last s.versions place v f in
      unequal v.born (scn + 1) (λ same. omega (arith, settled, born, same)));
}

-- ---- what changes wrote

last_written : (n m id rowid : ℕ) (old : Option (List Value)) (new : Option PlacedRow)
    → list_any (same_place (m, id)) (filter_map written_row (record { table = n; change = record { rowid = rowid; old = old; new = option_map (λ r. r.values) new } } ∷ []))
    ≡ (is_some new && ((m == n) && (id == rowid)))
last_written n m id rowid old None = refl
last_written n m id rowid old (Some r) = or-false ((m == n) && (id == rowid))

pub written_more : (changes : List TableChange) (n : ℕ) (c : RowChange) (m id : ℕ)
    → was_written (changes ++ change_made n c ∷ []) m id ≡ (was_written changes m id || (is_some c.new && ((m == n) && (id == c.rowid))))
written_more changes n c m id =
    ap (list_any (same_place (m, id))) (filter_map-append written_row changes (change_made n c ∷ []))
    ∙ list_any-append (same_place (m, id)) (filter_map written_row changes) (filter_map written_row (change_made n c ∷ []))
    ∙ ap (λ b. was_written changes m id || b) (last_written n m id c.rowid (option_map (λ r. r.values) c.old) c.new)

-- ---- one change

more_true : (a b c d : Bool) → b ≡ true → c ≡ true → d ≡ true → (a || (b && (c && d))) ≡ true
more_true a b c d f g h = ap (λ x. a || (x && (c && d))) f ∙ ap (λ x. a || (x && d)) g ∙ ap (λ x. a || x) h ∙ or-true a

more_same : (a b c d : Bool) → d ≡ false → (a || (b && (c && d))) ≡ a
more_same a b c d h = ap (λ x. a || (b && (c && x))) h ∙ by b c
  where
    by : (b c : Bool) → (a || (b && (c && false))) ≡ a
    by true true = or-false a
    by true false = or-false a
    by false c = or-false a

more_beside : (a b c d : Bool) → c ≡ false → (a || (b && (c && d))) ≡ a
more_beside a b c d h = ap (λ x. a || (b && (x && d))) h ∙ by b
  where
    by : (b : Bool) → (a || (b && false)) ≡ a
    by true = or-false a
    by false = or-false a

-- in the table that is changed
mark_here : (scn n : ℕ) (s : Stored) (c : RowChange) (W : ℕ → ℕ → Bool) → IsTidy s → IsNext s c → ((place : ℕ) (v : Version) → slice_get s.versions place ≡ Some v → is_live v ≡ true → (v.born == scn) ≡ W n v.rowid)
    → (place : ℕ) (v : Version) → slice_get (made scn c s).versions place ≡ Some v → is_live v ≡ true → (v.born == scn) ≡ (W n v.rowid || (is_some c.new && ((n == n) && (v.rowid == c.rowid))))
mark_here scn n s c W tidy h marks place v e live =
    step_case scn c.rowid c.old c.new s place v ((v.born == scn) ≡ (W n v.rowid || (is_some c.new && ((n == n) && (v.rowid == c.rowid))))) h.old h.next e live
    (λ at born id some. eq-eqb v.born scn born ∙ sym (more_true (W n v.rowid) (is_some c.new) (n == n) (v.rowid == c.rowid) some (equal_self n) (eq-eqb v.rowid c.rowid id)))
    (λ f apart. marks place v f live
    ∙ sym (more_same (W n v.rowid) (is_some c.new) (n == n) (v.rowid == c.rowid) (unequal v.rowid c.rowid (other_rowid c.rowid c.old s place v tidy h.old h.next f live apart))))

pub mark_made : (scn : ℕ) (tables : List Stored) (changes : List TableChange) (n : ℕ) (s : Stored) (c : RowChange) → IsTidy s → IsNext s c → slice_get tables n ≡ Some s → AreMarked scn tables changes
    → AreMarked scn (with_change n (made scn c) tables) (changes ++ change_made n c ∷ [])
mark_made scn tables changes n s c tidy h there marks = record {
  marked = λ m place t v e f live. by m place t v e f live (n == m) refl ∙ sym (written_more changes n c m v.rowid);
}
  where
    by : (m place : ℕ) (t : Stored) (v : Version) → slice_get (with_change n (made scn c) tables) m ≡ Some t → slice_get t.versions place ≡ Some v → is_live v ≡ true → (b : Bool) → (n == m) ≡ b
        → (v.born == scn) ≡ (was_written changes m v.rowid || (is_some c.new && ((m == n) && (v.rowid == c.rowid))))
    by m place t v e f live true same =
        let at : n ≡ m = eqb-true n m same in
        let is : made scn c s ≡ t = same_Some (made scn c s) t (sym (change_here (made scn c) tables n s there) ∙ ap (slice_get (with_change n (made scn c) tables)) at ∙ e) in
        subst (λ k. (v.born == scn) ≡ (was_written changes k v.rowid || (is_some c.new && ((k == n) && (v.rowid == c.rowid))))) at
        (mark_here scn n s c (was_written changes) tidy h (λ p w g lives. marks.marked n p s w there g lives) place v (ap (λ (u : Stored). slice_get u.versions place) is ∙ f) live)
    by m place t v e f live false apart =
        marks.marked m place t v (sym (change_beside (made scn c) tables n m apart) ∙ e) f live
        ∙ sym (more_beside (was_written changes m v.rowid) (is_some c.new) (m == n) (v.rowid == c.rowid) (unequal m n (λ same. true≢false (sym (eq-eqb n m (sym same)) ∙ apart))))

-- ---- all changes of a statement

pub marks_tidy : (scn : ℕ) (cs : List RowChange) (tables : List Stored) (changes : List TableChange) (n : ℕ) (s : Stored) → IsTidy s → slice_get tables n ≡ Some s → AreNext scn s cs → AreMarked scn tables changes
    → AreMarked scn (with_change n (all_made scn cs) tables) (changes ++ changes_made n cs)
marks_tidy scn [] tables changes n s tidy there h marks =
    subst (λ ts. AreMarked scn ts (changes ++ [])) (sym (change_none tables n)) (subst (AreMarked scn tables) (sym (append-nil changes)) marks)
marks_tidy scn (c ∷ cs) tables changes n s tidy there h marks =
    let rest : AreMarked scn (with_change n (all_made scn cs) (with_change n (made scn c) tables)) ((changes ++ change_made n c ∷ []) ++ changes_made n cs) =
    marks_tidy scn cs (with_change n (made scn c) tables) (changes ++ change_made n c ∷ []) n (made scn c s) (tidy_made scn c s tidy h.0) (change_here (made scn c) tables n s there) h.1
    (mark_made scn tables changes n s c tidy h.0 there marks) in
    subst (λ ts. AreMarked scn ts (changes ++ changes_made n (c ∷ cs))) (change_twice (made scn c) (all_made scn cs) tables n)
    (subst (AreMarked scn (with_change n (all_made scn cs) (with_change n (made scn c) tables))) (append_assoc changes (change_made n c ∷ []) (changes_made n cs)) rest)

pub marks_more : (scn : ℕ) (tables : List Stored) (changes : List TableChange) (n : ℕ) (s : Stored) (cs : List RowChange) → All IsStored tables → All (λ s. last_scn s.versions ≤ scn) tables → AreMarked scn tables changes
    → slice_get tables n ≡ Some s → ArePlaced scn s cs → AreMarked scn (with_change n (all_made scn cs) tables) (changes ++ changes_made n cs)
marks_more scn tables changes n s cs stored settled marks there placed =
    marks_tidy scn cs tables changes n s
    (tidy_stored scn s (each_get IsStored tables n s there (each_from IsStored tables stored))
    (each_get (λ (s : Stored). last_scn s.versions ≤ scn) tables n s there (each_from (λ (s : Stored). last_scn s.versions ≤ scn) tables settled))) there placed.next marks
