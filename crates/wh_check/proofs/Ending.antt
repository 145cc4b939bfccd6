-- What comes of changes that are asked of a table, by the definitions.
use Rattle.std.proofs.Common.{◌≡◌, ◌∙◌, sym, ap, subst, refl, arith, ℕ, suc, ◌+◌, ◌<◌, ◌≤◌, ◌^◌, Bool, true, false, cond, ◌&&◌, List, [], ◌∷◌, ◌++◌, length, map, Option, Some, None, IfSome, IsTrue, slice_get, nat_lt}
use Rattle.std.proofs.lemmas.Option.{same_Some}
use Rattle.std.proofs.lemmas.Bool.{lt-ltb, ltb-false, ltb-true}
use Rattle.std.proofs.lemmas.List.{length-map}
use Rattle.std.specs.List.{All, filter, list_all}
use Rattle.std.specs.Prelude.{Result, is_none}
use Rattle.def_effect.specs.Block.{Progress, Stopped, changed_row_refusal, final_refusal, made_changes, max_rows, max_versions, new_versions, stop_at}
use Rattle.def_effect.proofs.Moving.{made-as_asked, unmoved-whole}
use Rattle.wh_base.specs.Lists.{first_of, first_some, where_true}
use Rattle.wh_base.specs.Tables.{Base, Table, TableChange, most_live, table_after, table_at, with_table}
use Rattle.wh_base.specs.declared.replies.Refusal.{Refusal}
use Rattle.wh_base.specs.declared.replies.Refusal.TheVariants.{TableFull, VersionsFull}
use Rattle.wh_base.specs.declared.tables.Change.{Change}
use Rattle.wh_base.specs.declared.tables.TableDef.{TableDef}
use Rattle.wh_check.specs.Fresh.{AreMarked, changes_made, fresh_come, fresh_gone, fresh_of}
use Rattle.wh_check.specs.Making.{AreWhole, Fails, Goes, HaveShape, HaveShapeOnceFit, ask_step, asked_refusal, asks_of, change_refusal, changes_refusal, done_at, has_places, inserts_in, is_small_change, room_refusal, versions_refusal}
use Rattle.wh_check.proofs.Final.{constraints_refusal, final_is, limits, placed_refusal, placed_refusals, whole_at}
use Rattle.wh_check.proofs.FreshCounts.{counted, fresh_enough, fresh_then}
use Rattle.wh_check.proofs.FreshMarks.{marks_more}
use Rattle.wh_check.proofs.FreshSteps.{change_here}
use Rattle.wh_check.proofs.Looked.{if_there, live_few, rows_seen, settled_at, stored_at, table_in, table_seen}
use Rattle.wh_check.proofs.Inserted.{all_inserted, are_named}
use Rattle.wh_check.proofs.Made.{base_made, def_all, defs_made, is_made, length_change, moved_made, noted_made, rows_inserted, shorter_all}
use Rattle.wh_check.proofs.Shapes.{first_none}
use Rattle.wh_constraints.specs.Constraints.{keys_refusal}
use Rattle.wh_dml.specs.Changes.{change_of}
use Rattle.wh_dml.specs.Placed.{ArePlaced, all_made}
use Rattle.wh_dml.specs.declared.changes.RowChange.{RowChange}
use Rattle.wh_image.specs.Standing.{changed_at}
use Rattle.wh_table.specs.Kept.{with_change}
use Rattle.wh_table.specs.Stored.{IsStored, Stored, base_seen, last_scn, live_count, seen}
use Rattle.wh_table.proofs.Counting.{each_from}
use Rattle.wh_table.proofs.Ordered.{Each}

-- ---- how many rows are inserted

all_inserts : (cs : List RowChange) → Each (λ (c : RowChange). is_none c.old ≡ true) cs → inserts_in cs ≡ length cs
all_inserts [] h = refl
all_inserts (c ∷ cs) h = ap (λ b. length (cond b (c ∷ filter (λ d. is_none d.old) cs) (filter (λ d. is_none d.old) cs))) h.0 ∙ ap suc (all_inserts cs h.1)

no_inserts : (cs : List RowChange) → Each (λ (c : RowChange). is_none c.old ≡ false) cs → inserts_in cs ≡ 0
no_inserts [] h = refl
no_inserts (c ∷ cs) h = ap (λ b. length (cond b (c ∷ filter (λ d. is_none d.old) cs) (filter (λ d. is_none d.old) cs))) h.0 ∙ no_inserts cs h.1

-- ---- numbers of rows that are not refused

all_small : (t : Table) (cs : List RowChange) → t.def.part_key ≡ None → Each (λ (c : RowChange). changed_row_refusal t (change_of c) ≡ None → IsTrue (is_small_change c)) cs → changes_refusal t.def cs ≡ None → list_all is_small_change cs ≡ true
all_small t [] whole h none = refl
all_small t (c ∷ cs) whole h none =
    let parts = first_none (change_refusal t.def c) (map (change_refusal t.def) cs) none in
    let first : is_small_change c ≡ true = h.0 (placed_refusal t c whole ∙ parts.0) in
    ap (λ b. b && list_all is_small_change cs) first ∙ all_small t cs whole h.1 parts.1

-- ---- a refusal where a test holds

not_true : {A : Type 0} (b : Bool) (x : A) → where_true b x ≡ None → b ≡ false
not_true true x e = absurd (cc)
not_true false x e = refl

made_is : (n : ℕ) (cs : List RowChange) → map (λ c. record { table = n; change = c }) (map change_of cs) ≡ changes_made n cs
made_is n [] = refl
made_is n (c ∷ cs) = ap (λ ds. record { table = n; change = change_of c } ∷ ds) (made_is n cs)

-- ---- what is counted

pub enough : (scn at n : ℕ) (tables : List Stored) (s : Stored) (cs ds : List RowChange) (fresh : ℕ) → slice_get tables n ≡ Some s → ArePlaced scn s cs → at ≡ scn → ds ≡ cs → fresh ≡ fresh_of scn tables
    → fresh_gone at s ds ≤ fresh + fresh_come ds
enough scn at n tables s cs ds fresh e placed same_scn same is =
    subst (λ m. fresh_gone m s ds ≤ fresh + fresh_come ds) (sym same_scn) (subst (λ es. fresh_gone scn s es ≤ fresh + fresh_come es) (sym same) (fresh_enough scn tables n s cs fresh e placed is))

pub summed : (scn at : ℕ) (s t : Stored) (cs ds : List RowChange) (fresh old : ℕ) → at ≡ scn → t ≡ s → ds ≡ cs → fresh + fresh_gone at t ds ≡ old + fresh_come ds → fresh + fresh_gone scn s cs ≡ old + fresh_come cs
summed scn at s t cs ds fresh old same_scn same_table same h = (λ i. fresh + fresh_gone (sym same_scn i) (sym same_table i) (sym same i)) ∙ h ∙ ap (λ es. old + fresh_come es) same

pub one_table : (tables : List Stored) (n : ℕ) (s t : Stored) → slice_get tables n ≡ Some s → slice_get tables n ≡ Some t → t ≡ s
one_table tables n s t e f = same_Some t s (sym f ∙ e)

-- the refusal where the table is known
pub told : {r : Option Refusal} (tables : List Stored) (n : ℕ) (s : Stored) (f : Stored → Option Refusal) → slice_get tables n ≡ Some s → IfSome (slice_get tables n) (λ t. r ≡ f t) → r ≡ f s
told {r = r} tables n s f e h = if_there tables n s (λ t. r ≡ f t) e h

pub there_after : (scn n : ℕ) (tables new : List Stored) (cs : List RowChange) → n < length tables → new ≡ with_change n (all_made scn cs) tables → n < length new
there_after scn n tables new cs there changed = subst (λ m. n < m) (sym (ap length changed ∙ length_change (all_made scn cs) tables n)) there

pub def_after : (scn n : ℕ) (tables new : List Stored) (cs : List RowChange) (s t : Stored) → slice_get tables n ≡ Some s → new ≡ with_change n (all_made scn cs) tables → slice_get new n ≡ Some t → t.def ≡ s.def
def_after scn n tables new cs s t e changed f =
    ap (λ (u : Stored). u.def) (same_Some t (all_made scn cs s) (sym f ∙ ap (λ ts. slice_get ts n) changed ∙ change_here (all_made scn cs) tables n s e)) ∙ def_all scn s cs

-- ---- changes of a table

module _ (scn kept : ℕ) (tables : List Stored) (n : ℕ) (cs : List RowChange) (scanned : ℕ) (s : Stored) (e : slice_get tables n ≡ Some s) (there : n < length tables) (whole : AreWhole tables)
    (stored : All IsStored tables) (settled : All (λ s. last_scn s.versions ≤ scn) tables) (placed : ArePlaced scn s cs) (shape : HaveShapeOnceFit (table_at (base_seen scn tables) n) cs)
    (places : has_places s cs ≡ true) where
  abbrev before : Base
  before = base_seen scn tables

  abbrev after : Base
  after = with_table before n (table_after (table_at before n) (map change_of cs))

  seen_is : table_at before n ≡ seen scn s
  seen_is = table_seen scn tables n s e

  own_def : (table_at before n).def ≡ s.def
  own_def = ap (λ (t : Table). t.def) seen_is

  own_whole : (table_at before n).def.part_key ≡ None
  own_whole = whole_at scn tables n whole

  after_is : table_at after n ≡ table_after (table_at before n) (map change_of cs)
  after_is = table_in before n (table_after (table_at before n) (map change_of cs)) (subst (λ m. n < m) (sym (length-map tables (seen scn))) there)

  -- the second step
  rows_are : first_of (changed_row_refusal (table_at before n)) (map change_of cs) ≡ changes_refusal s.def cs
  rows_are = placed_refusals (table_at before n) cs own_whole ∙ ap (λ (d : TableDef). changes_refusal d cs) own_def

  shape_then : changes_refusal s.def cs ≡ None → HaveShape (table_at before n) cs
  shape_then fit = shape.once (rows_are ∙ fit)

  -- the numbers of the new rows, where none is refused
  small_rows : changes_refusal s.def cs ≡ None → list_all is_small_change cs ≡ true
  small_rows fit =
      all_small (table_at before n) cs own_whole (each_from (λ (c : RowChange). changed_row_refusal (table_at before n) (change_of c) ≡ None → IsTrue (is_small_change c)) cs (shape_then fit).small)
      (ap (λ (d : TableDef). changes_refusal d cs) own_def ∙ fit)

  -- the table with the changes: new rows alone may be more than it may have
  shown : changes_refusal s.def cs ≡ None → seen scn (all_made scn cs s) ≡ table_after (seen scn s) (map change_of cs)
  shown fit = by (shape_then fit).inserts (each_from (λ (c : RowChange). is_none c.old ≡ (shape_then fit).inserts) cs (shape_then fit).alike)
    where
      by : (b : Bool) → Each (λ (c : RowChange). is_none c.old ≡ b) cs → seen scn (all_made scn cs s) ≡ table_after (seen scn s) (map change_of cs)
      by true each = all_inserted scn s cs (are_named scn s (stored_at tables n s stored e) (settled_at scn tables n s settled e)) placed.next each
      by false each =
          let count = no_inserts cs each in
          let few : live_count s ≤ max_rows = live_few s (stored_at tables n s stored e) in
          let room : live_count s + inserts_in cs ≤ most_live = omega (arith, count, few) in
          let most : length s.versions + fresh_come cs < 2 ^ 32 = ltb-true (length s.versions + fresh_come cs) (2 ^ 32) places in
          let long = shorter_all scn s cs placed.next in
          (is_made scn s cs (stored_at tables n s stored e) (settled_at scn tables n s settled e) placed.next room (small_rows fit) (omega (arith, long, most))).shown

  base_then : changes_refusal s.def cs ≡ None → base_seen scn (with_change n (all_made scn cs) tables) ≡ after
  base_then fit = base_made scn tables n s cs e (shown fit)

  -- what the third step asks of the final table
  final : changes_refusal s.def cs ≡ None → (changes : List TableChange)
      → final_refusal after n kept changes ≡ first_some (keys_refusal scn tables n cs ∷ limits s.def.name (length (table_at after n).rows) (kept + new_versions after changes))
  final fit changes =
      let name : (table_at after n).def ≡ s.def = ap (λ (t : Table). t.def) after_is ∙ own_def in
      final_is after n kept changes
      ∙ (λ i. first_some (constraints_refusal (sym (base_then fit) i) n ∷ limits (name i).name (length (table_at after n).rows) (kept + new_versions after changes)))

  -- no row moves, so the changes that are made are those that are asked
  as_asked : made_changes (table_at before n) (table_at before n).given (map change_of cs) ≡ map change_of cs
  as_asked = made-as_asked (table_at before n) (unmoved-whole (table_at before n) own_whole) (table_at before n).given (map change_of cs)

  -- the step where these changes are made
  abbrev step_by : ℕ → List TableChange → ℕ → ℕ → List Change → Result Progress Stopped
  step_by at done had rows made =
      let new : Base = with_table before n (table_after (table_at before n) made) in
      let all : List TableChange = done ++ map (λ c. record { table = n; change = c }) made in
      stop_at at (had + scanned) (first_some (first_of (changed_row_refusal (table_at before n)) (map change_of cs) ∷ final_refusal new n kept all ∷ []))
      (record { base = new; changes = all; scanned = had + scanned; rows = rows + length (map change_of cs) })

  -- what the block has done behind it, where this is the base state
  abbrev done_by : Base → List TableChange → ℕ → ℕ → Progress
  done_by base done had rows = record { base = base; changes = done ++ changes_made n cs; scanned = had + scanned; rows = rows + length cs }

  step_is : (at : ℕ) (done : List TableChange) (had rows : ℕ) → ask_step kept (asks_of n cs scanned) at (done_at scn tables done had rows)
      ≡ stop_at at (had + scanned) (first_some (changes_refusal s.def cs ∷ final_refusal after n kept (done ++ changes_made n cs) ∷ [])) (done_by after done had rows)
  step_is at done had rows =
      ap (step_by at done had rows) as_asked
      ∙ (λ i. stop_at at (had + scanned) (first_some (rows_are i ∷ final_refusal after n kept (done ++ made_is n cs i) ∷ []))
      (record { base = after; changes = done ++ made_is n cs i; scanned = had + scanned; rows = rows + length-map cs change_of i }))

  rows_now : length (table_at before n).rows ≡ live_count s
  rows_now = ap (λ (t : Table). length t.rows) seen_is ∙ rows_seen scn s (settled_at scn tables n s settled e)

  -- a table that would have too many rows gets new ones alone
  full : changes_refusal s.def cs ≡ None → max_rows < live_count s + inserts_in cs → max_rows < length (table_at after n).rows
  full fit over = by (shape_then fit).inserts (each_from (λ (c : RowChange). is_none c.old ≡ (shape_then fit).inserts) cs (shape_then fit).alike)
    where
      by : (b : Bool) → Each (λ (c : RowChange). is_none c.old ≡ b) cs → max_rows < length (table_at after n).rows
      by true each =
          let count = all_inserts cs each in
          let longer = ap (λ (t : Table). length t.rows) after_is ∙ rows_inserted scn s (table_at before n) cs placed.next each in
          let had = rows_now in
          omega (arith, over, count, longer, had)
      by false each =
          let count = no_inserts cs each in
          let few = live_few s (stored_at tables n s stored e) in
          absurd (omega (arith, over, count, few))

  pub refused : (code : Refusal) → asked_refusal scn tables n s cs ≡ Some code → Fails (ask_step kept (asks_of n cs scanned)) scn tables code scanned
  refused code h = record { is = λ at done had rows marked. step_is at done had rows ∙ ap (λ o. stop_at at (had + scanned) o (done_by after done had rows)) (by_rows (changes_refusal s.def cs) refl h (done ++ changes_made n cs)) }
    where
      by_room : (b : Bool) → changes_refusal s.def cs ≡ None → nat_lt max_rows (live_count s + inserts_in cs) ≡ b → first_some (where_true b (TableFull s.def.name) ∷ []) ≡ Some code → (changes : List TableChange)
          → first_some (limits s.def.name (length (table_at after n).rows) (kept + new_versions after changes)) ≡ Some code
      by_room true fit over same changes =
          let more : max_rows < length (table_at after n).rows = full fit (ltb-true max_rows (live_count s + inserts_in cs) over) in
          ap (λ b. first_some (where_true b (TableFull s.def.name) ∷ where_true (nat_lt max_versions (kept + new_versions after changes)) (VersionsFull s.def.name) ∷ [])) (lt-ltb max_rows (length (table_at after n).rows) more)
          ∙ same
      by_room false fit over same changes = absurd (cc)

      by_keys : (o : Option Refusal) → changes_refusal s.def cs ≡ None → first_some (o ∷ room_refusal s cs ∷ []) ≡ Some code → (changes : List TableChange)
          → first_some (o ∷ limits s.def.name (length (table_at after n).rows) (kept + new_versions after changes)) ≡ Some code
      by_keys (Some r) fit same changes = same
      by_keys None fit same changes = by_room (nat_lt max_rows (live_count s + inserts_in cs)) fit refl same changes

      only : (o : Option Refusal) → first_some (o ∷ []) ≡ o
      only None = refl
      only (Some r) = refl

      by_rows : (o : Option Refusal) → changes_refusal s.def cs ≡ o → first_some (o ∷ keys_refusal scn tables n cs ∷ room_refusal s cs ∷ []) ≡ Some code → (changes : List TableChange)
          → first_some (changes_refusal s.def cs ∷ final_refusal after n kept changes ∷ []) ≡ Some code
      by_rows (Some r) is same changes = ap (λ o. first_some (o ∷ final_refusal after n kept changes ∷ [])) is ∙ same
      by_rows None is same changes =
          ap (λ o. first_some (o ∷ final_refusal after n kept changes ∷ [])) is ∙ only (final_refusal after n kept changes) ∙ final is changes ∙ by_keys (keys_refusal scn tables n cs) is same changes

  -- what is so once nothing is refused before the changes are made
  module _ (none : asked_refusal scn tables n s cs ≡ None) where
    rows_fit : changes_refusal s.def cs ≡ None
    rows_fit = (first_none (changes_refusal s.def cs) (keys_refusal scn tables n cs ∷ room_refusal s cs ∷ []) none).0

    keys_hold : keys_refusal scn tables n cs ≡ None
    keys_hold = (first_none (keys_refusal scn tables n cs) (room_refusal s cs ∷ []) (first_none (changes_refusal s.def cs) (keys_refusal scn tables n cs ∷ room_refusal s cs ∷ []) none).1).0

    room_is : room_refusal s cs ≡ None
    room_is =
        (first_none (room_refusal s cs) []
        (first_none (keys_refusal scn tables n cs) (room_refusal s cs ∷ []) (first_none (changes_refusal s.def cs) (keys_refusal scn tables n cs ∷ room_refusal s cs ∷ []) none).1).1).0

    pub small : list_all is_small_change cs ≡ true
    small = small_rows rows_fit

    pub room : live_count s + inserts_in cs ≤ most_live
    room = ltb-false max_rows (live_count s + inserts_in cs) (not_true (nat_lt max_rows (live_count s + inserts_in cs)) (TableFull s.def.name) room_is)

    few_rows : length cs ≤ max_rows
    few_rows = by (shape_then rows_fit).inserts refl (each_from (λ (c : RowChange). is_none c.old ≡ (shape_then rows_fit).inserts) cs (shape_then rows_fit).alike)
      where
        by : (b : Bool) → (shape_then rows_fit).inserts ≡ b → Each (λ (c : RowChange). is_none c.old ≡ b) cs → length cs ≤ max_rows
        by true is each = let count = all_inserts cs each in let most = room in omega (arith, count, most)
        by false is each =
            let most = (shape_then rows_fit).few is in
            let had = rows_now in
            let few = live_few s (stored_at tables n s stored e) in
            omega (arith, most, had, few)

    module _ (new : List Stored) (changed : new ≡ with_change n (all_made scn cs) tables) (new_stored : All IsStored new) (new_settled : All (λ s. last_scn s.versions ≤ scn) new) where
      there_now : slice_get new n ≡ Some (all_made scn cs s)
      there_now = ap (λ ts. slice_get ts n) changed ∙ change_here (all_made scn cs) tables n s e

      stored_now : IsStored (all_made scn cs s)
      stored_now = stored_at new n (all_made scn cs s) new_stored there_now

      base_now : base_seen scn new ≡ after
      base_now = ap (base_seen scn) changed ∙ base_then rows_fit

      live_now : nat_lt max_rows (length (table_at after n).rows) ≡ false
      live_now =
          let shown : table_at after n ≡ seen scn (all_made scn cs s) = ap (λ b. table_at b n) (sym base_now) ∙ table_seen scn new n (all_made scn cs s) there_now in
          let count : length (table_at after n).rows ≡ live_count (all_made scn cs s) = ap (λ (t : Table). length t.rows) shown ∙ rows_seen scn (all_made scn cs s) (settled_at scn new n (all_made scn cs s) new_settled there_now) in
          let few : live_count (all_made scn cs s) ≤ max_rows = live_few (all_made scn cs s) stored_now in
          by (nat_lt max_rows (length (table_at after n).rows)) refl (omega (arith, count, few))
        where
          by : (b : Bool) → nat_lt max_rows (length (table_at after n).rows) ≡ b → length (table_at after n).rows ≤ max_rows → b ≡ false
          by true is most = let over = ltb-true max_rows (length (table_at after n).rows) is in absurd (omega (arith, over, most))
          by false is most = refl

      marked_now : (done : List TableChange) → AreMarked scn tables done → AreMarked scn new (done ++ changes_made n cs)
      marked_now done marked = subst (λ ts. AreMarked scn ts (done ++ changes_made n cs)) (sym changed) (marks_more scn tables done n s cs stored settled marked e placed)

      -- of the third step the row versions are left
      final_now : (done : List TableChange) → AreMarked scn tables done → final_refusal after n kept (done ++ changes_made n cs) ≡ first_some (versions_refusal s (kept + fresh_of scn new) ∷ [])
      final_now done marked =
          let versions : new_versions after (done ++ changes_made n cs) ≡ fresh_of scn new =
          ap (λ (b : Base). new_versions b (done ++ changes_made n cs)) (sym base_now) ∙ counted scn new (done ++ changes_made n cs) new_stored new_settled (marked_now done marked) in
          final rows_fit (done ++ changes_made n cs)
          ∙ (λ i. first_some (keys_hold i ∷ where_true (live_now i) (TableFull s.def.name) ∷ where_true (nat_lt max_versions (kept + versions i)) (VersionsFull s.def.name) ∷ []))

      step_now : (at : ℕ) (done : List TableChange) (had rows : ℕ) → AreMarked scn tables done → ask_step kept (asks_of n cs scanned) at (done_at scn tables done had rows)
          ≡ stop_at at (had + scanned) (first_some (first_some (versions_refusal s (kept + fresh_of scn new) ∷ []) ∷ [])) (done_at scn new (done ++ changes_made n cs) (had + scanned) (rows + length cs))
      step_now at done had rows marked =
          step_is at done had rows
          ∙ (λ i. stop_at at (had + scanned) (first_some (rows_fit i ∷ final_now done marked i ∷ [])) (done_by (sym base_now i) done had rows))

      module _ (fresh old_fresh : ℕ) (old_is : old_fresh ≡ fresh_of scn tables) (sum : fresh + fresh_gone scn s cs ≡ old_fresh + fresh_come cs) where
        fresh_now : fresh ≡ fresh_of scn new
        fresh_now = fresh_then scn tables n s cs old_fresh fresh e placed old_is sum ∙ ap (fresh_of scn) (sym changed)

        pub overfull : (d : TableDef) (code : Refusal) → d ≡ s.def → where_true (nat_lt max_versions (kept + fresh)) (VersionsFull d.name) ≡ Some code → Fails (ask_step kept (asks_of n cs scanned)) scn tables code scanned
        overfull d code same h =
            let is : versions_refusal s (kept + fresh_of scn new) ≡ Some code = (λ i. where_true (nat_lt max_versions (kept + sym fresh_now i)) (VersionsFull (sym same i).name)) ∙ h in
            record { is = λ at done had rows marked. step_now at done had rows marked ∙ ap (λ o. stop_at at (had + scanned) (first_some (first_some (o ∷ []) ∷ [])) (done_at scn new (done ++ changes_made n cs) (had + scanned) (rows + length cs))) is }

        pub goes : (d : TableDef) (rows : ℕ) → d ≡ s.def → where_true (nat_lt max_versions (kept + fresh)) (VersionsFull d.name) ≡ None → rows ≡ length cs
            → Goes (ask_step kept (asks_of n cs scanned)) scn kept tables new rows fresh scanned
        goes d rows same h count =
            let is : versions_refusal s (kept + fresh_of scn new) ≡ None = (λ i. where_true (nat_lt max_versions (kept + sym fresh_now i)) (VersionsFull (sym same i).name)) ∙ h in
            let most = few_rows in
            record {
              table = n;
              changes = cs;
              is = λ at done had earlier marked. step_now at done had earlier marked ∙ (λ i. stop_at at (had + scanned) (first_some (first_some (is i ∷ []) ∷ [])) (done_at scn new (done ++ changes_made n cs) (had + scanned) (earlier + sym count i)));
              marked = marked_now;
              fresh_is = fresh_now;
              few = ltb-false max_versions (kept + fresh) (not_true (nat_lt max_versions (kept + fresh)) (VersionsFull d.name) h);
              few_rows = omega (arith, count, most);
              defs = ap (λ ts. map (λ (t : Stored). t.def) ts) changed ∙ defs_made scn cs tables n;
              moved = λ m. ap (λ ts. changed_at ts m) changed ∙ moved_made scn cs tables n m s e (settled_at scn tables n s settled e) placed.next;
              noted = noted_made scn n s cs placed.next;
            }
