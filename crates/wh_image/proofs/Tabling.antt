-- The image after a change of its tables.
use Rattle.std.proofs.Common.{◌≡◌, ◌∙◌, sym, ap, refl, subst, arith, ℕ, zero, suc, ◌+◌, ◌<◌, ◌≤◌, Bool, true, false, cond, List, [], ◌∷◌, ◌++◌, map, length, Option, None, Some, nat_le, nat_lt, ◌==◌, ◌&&◌, ◌||◌}
use Rattle.std.proofs.Math.Bool.{and-false}
use Rattle.std.proofs.lemmas.Bool.{le-leb, le-ltb, leb-false, leb-true, lt-leb, lt-ltb, ltb-true}
use Rattle.std.proofs.lemmas.List.{map-append}
use Rattle.std.proofs.lemmas.List.Elements.{filter-append}
use Rattle.std.specs.List.{All, enumerate_from, filter, find, flat_map}
use Rattle.std.specs.Option.{ForSome}
use Rattle.std.specs.Prelude.{option_and_then}
use Rattle.wh_base.specs.Lists.{is_empty, option_case}
use Rattle.wh_base.specs.Tables.{Base, Table, TableChange}
use Rattle.wh_base.specs.declared.statements.NewTable.{NewTable}
use Rattle.wh_base.specs.declared.statements.Partitioning.{Partitioning}
use Rattle.wh_base.specs.declared.tables.TableDef.{TableDef}
use Rattle.def_effect.specs.Block.{Progress}
use Rattle.def_effect.specs.Define.{defined, new_place, numbered_parts, table_def}
use Rattle.def_history.specs.Catalog.{Catalog, Noted, View, base_at, base_now, defs_now}
use Rattle.def_history.specs.History.{changes_of}
use Rattle.def_history.specs.Staleness.{content}
use Rattle.def_journal.specs.Committing.{after_block, changes_in, commit_touches, noted, part_touch, touched_parts}
use Rattle.def_journal.specs.State.{with_base}
use Rattle.def_meaning.specs.Meaning.{stored}
use Rattle.wh_image.proofs.Listed.{Each, all_from, each_append, each_both, each_from, each_made, each_map, each_unmap, each_weaker, empty_map, filter_alike, filter_none, nonempty_left, nonempty_right}
use Rattle.wh_image.specs.Laws.{IsBounded, Leaves, TableChanges, is_in}
use Rattle.wh_image.specs.Standing.{StandsFor, changed_at, is_change}
use Rattle.wh_table.proofs.Seen.{laws_hold}
use Rattle.wh_table.specs.Kept.{defs_of}
use Rattle.wh_table.specs.Stored.{Stored, base_seen, begun, last_scn, seen}
use Rattle.wh_view.specs.Kept.{AllKept, Kept}

-- ---- the base state

base_before : (c : Catalog) (base : Base) (p : ℕ) → p ≤ c.scn → base_at (with_base c base) p ≡ base_at c p
base_before c base p low = ap (λ b. option_case (cond b (Some (suc c.scn, base)) (find (λ q. nat_le q.0 p) c.past)) [] (λ q. q.1)) (lt-leb (suc c.scn) p (omega (arith, low)))

base_latest : (c : Catalog) (base : Base) → base_at (with_base c base) (suc c.scn) ≡ base
base_latest c base = ap (λ b. option_case (cond b (Some (suc c.scn, base)) (find (λ q. nat_le q.0 (suc c.scn)) c.past)) [] (λ q. q.1)) (le-leb (suc c.scn) (suc c.scn) (omega arith))

abbrev IsPast : ℕ → View → Type 0
IsPast scn v = ForSome v.point (λ p. p ≤ scn)

-- what a view stores stays at the next SCN
content_stays : (c : Catalog) (base : Base) (v : View) → IsPast c.scn v → content (with_base c base) v ≡ content c v
content_stays c base v past = by v.point past
  where
    by : (o : Option ℕ) → ForSome o (λ p. p ≤ c.scn)
        → option_case o [] (λ p. stored v.def.query (base_at (with_base c base) p)) ≡ option_case o [] (λ p. stored v.def.query (base_at c p))
    by None at = refl
    by (Some p) at = ap (stored v.def.query) (base_before c base p (at p refl))

abbrev Stores : Catalog → Kept → Type 0
Stores c k = k.entries ≡ content c k.view

all_store : (scn : ℕ) (tables : List Stored) (views : AllKept) (c : Catalog) (base : Base) → StandsFor scn tables views c → IsBounded c → Each (Stores (with_base c base)) views.views
all_store scn tables views c base h low =
    let past : Each (λ (k : Kept). IsPast c.scn k.view) views.views =
    each_unmap (IsPast c.scn) (λ (k : Kept). k.view) views.views (subst (Each (IsPast c.scn)) h.views_are (each_from (IsPast c.scn) c.views low.points)) in
    each_both (λ (k : Kept). IsPast c.scn k.view) (Stores c) (Stores (with_base c base)) (λ k at is. is ∙ sym (content_stays c base k.view at)) views.views
    past (each_from (Stores c) views.views h.contents)

-- ---- the changes

-- the change is one of the table after an SCN and at another at most
abbrev passes : ℕ → ℕ → ℕ → Noted → Bool
passes n q s m = (m.table == n) && (nat_lt q m.scn && nat_le m.scn s)

-- what was noted so far is the same at the next SCN
noted_stay : (c : Catalog) (n q : ℕ) → IsBounded c → filter (passes n q (suc c.scn)) c.changes ≡ filter (passes n q c.scn) c.changes
noted_stay c n q low =
    filter_alike (passes n q (suc c.scn)) (passes n q c.scn) c.changes
    (each_weaker (λ m. m.scn ≤ c.scn) (λ m. passes n q (suc c.scn) m ≡ passes n q c.scn m)
    (λ m below. ap (λ b. (m.table == n) && (nat_lt q m.scn && b)) (le-leb m.scn (suc c.scn) (omega (arith, below)) ∙ sym (le-leb m.scn c.scn below)))
    c.changes (each_from (λ m. m.scn ≤ c.scn) c.changes low.changes))

changes_stay : (c : Catalog) (n q : ℕ) → IsBounded c → map (λ m. m.change) (filter (passes n q (suc c.scn)) c.changes) ≡ changes_of c n q c.scn
changes_stay c n q low = ap (map (λ (m : Noted). m.change)) (noted_stay c n q low)

-- the new changes of this table after an SCN
abbrev news : ℕ → ℕ → ℕ → List TableChange → List Noted
news n q s ds = filter (passes n q s) (map (noted s) ds)

-- a new change is one of the table after an SCN below
is_new : (n q s : ℕ) (d : TableChange) → q < s → passes n q s (noted s d) ≡ (d.table == n)
is_new n q s d below =
    (λ i. (d.table == n) && (lt-ltb q s below i && le-leb s s (omega arith) i)) ∙ and_true (d.table == n)
  where
    and_true : (a : Bool) → (a && true) ≡ a
    and_true true = refl
    and_true false = refl

is_old : (n q s : ℕ) (d : TableChange) → s ≤ q → passes n q s (noted s d) ≡ false
is_old n q s d above = ap (λ b. (d.table == n) && (b && nat_le s s)) (le-ltb q s above) ∙ and-false (d.table == n)

no_news : (n q s : ℕ) (ds : List TableChange) → q < s → is_in ds n ≡ false → news n q s ds ≡ []
no_news n q s [] below none = refl
no_news n q s (d ∷ ds) below none = by (d.table == n) (is_new n q s d below) none (no_news n q s ds below)
  where
    by : (b : Bool) → passes n q s (noted s d) ≡ b → (b || is_in ds n) ≡ false → (is_in ds n ≡ false → news n q s ds ≡ [])
        → cond (passes n q s (noted s d)) (noted s d ∷ news n q s ds) (news n q s ds) ≡ []
    by true is none later = absurd (cc)
    by false is none later = ap (λ b. cond b (noted s d ∷ news n q s ds) (news n q s ds)) is ∙ later none

old_news : (n q s : ℕ) (ds : List TableChange) → s ≤ q → news n q s ds ≡ []
old_news n q s ds above = filter_none (passes n q s) (map (noted s) ds) (each_made (λ m. passes n q s m ≡ false) (noted s) (λ d. is_old n q s d above) ds)

some_news : (n q s : ℕ) (ds : List TableChange) → q < s → is_in ds n ≡ true → is_empty (news n q s ds) ≡ false
some_news n q s [] below some = absurd (cc)
some_news n q s (d ∷ ds) below some = by (d.table == n) (is_new n q s d below) some (some_news n q s ds below)
  where
    by : (b : Bool) → passes n q s (noted s d) ≡ b → (b || is_in ds n) ≡ true → (is_in ds n ≡ true → is_empty (news n q s ds) ≡ false)
        → is_empty (cond (passes n q s (noted s d)) (noted s d ∷ news n q s ds) (news n q s ds)) ≡ false
    by true is some later = ap (λ b. is_empty (cond b (noted s d ∷ news n q s ds) (news n q s ds))) is
    by false is some later = ap (λ b. is_empty (cond b (noted s d ∷ news n q s ds) (news n q s ds))) is ∙ later some

-- a range that ends where it begins has nothing
nothing_within : (n q s : ℕ) (ms : List Noted) → s ≤ q → filter (passes n q s) ms ≡ []
nothing_within n q s [] above = refl
nothing_within n q s (m ∷ ms) above = ap (λ b. cond b (m ∷ filter (passes n q s) ms) (filter (passes n q s) ms)) (none (nat_lt q m.scn) refl) ∙ nothing_within n q s ms above
  where
    none : (b : Bool) → nat_lt q m.scn ≡ b → passes n q s m ≡ false
    none false is = ap (λ a. (m.table == n) && (a && nat_le m.scn s)) is ∙ and-false (m.table == n)
    none true is =
        let later : q < m.scn = ltb-true q m.scn is in
        ap (λ a. (m.table == n) && (nat_lt q m.scn && a)) (lt-leb m.scn s (omega (arith, later, above)))
        ∙ ap (λ a. (m.table == n) && a) (and-false (nat_lt q m.scn)) ∙ and-false (m.table == n)

-- ---- CREATE TABLE

base_rests : (scn : ℕ) (tables : List Stored) → Each (λ s. last_scn s.versions ≤ scn) tables → base_seen scn tables ≡ base_seen (scn + 1) tables
base_rests scn [] h = refl
base_rests scn (s ∷ tables) h = (λ i. laws_hold.rests s scn (scn + 1) h.0 (omega arith) i ∷ base_rests scn tables h.1 i)

changed_begun : (tables : List Stored) (def : TableDef) (n : ℕ) → changed_at (tables ++ begun def ∷ []) n ≡ changed_at tables n
changed_begun [] def zero = refl
changed_begun [] def (suc n) = refl
changed_begun (s ∷ tables) def zero = refl
changed_begun (s ∷ tables) def (suc n) = changed_begun tables def n

abbrev table_of : TableDef → Option Partitioning → Table
table_of def partitioning =
    record {
      def = def;
      rows = [];
      given = 0;
      parts = numbered_parts 1 (option_case partitioning [] (λ p. p.ranges));
      made = length (option_case partitioning [] (λ p. p.ranges));
    }

defined_is : (defs : List TableDef) (s : NewTable) (at : ℕ) → s.partitioning ≡ None → defined defs s ≡ seen at (begun (table_def defs s))
defined_is defs s at none = ap (table_of (table_def defs s)) none

creates : (scn : ℕ) (tables : List Stored) (views : AllKept) (c : Catalog) (s : NewTable) → StandsFor scn tables views c → IsBounded c
    → All (λ t. last_scn t.versions ≤ scn) tables → s.partitioning ≡ None
    → StandsFor (scn + 1) (tables ++ begun (table_def (defs_now c) s) ∷ []) views (with_base c (base_now c ++ defined (defs_now c) s ∷ []))
creates scn tables views c s h low settled none =
    let def : TableDef = table_def (defs_now c) s in
    let base : Base = base_now c ++ defined (defs_now c) s ∷ [] in
    let part_key : (table_def (defs_now c) s).part_key ≡ None = ap (option_and_then (λ p. new_place s p.column)) none in
    record {
      scn_is = omega (arith, h.scn_is);
      base_is =
          base_latest c base
          ∙ (λ i. (h.base_is ∙ base_rests scn tables (each_from (λ t. last_scn t.versions ≤ scn) tables settled)) i ++ defined_is (defs_now c) s (scn + 1) none i ∷ [])
          ∙ sym (map-append (seen (scn + 1)) tables (begun def ∷ []));
      views_are = h.views_are;
      made_is = h.made_is;
      contents = all_from (Stores (with_base c base)) views.views (all_store scn tables views c base h low);
      still = λ n q late. changes_stay c n q low ∙ h.still n q (subst (λ m. m ≤ q) (changed_begun tables def n) late);
      moved = λ n q early. ap is_empty (changes_stay c n q low) ∙ h.moved n q (subst (λ m. q < m) (changed_begun tables def n) early);
      noted = h.noted;
      whole = all_from (λ t. t.def.part_key ≡ None) (tables ++ begun def ∷ [])
          (each_append (λ t. t.def.part_key ≡ None) tables (begun def ∷ []) (each_from (λ t. t.def.part_key ≡ None) tables h.whole) (part_key, tt));
      whole_then = h.whole_then;
      over_tables = h.over_tables;
      touches = h.touches;
      logs = h.logs;
      dimensions = h.dimensions;
    }

-- ---- a commit

-- tables without partitions are touched in none
untouched : (at scn k : ℕ) (tables : List Stored) (ds : List TableChange)
    → flat_map (λ q. map (part_touch scn q.0 false) (touched_parts q.1 (changes_in ds q.0))) (enumerate_from k (base_seen at tables)) ≡ []
untouched at scn k [] ds = refl
untouched at scn k (s ∷ tables) ds = untouched at scn (k + 1) tables ds

defs_whole : (tables after : List Stored) → defs_of after ≡ defs_of tables → Each (λ t. t.def.part_key ≡ None) tables → Each (λ t. t.def.part_key ≡ None) after
defs_whole tables after same h =
    each_unmap (λ d. d.part_key ≡ None) (λ (t : Stored). t.def) after
    (subst (Each (λ d. d.part_key ≡ None)) (sym same) (each_map (λ (t : Stored). t.def.part_key ≡ None) (λ d. d.part_key ≡ None) (λ (t : Stored). t.def) (λ t is. is) tables h))

module _ (scn : ℕ) (tables after : List Stored) (views : AllKept) (c : Catalog) (p : Progress) (h : StandsFor scn tables views c) (low : IsBounded c) (left : Leaves scn tables after p) where
  -- the changes of a table after an SCN are those so far and the new ones
  changes_are : (n q : ℕ) → changes_of (after_block c p) n q (suc c.scn) ≡ changes_of c n q c.scn ++ map (λ m. m.change) (news n q (suc c.scn) p.changes)
  changes_are n q =
      ap (map (λ (m : Noted). m.change)) (filter-append (passes n q (suc c.scn)) c.changes (map (noted (suc c.scn)) p.changes))
      ∙ map-append (λ (m : Noted). m.change) (filter (passes n q (suc c.scn)) c.changes) (news n q (suc c.scn) p.changes)
      ∙ ap (λ cs. cs ++ map (λ (m : Noted). m.change) (news n q (suc c.scn) p.changes)) (changes_stay c n q low)

  stays_still : (n q : ℕ) → changed_at after n ≤ q → changes_of (after_block c p) n q (suc c.scn) ≡ []
  stays_still n q late = by (is_in p.changes n) refl (left.moved n)
    where
      within : (b : Bool) → nat_le (suc c.scn) q ≡ b → is_in p.changes n ≡ false → news n q (suc c.scn) p.changes ≡ []
      within true above none = old_news n q (suc c.scn) p.changes (leb-true (suc c.scn) q above)
      within false above none = no_news n q (suc c.scn) p.changes (leb-false (suc c.scn) q above) none

      by : (b : Bool) → is_in p.changes n ≡ b → changed_at after n ≡ cond b (scn + 1) (changed_at tables n) → changes_of (after_block c p) n q (suc c.scn) ≡ []
      by true is at =
          let above : suc c.scn ≤ q = omega (arith, at, late, h.scn_is) in
          ap (map (λ (m : Noted). m.change)) (nothing_within n q (suc c.scn) (c.changes ++ map (noted (suc c.scn)) p.changes) above)
      by false none at =
          changes_are n q
          ∙ (λ i. h.still n q (subst (λ m. m ≤ q) at late) i ++ map (λ (m : Noted). m.change) (within (nat_le (suc c.scn) q) refl none i))

  has_moved : (n q : ℕ) → q < changed_at after n → is_empty (changes_of (after_block c p) n q (suc c.scn)) ≡ false
  has_moved n q early = ap is_empty (changes_are n q) ∙ by (is_in p.changes n) refl (left.moved n)
    where
      by : (b : Bool) → is_in p.changes n ≡ b → changed_at after n ≡ cond b (scn + 1) (changed_at tables n)
          → is_empty (changes_of c n q c.scn ++ map (λ m. m.change) (news n q (suc c.scn) p.changes)) ≡ false
      by true is at =
          let below : q < suc c.scn = omega (arith, at, early, h.scn_is) in
          nonempty_right (changes_of c n q c.scn) (map (λ (m : Noted). m.change) (news n q (suc c.scn) p.changes))
          (empty_map (λ (m : Noted). m.change) (news n q (suc c.scn) p.changes) ∙ some_news n q (suc c.scn) p.changes below is)
      by false none at =
          nonempty_left (changes_of c n q c.scn) (map (λ (m : Noted). m.change) (news n q (suc c.scn) p.changes)) (h.moved n q (subst (λ m. q < m) at early))

  stands_after : StandsFor (scn + 1) after views (after_block c p)
  stands_after =
      record {
        scn_is = omega (arith, h.scn_is);
        base_is = base_latest c p.base ∙ sym left.base;
        views_are = h.views_are;
        made_is = h.made_is;
        contents = all_from (Stores (with_base c p.base)) views.views (all_store scn tables views c p.base h low);
        still = stays_still;
        moved = has_moved;
        noted = all_from (λ m. is_change m.change ≡ true) (c.changes ++ map (noted (suc c.scn)) p.changes)
            (each_append (λ m. is_change m.change ≡ true) c.changes (map (noted (suc c.scn)) p.changes) (each_from (λ m. is_change m.change ≡ true) c.changes h.noted)
            (each_map (λ d. is_change d.change ≡ true) (λ m. is_change m.change ≡ true) (noted (suc c.scn)) (λ d is. is) p.changes (each_from (λ d. is_change d.change ≡ true) p.changes left.noted)));
        whole = all_from (λ t. t.def.part_key ≡ None) after (defs_whole tables after left.defs (each_from (λ t. t.def.part_key ≡ None) tables h.whole));
        whole_then = h.whole_then;
        over_tables = h.over_tables;
        touches =
            (λ i. h.touches i ++ commit_touches (suc c.scn) (sym left.base i) p.changes)
            ∙ untouched (scn + 1) (suc c.scn) 0 after p.changes;
        logs = h.logs;
        dimensions = h.dimensions;
      }

pub table_changes : TableChanges
table_changes = record { creates = creates; commits = λ scn tables after views c p h low left. stands_after scn tables after views c p h low left }
