-- A refresh by the root's log gives what the definition stores now.
use Rattle.std.proofs.Common.{◌≡◌, ◌∙◌, sym, ap, refl, subst, arith, ℕ, zero, suc, ◌<◌, ◌≤◌, Bool, true, false, cond, not, List, [], ◌∷◌, ◌++◌, length, map, Option, None, Some, inl, inr, ◌⊎◌, ◌==◌, ◌&&◌, ◌||◌, true≢false}
use Rattle.std.proofs.lemmas.Option.{same_Some}
use Rattle.std.specs.List.{filter, list_all, list_any}
use Rattle.std.specs.Prelude.{option_map, pos, slice_get, unwrap_or, is_some}
use Rattle.std.proofs.lemmas.Bool.{eq-eqb, eqb-true, or_parts}
use Rattle.wh_base.specs.Columns.{has_column}
use Rattle.wh_base.specs.Lists.{has_number, is_empty, option_case, sorted_by}
use Rattle.wh_base.specs.Tables.{Row, Base, Table, def_at, is_removal, row_at, table_after, table_at, value_at}
use Rattle.wh_base.specs.declared.columns.ColPart.TheVariants.{RowId}
use Rattle.wh_base.specs.declared.columns.ColRef.{ColRef}
use Rattle.wh_base.specs.declared.logs.LogSide.TheVariants.{N, O}
use Rattle.wh_base.specs.declared.columns.Agg.{Agg}
use Rattle.wh_base.specs.declared.columns.Agg.TheVariants.{Count, CountAll, Sum}
use Rattle.wh_base.specs.declared.queries.Item.TheVariants as item
use Rattle.wh_base.specs.declared.queries.StarQuery.{StarQuery}
use Rattle.wh_base.specs.declared.statements.Event.{Event}
use Rattle.wh_base.specs.declared.tables.Change.{Change}
use Rattle.wh_base.specs.declared.tables.RowAt.{RowAt}
use Rattle.wh_base.specs.declared.tables.TableDef.{TableDef}
use Rattle.wh_base.specs.declared.values.Value.{Value}
use Rattle.wh_base.specs.declared.values.Value.TheVariants.{Num}
use Rattle.wh_base.specs.declared.views.ViewEntry.{ViewEntry}
use Rattle.def_history.specs.Catalog.{Catalog, Log, View, base_at, base_now, defs_now, log_of}
use Rattle.def_history.specs.History.{changes_of, maintained, within}
use Rattle.def_history.specs.Logs.{log_history}
use Rattle.def_history.specs.Staleness.{facts_of, changes_after, content, known, point_of, restriction}
use Rattle.def_journal.specs.Refreshing.{live_changed, all_rows, fast_reads, root_reads, changed_tables, extreme_met_removal, other_changed}
use Rattle.def_meaning.specs.Joined.{column_value, rows_at}
use Rattle.def_meaning.specs.Meaning.{agg_value, expr_value, key_of, entry_cmp, plain_entries, stored, stored_over}
use Rattle.def_restrictions.specs.Definition.{has_average_alone, has_extreme, is_insert_only, selects_agg, used_columns, view_never_null}
use Rattle.law_delta.specs.ByRowid.{rowid_among}
use Rattle.law_delta.specs.Deltas.{AllApply, new_rows, old_rows, side}
use Rattle.law_delta.specs.Moved.{counting, inserted_single, moved_single, with_key, Counted, KeysApart, selects, found_row, row_after, row_inserted, side_tuples, with_rows}
use Rattle.law_delta.specs.Restored.{logged_row}
use Rattle.law_delta.proofs.Restoring.{part_logged}
use Rattle.law_delta.proofs.Whole.{log_rows_at, refresh_from_log}
use Rattle.law_delta.proofs.WholeInserts.{inserts_from_log}
use Rattle.law_delta.proofs.WholeSingle.{single_from_log, single_inserts}
use Rattle.law_lists.proofs.Lists.{filter-map, none_with}
use Rattle.law_lists.proofs.Tables.{base_def}
use Rattle.law_refresh.proofs.Granting.{are_granted, knowns}
use Rattle.law_refresh.proofs.Full.{RowFull, base_fits, rows_full, tuples_full}
use Rattle.law_refresh.proofs.Unrestricted.{counted, rows_selected}
use Rattle.law_delta.proofs.Single.{never_null_full}
use Rattle.law_trace.proofs.Outside.{Avoids, IsSame, fit_at, trace_outside}
use Rattle.law_trace.proofs.Fitting.{trace_fits}
use Rattle.def_restrictions.specs.Restrictions.{Known}
use Rattle.wh_base.specs.Columns.{expr_columns}
use Rattle.wh_base.specs.Values.{is_null, same_value, same_values}
use Rattle.wh_base.specs.declared.columns.Expr.{Expr}
use Rattle.law_refresh.proofs.History.{followed}
use Rattle.law_refresh.proofs.ReadBack.{news_back, olds_back, rowids_back}
use Rattle.law_delta.proofs.JoinView.{join_refresh}
use Rattle.law_refresh.proofs.Meeting.{rows_met}
use Rattle.law_refresh.proofs.Parting.{column_at}
use Rattle.std.proofs.lemmas.List.{length-map}
use Rattle.wh_base.proofs.Same.{same_value-Decides}
use Rattle.law_trace.proofs.Rising.{Rises}
use Rattle.law_trace.proofs.Fitting.{trace_rises}
use Rattle.law_refresh.proofs.Setting.{over_same, used_logged, uses, with_own_in}
use Rattle.law_refresh.proofs.Logs.{log_fits}
use Rattle.law_refresh.specs.Fast.{FastLaws, IsFast, entries_joined, is_logged, side_logged, tuples_logged}
use Rattle.law_refresh.specs.Followed.{Followed}
use Rattle.law_refresh.specs.Logged.{IsLog}
use Rattle.law_refresh.specs.Planned.{AreGranted, Distinct, IsGranted, IsPlace, IsPlanned}
use Rattle.law_refresh.specs.SidesRead.{log_between, read_side, rowid_logged}
use Rattle.law_trace.proofs.Changes.{IsEither, trace_either}
use Rattle.law_trace.proofs.Listed.{Each, each_every, each_filter, find_has}
use Rattle.law_trace.proofs.Untouched.{untouched_laws}
use Rattle.law_trace.specs.Reached.{catalog_of, still_table}
use Rattle.law_trace.specs.Reached.{still as table_still}

abbrev root_then : Catalog → View → ℕ → Table
root_then c v p = table_at (base_at c p) v.def.query.root

abbrev root_changes : Catalog → View → ℕ → List Change
root_changes c v p = changes_of c v.def.query.root p c.scn

-- what a refresh by the root's log rests on
record Seat (c : Catalog) (v : View) (l : Log) : Type 0 where
  point : ℕ
  built : v.point ≡ Some point
  others : List ℕ
  tables : v.def.query.tables ≡ v.def.query.root ∷ others
  apart : has_number others v.def.query.root ≡ false
  apply : AllApply (root_then c v point).rows (root_changes c v point)
  before : content c v ≡ stored_over v.def.query (with_rows v.def.query.root (map (row_at (root_then c v point)) (root_then c v point).rows) (rows_at (base_now c)))
  after : stored_over v.def.query (with_rows v.def.query.root (map (row_at (table_after (root_then c v point) (root_changes c v point))) (table_after (root_then c v point) (root_changes c v point)).rows) (rows_at (base_now c))) ≡ stored v.def.query (base_now c)
  now : rows_at (base_now c) v.def.query.root ≡ map (row_at (table_after (root_then c v point) (root_changes c v point))) (table_after (root_then c v point) (root_changes c v point)).rows
  olds : v.def.query.grouped ≡ true → side_logged c v l O ≡ log_rows_at (root_then c v point) (length (def_at (defs_now c) v.def.query.root).columns) l.facts.columns (old_rows (root_changes c v point))
  news : v.def.query.grouped ≡ true → side_logged c v l N ≡ log_rows_at (root_then c v point) (length (def_at (defs_now c) v.def.query.root).columns) l.facts.columns (new_rows (root_changes c v point))
  logs : v.def.query.grouped ≡ true → (col : ColRef) → (v.def.query.root == col.table) ≡ true → has_column (used_columns v.def.query) col ≡ true
      → part_logged (root_then c v point) (length (def_at (defs_now c) v.def.query.root).columns) l.facts.columns col.part ≡ true
  rowids : (value : Value) → is_logged c v l value ≡ rowid_among (root_changes c v point) value
  having : v.def.query.having ≡ []

-- a table's definition stays but for its row movement
def_then : (trace : List Event) (p n : ℕ) → n < length (base_at (catalog_of trace) p) → table_still (table_at (base_at (catalog_of trace) p) n).def ≡ table_still (def_at (defs_now (catalog_of trace)) n)
def_then trace p n low =
    let c : Catalog = catalog_of trace in
    let same : IsSame (λ m w. false) n (base_at c p) (base_now c) = trace_outside trace n p (λ m w. false) (each_every (Avoids (λ m w. false) n p) (λ t e w f. absurd (true≢false (sym f))) c.touches) in
    sym (same.def low) ∙ ap table_still (sym (base_def (base_now c) n))

-- the other tables are as they were
none_such : (p q : ℕ → Bool) (ns : List ℕ) (n : ℕ) → has_number ns n ≡ true → list_any p (filter q ns) ≡ false → p n ≡ true → q n ≡ false
none_such p q [] n there none is = cc
none_such p q (m ∷ ns) n there none is = by (m == n) (q m) refl refl there none (none_such p q ns n)
  where
    by : (a b : Bool) → (m == n) ≡ a → q m ≡ b → (a || has_number ns n) ≡ true → list_any p (cond b (m ∷ filter q ns) (filter q ns)) ≡ false
        → (has_number ns n ≡ true → list_any p (filter q ns) ≡ false → p n ≡ true → q n ≡ false) → q n ≡ false
    by true true e f there none more = absurd (true≢false (sym is ∙ ap p (sym (eqb-true m n e)) ∙ (or_parts (p m) (list_any p (filter q ns)) none).0))
    by true false e f there none more = ap q (sym (eqb-true m n e)) ∙ f
    by false true e f there none more = more there (or_parts (p m) (list_any p (filter q ns)) none).1 is
    by false false e f there none more = more there none is

none_changed : (c : Catalog) (v : View) (n : ℕ) → has_number v.def.query.tables n ≡ true → (n == v.def.query.root) ≡ false → other_changed c v ≡ false → changes_after c v n ≡ []
none_changed c v n there differ alone =
    none_with (changes_after c v n) (none_such (λ m. not (m == v.def.query.root)) (λ m. not (is_empty (changes_after c v m))) v.def.query.tables n there alone (ap not differ))

same_table : (trace : List Event) (v : View) (p n : ℕ) → point_of v ≡ p → IsGranted (catalog_of trace) v n → changes_after (catalog_of trace) v n ≡ [] → n < length (base_at (catalog_of trace) p)
    → rows_at (base_at (catalog_of trace) p) n ≡ rows_at (base_now (catalog_of trace)) n
same_table trace v p n point granted none there =
    let c : Catalog = catalog_of trace in
    let none_then : changes_of c n p c.scn ≡ [] = subst (λ m. changes_of c n m c.scn ≡ []) point none in
    let kept : maintained c n p c.scn ≡ false = subst (λ m. maintained c n m c.scn ≡ false) point granted.kept in
    ap (λ (t : Table). map (row_at t) t.rows) (sym (untouched_laws.whole trace n p none_then kept there))

root_there : (v : View) (others : List ℕ) → v.def.query.tables ≡ v.def.query.root ∷ others → has_number v.def.query.tables v.def.query.root ≡ true
root_there v others tables = ap (λ ns. has_number ns v.def.query.root) tables ∙ ap (λ b. b || has_number others v.def.query.root) (eq-eqb v.def.query.root v.def.query.root refl)

seat : (trace : List Event) (v : View) (l : Log) → IsFast (catalog_of trace) v l → Seat (catalog_of trace) v l
seat trace v l fast =
    let c : Catalog = catalog_of trace in
    let q : StarQuery = v.def.query in
    let root : ℕ = q.root in
    let planned : IsPlanned c v = fast.planned in
    let g : AreGranted c v = are_granted c v planned.defined fast.free in
    let p : ℕ = g.point in
    let point : point_of v ≡ p = ap (λ o. unwrap_or o 0) g.built in
    let has_root : has_number q.tables root ≡ true = root_there v planned.others planned.tables in
    let h : IsGranted c v root = g.tables root has_root in
    let log : h.log ≡ l = same_Some h.log l (sym h.found ∙ fast.log) in
    let rowid : l.facts.rowid ≡ true = subst (λ (k : Log). k.facts.rowid ≡ true) log h.rowid in
    let of_l : l.table ≡ root = find_has (λ (k : Log). k.table) root c.logs l fast.log in
    let fit : IsLog c.scn (defs_now c) l = log_fits trace root l fast.log in
    let from : l.facts.from ≤ point_of v = subst (λ (k : Log). k.facts.from ≤ point_of v) log h.from in
    let since : l.born ≤ p = subst (λ m. l.born ≤ m) point (le_on l.born l.facts.from (point_of v) fit.born from) in
    let kept : maintained c root p c.scn ≡ false = subst (λ m. maintained c root m c.scn ≡ false) point h.kept in
    let fo : Followed root (base_at c p) (base_now c) (changes_of c root p c.scn) = followed trace root p kept in
    let there : (n : ℕ) → has_number q.tables n ≡ true → n < length (base_at c p) = planned.there p g.built in
    let t : Table = table_at (base_at c p) root in
    let cs : List Change = changes_of c root p c.scn in
    let is_now : still_table (table_at (base_now c) root) ≡ still_table (table_after t cs) = fo.whole (there root has_root) in
    let now : rows_at (base_now c) root ≡ map (row_at (table_after t cs)) (table_after t cs).rows = ap (λ (u : Table). map (row_at u) u.rows) is_now in
    let others : (n : ℕ) → has_number q.tables n ≡ true → (n == root) ≡ false → rows_at (base_at c p) n ≡ rows_at (base_now c) n =
    λ n e differ. same_table trace v p n point (g.tables n e) (none_changed c v n e differ fast.alone) (there n e) in
    let d : TableDef = def_at (defs_now c) root in
    let def : t.def.part_key ≡ d.part_key = sym (ap (λ (u : Table). u.def.part_key) is_now) ∙ ap (λ (d : TableDef). d.part_key) (sym (base_def (base_now c) root)) in
    let width : ℕ = length d.columns in
    record {
      point = p;
      built = g.built;
      others = planned.others;
      tables = planned.tables;
      apart = (subst Distinct planned.tables planned.once).0;
      apply = fo.apply;
      before = ap (λ o. option_case o [] (λ p. stored q (base_at c p))) g.built
          ∙ over_same q (rows_at (base_at c p)) (with_rows root (rows_at (base_at c p) root) (rows_at (base_now c))) (with_own_in q.tables root (rows_at (base_at c p)) (rows_at (base_now c)) others);
      after = ap (λ rs. stored_over q (with_rows root rs (rows_at (base_now c)))) (sym now)
          ∙ sym (over_same q (rows_at (base_now c)) (with_rows root (rows_at (base_now c) root) (rows_at (base_now c))) (with_own_in q.tables root (rows_at (base_now c)) (rows_at (base_now c)) (λ n e differ. refl)));
      now = now;
      olds = λ grouped.
          ap (λ m. map (row_at (table_at (base_now c) root)) (read_side width l.facts.columns O (log_between m c.scn (log_history c l)))) point
          ∙ ap (map (row_at (table_at (base_now c) root)))
          (olds_back c l p since width rowid (subst (λ (k : Log). k.facts.new_values ≡ true) log (h.both grouped)) ∙ ap (λ n. map (logged_row width l.facts.columns) (old_rows (changes_of c n p c.scn))) of_l)
          ∙ ap (λ u. map (row_at u) (map (logged_row width l.facts.columns) (old_rows cs))) is_now;
      news = λ grouped.
          ap (λ m. map (row_at (table_at (base_now c) root)) (read_side width l.facts.columns N (log_between m c.scn (log_history c l)))) point
          ∙ ap (map (row_at (table_at (base_now c) root)))
          (news_back c l p since width rowid (subst (λ (k : Log). k.facts.new_values ≡ true) log (h.both grouped)) ∙ ap (λ n. map (logged_row width l.facts.columns) (new_rows (changes_of c n p c.scn))) of_l)
          ∙ ap (λ u. map (row_at u) (map (logged_row width l.facts.columns) (new_rows cs))) is_now;
      logs = λ grouped col of used.
          let same : root ≡ col.table = eqb-true root col.table of in
          used_logged v.def (known c v (root, d)) l.facts t col (ap (option_map (λ (k : Log). k.facts)) fast.log) def (h.logged grouped) used (eq-eqb col.table root (sym same))
          (subst (λ n. IsPlace (def_at (defs_now c) n) col.part) (sym same) (planned.columns col used));
      rowids = λ value.
          ap (λ m. list_any (rowid_logged value) (log_between m c.scn (log_history c l))) point
          ∙ rowids_back c l p since value rowid (each_filter (λ n. IsEither n.change) (λ n. (n.table == l.table) && within p c.scn n.scn) c.changes (trace_either trace))
          ∙ ap (λ n. rowid_among (changes_of c n p c.scn) value) of_l;
      having = g.having;
    }
  where
    le_on : (a b c : ℕ) → a ≤ b → b ≤ c → a ≤ c
    le_on a b c h k = omega arith

-- ---- the laws

no_olds : (cs : List Change) → list_any is_removal cs ≡ false → old_rows cs ≡ []
no_olds [] e = refl
no_olds (c ∷ cs) e = by c.old (or_parts (is_some c.old) (list_any is_removal cs) e).0 (no_olds cs (or_parts (is_some c.old) (list_any is_removal cs) e).1)
  where
    by : (o : Option (List Value)) → is_some o ≡ false → old_rows cs ≡ [] → side c.rowid o ++ old_rows cs ≡ []
    by None e h = h
    by (Some vs) e h = absurd (true≢false e)

inserted : (trace : List Event) (v : View) (l : Log) → IsFast (catalog_of trace) v l → v.def.query.grouped ≡ true → is_empty v.def.query.keys ≡ false
    → list_any is_removal (changes_after (catalog_of trace) v v.def.query.root) ≡ false
    → (es : List ViewEntry) → KeysApart es
    → ((k : List Value) → found_row k es ≡ row_inserted (column_value v.def.query.tables) v.def.query (content (catalog_of trace) v) (tuples_logged (catalog_of trace) v l N) k)
    → sorted_by entry_cmp es ≡ stored v.def.query (base_now (catalog_of trace))
inserted trace v l fast grouped keyed none es apart found =
    let c : Catalog = catalog_of trace in
    let q : StarQuery = v.def.query in
    let s : Seat c v l = seat trace v l fast in
    let t : Table = root_then c v s.point in
    let cs : List Change = root_changes c v s.point in
    let width : ℕ = length (def_at (defs_now c) q.root).columns in
    let olds : old_rows cs ≡ [] = no_olds cs (subst (λ m. list_any is_removal (changes_of c q.root m c.scn) ≡ false) (ap (λ o. unwrap_or o 0) s.built) none) in
    inserts_from_log q q.root s.others t cs (rows_at (base_now c)) width l.facts.columns s.tables s.apart (has_column (used_columns q)) (uses q) (s.logs grouped) grouped s.having keyed s.apply olds es apart
    (λ k. found k ∙ (λ i. row_inserted (column_value q.tables) q (s.before i) (side_tuples q q.root (s.news grouped i) (rows_at (base_now c))) k))
    ∙ s.after

moved_counted : (trace : List Event) (v : View) (l : Log) → IsFast (catalog_of trace) v l → v.def.query.grouped ≡ true → is_empty v.def.query.keys ≡ false
    → selects v.def.query.items CountAll ≡ true
    → ((p : ℕ) → v.point ≡ Some p → Counted (column_value v.def.query.tables) v.def.query (side_tuples v.def.query v.def.query.root (map (row_at (root_then (catalog_of trace) v p)) (root_then (catalog_of trace) v p).rows) (rows_at (base_now (catalog_of trace)))))
    → (es : List ViewEntry) → KeysApart es
    → ((k : List Value) → found_row k es ≡ row_after (column_value v.def.query.tables) v.def.query (content (catalog_of trace) v) (tuples_logged (catalog_of trace) v l O) (tuples_logged (catalog_of trace) v l N) k)
    → sorted_by entry_cmp es ≡ stored v.def.query (base_now (catalog_of trace))
moved_counted trace v l fast grouped keyed rows counted es apart found =
    let c : Catalog = catalog_of trace in
    let q : StarQuery = v.def.query in
    let s : Seat c v l = seat trace v l fast in
    let t : Table = root_then c v s.point in
    let cs : List Change = root_changes c v s.point in
    let width : ℕ = length (def_at (defs_now c) q.root).columns in
    refresh_from_log q q.root s.others t cs (rows_at (base_now c)) width l.facts.columns s.tables s.apart (has_column (used_columns q)) (uses q) (s.logs grouped) grouped s.having keyed rows
    (counted s.point s.built) s.apply es apart
    (λ k. found k ∙ (λ i. row_after (column_value q.tables) q (s.before i) (side_tuples q q.root (s.olds grouped i) (rows_at (base_now c))) (side_tuples q q.root (s.news grouped i) (rows_at (base_now c))) k))
    ∙ s.after

joined : (trace : List Event) (v : View) (l : Log) (place : ℕ) → IsFast (catalog_of trace) v l → v.def.query.grouped ≡ false
    → slice_get v.def.query.items place ≡ Some (item.Col (record { table = v.def.query.root; part = RowId }))
    → sorted_by entry_cmp (entries_joined (catalog_of trace) v l place) ≡ stored v.def.query (base_now (catalog_of trace))
joined trace v l place fast plain selected =
    let c : Catalog = catalog_of trace in
    let q : StarQuery = v.def.query in
    let s : Seat c v l = seat trace v l fast in
    let t : Table = root_then c v s.point in
    let cs : List Change = root_changes c v s.point in
    let made : (Value → Bool) → List ViewEntry → List RowAt → List ViewEntry = λ test old now.
    sorted_by entry_cmp (filter (λ e. not (test (value_at e.row place))) old ++ plain_entries (column_value q.tables) q (side_tuples q q.root (filter (λ r. test (Num (pos r.rowid))) now) (rows_at (base_now c)))) in
    (λ i. made (λ value. s.rowids value i) (s.before i) (s.now i))
    ∙ join_refresh q q.root s.others (rows_at (base_now c)) s.tables s.apart place selected plain t cs
    ∙ s.after

still : (trace : List Event) (v : View) → IsPlanned (catalog_of trace) v → restriction (catalog_of trace) v ≡ None → changed_tables (catalog_of trace) v ≡ []
    → content (catalog_of trace) v ≡ stored v.def.query (base_now (catalog_of trace))
still trace v planned free none =
    let c : Catalog = catalog_of trace in
    let q : StarQuery = v.def.query in
    let g : AreGranted c v = are_granted c v planned.defined free in
    ap (λ o. option_case o [] (λ p. stored q (base_at c p))) g.built
    ∙ over_same q (rows_at (base_at c g.point)) (rows_at (base_now c))
    (λ n e. same_table trace v g.point n (ap (λ o. unwrap_or o 0) g.built) (g.tables n e)
    (none_with (changes_after c v n) (none_such (λ m. true) (λ m. not (is_empty (changes_after c v m))) q.tables n e (ap (list_any (λ (m : ℕ). true)) none) refl)) (planned.there g.point g.built n e))

-- what the counts rest on
full_then : (trace : List Event) (v : View) (p : ℕ) → IsPlanned (catalog_of trace) v → v.point ≡ Some p → (e : Expr) → selects_agg v.def.query (Sum e) ≡ true → list_all (view_never_null v.def) (expr_columns e) ≡ true
    → Each (λ t. is_null (expr_value (column_value v.def.query.tables t) e) ≡ false) (side_tuples v.def.query v.def.query.root (map (row_at (root_then (catalog_of trace) v p)) (root_then (catalog_of trace) v p).rows) (rows_at (base_now (catalog_of trace))))
full_then trace v p planned built e selected never =
    let c : Catalog = catalog_of trace in
    let root : ℕ = v.def.query.root in
    let t : Table = root_then c v p in
    let low : root < length (base_at c p) = planned.there p built root (root_there v planned.others planned.tables) in
    let then : Each (RowFull c root) (map (row_at t) t.rows) = rows_full c root t (def_then trace p root low) (fit_at (base_at c p) root (base_fits trace p)) in
    let now : (n : ℕ) → Each (RowFull c n) (rows_at (base_now c) n) = λ n. rows_full c n (table_at (base_now c) n) (ap table_still (sym (base_def (base_now c) n))) (fit_at (base_now c) n (trace_fits trace)) in
    tuples_full c v planned (with_rows root (map (row_at t) t.rows) (rows_at (base_now c))) (λ n there. by n (n == root) refl then (now n)) e selected never
  where
    by : (n : ℕ) (b : Bool) → (n == v.def.query.root) ≡ b → Each (RowFull (catalog_of trace) v.def.query.root) (map (row_at (root_then (catalog_of trace) v p)) (root_then (catalog_of trace) v p).rows)
        → Each (RowFull (catalog_of trace) n) (rows_at (base_now (catalog_of trace)) n)
        → Each (RowFull (catalog_of trace) n) (cond b (map (row_at (root_then (catalog_of trace) v p)) (root_then (catalog_of trace) v p).rows) (rows_at (base_now (catalog_of trace)) n))
    by n true e then now = subst (λ m. Each (RowFull (catalog_of trace) m) (map (row_at (root_then (catalog_of trace) v p)) (root_then (catalog_of trace) v p).rows)) (sym (eqb-true n v.def.query.root e)) then
    by n false e then now = now

abbrev tuples_then : Catalog → View → ℕ → List (List RowAt)
tuples_then c v p = side_tuples v.def.query v.def.query.root (map (row_at (root_then c v p)) (root_then c v p).rows) (rows_at (base_now c))

record Counting (trace : List Event) (v : View) (p : ℕ) : Type 0 where
  rows : selects v.def.query.items CountAll ≡ true
  counts : Counted (column_value v.def.query.tables) v.def.query (tuples_then (catalog_of trace) v p)

counting_of : (trace : List Event) (v : View) (p : ℕ) → IsPlanned (catalog_of trace) v → v.point ≡ Some p → has_average_alone v.def.query ≡ false → is_insert_only v.def ≡ false → has_extreme v.def.query ≡ false → Counting trace v p
counting_of trace v p planned built averages removals plain =
    let c : Catalog = catalog_of trace in
    let q : StarQuery = v.def.query in
    let value : List RowAt → ColRef → Value = column_value q.tables in
    let full : (e : Expr) → selects_agg q (Sum e) ≡ true → list_all (view_never_null v.def) (expr_columns e) ≡ true → (k : List Value)
    → agg_value value (with_key (key_of value q.keys) k (tuples_then c v p)) (Count e) ≡ agg_value value (with_key (key_of value q.keys) k (tuples_then c v p)) CountAll =
    λ e selected never k. never_null_full value e (λ t. same_values (key_of value q.keys t) k) (tuples_then c v p) (full_then trace v p planned built e selected never) in
    record {
      rows = rows_selected value v.def (tuples_then c v p) plain averages removals full;
      counts = counted value v.def (tuples_then c v p) plain averages removals full;
    }

moved : (trace : List Event) (v : View) (l : Log) → IsFast (catalog_of trace) v l → v.def.query.grouped ≡ true → is_empty v.def.query.keys ≡ false
    → is_insert_only v.def ≡ false → has_extreme v.def.query ≡ false
    → (es : List ViewEntry) → KeysApart es
    → ((k : List Value) → found_row k es ≡ row_after (column_value v.def.query.tables) v.def.query (content (catalog_of trace) v) (tuples_logged (catalog_of trace) v l O) (tuples_logged (catalog_of trace) v l N) k)
    → sorted_by entry_cmp es ≡ stored v.def.query (base_now (catalog_of trace))
moved trace v l fast grouped keyed removals plain es apart found =
    let g : AreGranted (catalog_of trace) v = are_granted (catalog_of trace) v fast.planned.defined fast.free in
    let known : (p : ℕ) → v.point ≡ Some p → Counting trace v p = λ p built. counting_of trace v p fast.planned built (g.averages grouped) removals plain in
    moved_counted trace v l fast grouped keyed (known g.point g.built).rows (λ p built. (known p built).counts) es apart found

any_of : {K : Type 0} (p : K → Bool) (f : ℕ → K) (ns : List ℕ) (n : ℕ) → has_number ns n ≡ true → p (f n) ≡ true → list_any p (map f ns) ≡ true
any_of p f [] n there e = cc
any_of p f (m ∷ ns) n there e = by (m == n) refl there (λ h. any_of p f ns n h e)
  where
    later : (b : Bool) → list_any p (map f ns) ≡ true → (b || list_any p (map f ns)) ≡ true
    later true h = refl
    later false h = h

    by : (b : Bool) → (m == n) ≡ b → (b || has_number ns n) ≡ true → (has_number ns n ≡ true → list_any p (map f ns) ≡ true) → (p (f m) || list_any p (map f ns)) ≡ true
    by true is there more = ap (λ b. b || list_any p (map f ns)) (ap (λ k. p (f k)) (eqb-true m n is) ∙ e)
    by false is there more = later (p (f m)) (more there)

covered : (trace : List Event) (v : View) (l : Log) → IsFast (catalog_of trace) v l → v.def.query.grouped ≡ true → extreme_met_removal (catalog_of trace) v ≡ false
    → list_any is_removal (changes_after (catalog_of trace) v v.def.query.root) ≡ true → (is_insert_only v.def ≡ false) × (has_extreme v.def.query ≡ false)
covered trace v l fast grouped free removed =
    let c : Catalog = catalog_of trace in
    let q : StarQuery = v.def.query in
    let g : AreGranted c v = are_granted c v fast.planned.defined fast.free in
    let there : has_number q.tables q.root ≡ true = root_there v fast.planned.others fast.planned.tables in
    let any : list_any (λ (k : Known). k.removed) (facts_of c v).tables ≡ true =
    ap (list_any (λ (k : Known). k.removed)) (knowns c v fast.planned.defined) ∙ any_of (λ (k : Known). k.removed) (λ n. known c v (n, def_at (defs_now c) n)) q.tables q.root there removed in
    (only (is_insert_only v.def) refl (λ e. (g.tables q.root there).inserts grouped e), extreme (has_extreme q) (list_any (λ (k : Known). k.removed) (facts_of c v).tables) any free)
  where
    only : (b : Bool) → is_insert_only v.def ≡ b → (is_insert_only v.def ≡ true → list_any is_removal (changes_after (catalog_of trace) v v.def.query.root) ≡ false) → b ≡ false
    only true e h = absurd (true≢false (sym removed ∙ h e))
    only false e h = refl

    extreme : (a b : Bool) → b ≡ true → (a && b) ≡ false → a ≡ false
    extreme true b e f = absurd (true≢false (sym e ∙ f))
    extreme false b e f = refl

-- without group columns each tuple has the one key
all_have : {T : Type 0} (value : T → ColRef → Value) (keys : List ColRef) (ts : List T) → keys ≡ [] → with_key (key_of value keys) [] ts ≡ ts
all_have {T} value keys ts none = ap (λ ks. with_key (key_of value ks) [] ts) none ∙ by ts
  where
    by : (us : List T) → with_key (key_of value []) [] us ≡ us
    by [] = refl
    by (u ∷ us) = ap (λ rest. u ∷ rest) (by us)

inserted_alone : (trace : List Event) (v : View) (l : Log) → IsFast (catalog_of trace) v l → v.def.query.grouped ≡ true → v.def.query.keys ≡ []
    → list_any is_removal (changes_after (catalog_of trace) v v.def.query.root) ≡ false
    → inserted_single (column_value v.def.query.tables) v.def.query (content (catalog_of trace) v) (tuples_logged (catalog_of trace) v l N) ≡ stored v.def.query (base_now (catalog_of trace))
inserted_alone trace v l fast grouped single none =
    let c : Catalog = catalog_of trace in
    let q : StarQuery = v.def.query in
    let s : Seat c v l = seat trace v l fast in
    let cs : List Change = root_changes c v s.point in
    let width : ℕ = length (def_at (defs_now c) q.root).columns in
    let olds : old_rows cs ≡ [] = no_olds cs (subst (λ m. list_any is_removal (changes_of c q.root m c.scn) ≡ false) (ap (λ o. unwrap_or o 0) s.built) none) in
    (λ i. inserted_single (column_value q.tables) q (s.before i) (side_tuples q q.root (s.news grouped i) (rows_at (base_now c))))
    ∙ single_inserts q q.root s.others (root_then c v s.point) cs (rows_at (base_now c)) width l.facts.columns s.tables s.apart (has_column (used_columns q)) (uses q) (s.logs grouped) grouped s.having single s.apply olds
    ∙ s.after

moved_alone : (trace : List Event) (v : View) (l : Log) → IsFast (catalog_of trace) v l → v.def.query.grouped ≡ true → v.def.query.keys ≡ []
    → is_insert_only v.def ≡ false → has_extreme v.def.query ≡ false
    → moved_single (column_value v.def.query.tables) v.def.query (content (catalog_of trace) v) (tuples_logged (catalog_of trace) v l O) (tuples_logged (catalog_of trace) v l N) ≡ stored v.def.query (base_now (catalog_of trace))
moved_alone trace v l fast grouped single removals plain =
    let c : Catalog = catalog_of trace in
    let q : StarQuery = v.def.query in
    let s : Seat c v l = seat trace v l fast in
    let g : AreGranted c v = are_granted c v fast.planned.defined fast.free in
    let cs : List Change = root_changes c v s.point in
    let width : ℕ = length (def_at (defs_now c) q.root).columns in
    let known : Counting trace v s.point = counting_of trace v s.point fast.planned s.built (g.averages grouped) removals plain in
    (λ i. moved_single (column_value q.tables) q (s.before i) (side_tuples q q.root (s.olds grouped i) (rows_at (base_now c))) (side_tuples q q.root (s.news grouped i) (rows_at (base_now c))))
    ∙ single_from_log q q.root s.others (root_then c v s.point) cs (rows_at (base_now c)) width l.facts.columns s.tables s.apart (has_column (used_columns q)) (uses q) (s.logs grouped) grouped s.having single s.apply
    known.rows (λ a e. let one = known.counts a e in (one.0, by (tuples_then c v s.point) a (all_have (column_value q.tables) q.keys (tuples_then c v s.point) single) one.1))
    ∙ s.after
  where
    by : (ts : List (List RowAt)) (a : Agg) → with_key (key_of (column_value v.def.query.tables) v.def.query.keys) [] ts ≡ ts
        → (selects v.def.query.items (counting a) ≡ true) ⊎ ((k : List Value) → agg_value (column_value v.def.query.tables) (with_key (key_of (column_value v.def.query.tables) v.def.query.keys) k ts) (counting a) ≡ agg_value (column_value v.def.query.tables) (with_key (key_of (column_value v.def.query.tables) v.def.query.keys) k ts) CountAll)
        → (selects v.def.query.items (counting a) ≡ true) ⊎ (agg_value (column_value v.def.query.tables) ts (counting a) ≡ agg_value (column_value v.def.query.tables) ts CountAll)
    by ts a all (inl x) = inl x
    by ts a all (inr full) = inr (subst (λ us. agg_value (column_value v.def.query.tables) us (counting a) ≡ agg_value (column_value v.def.query.tables) us CountAll) all (full []))

logged : (trace : List Event) (v : View) → IsPlanned (catalog_of trace) v → restriction (catalog_of trace) v ≡ None → (l : Log) × (log_of (catalog_of trace) v.def.query.root ≡ Some l)
logged trace v planned free =
    let g : AreGranted (catalog_of trace) v = are_granted (catalog_of trace) v planned.defined free in
    let h : IsGranted (catalog_of trace) v v.def.query.root = g.tables v.def.query.root (root_there v planned.others planned.tables) in
    (h.log, h.found)

placed : (trace : List Event) (v : View) → IsPlanned (catalog_of trace) v → restriction (catalog_of trace) v ≡ None → v.def.query.grouped ≡ false
    → (place : ℕ) × (slice_get v.def.query.items place ≡ Some (item.Col (record { table = v.def.query.root; part = RowId })))
placed trace v planned free plain =
    let g : AreGranted (catalog_of trace) v = are_granted (catalog_of trace) v planned.defined free in
    column_at v.def.query (record { table = v.def.query.root; part = RowId }) ((g.tables v.def.query.root (root_there v planned.others planned.tables)).selected plain)

read_still : (c : Catalog) (v : View) → changed_tables c v ≡ [] → fast_reads c v ≡ 0
read_still c v none = ap (λ ns. cond (is_empty ns) 0 (cond (other_changed c v || extreme_met_removal c v) (all_rows (base_now c) v.def.query) (root_reads c v))) none

read_root : (c : Catalog) (v : View) → is_empty (changed_tables c v) ≡ false → other_changed c v ≡ false → extreme_met_removal c v ≡ false → fast_reads c v ≡ root_reads c v
read_root c v some alone plain = λ i. cond (some i) 0 (cond (alone i || plain i) (all_rows (base_now c) v.def.query) (root_reads c v))

read_all : (c : Catalog) (v : View) → is_empty (changed_tables c v) ≡ false → (other_changed c v || extreme_met_removal c v) ≡ true → fast_reads c v ≡ all_rows (base_now c) v.def.query
read_all c v some all = λ i. cond (some i) 0 (cond (all i) (all_rows (base_now c) v.def.query) (root_reads c v))

rowid_is : (m k : ℕ) → same_value (Num (pos m)) (Num (pos k)) ≡ (k == m)
rowid_is m k = by (same_value (Num (pos m)) (Num (pos k))) (k == m) refl refl
  where
    number : Value → ℕ
    number (Num (pos n)) = n
    number v = 0

    by : (a b : Bool) → same_value (Num (pos m)) (Num (pos k)) ≡ a → (k == m) ≡ b → a ≡ b
    by true true e f = refl
    by true false e f = let same : m ≡ k = ap number ((same_value-Decides (Num (pos m)) (Num (pos k))).0 e) in absurd (true≢false (sym (eq-eqb k m (sym same)) ∙ f))
    by false true e f = absurd (true≢false (sym ((same_value-Decides (Num (pos m)) (Num (pos k))).1 (ap (λ n. Num (pos n)) (sym (eqb-true k m f)))) ∙ e))
    by false false e f = refl

among_is : (cs : List Change) (m : ℕ) → rowid_among cs (Num (pos m)) ≡ has_number (map (λ c. c.rowid) cs) m
among_is [] m = refl
among_is (c ∷ cs) m = λ i. rowid_is m c.rowid i || among_is cs m i

rises_at : (base : Base) (n : ℕ) → Each Rises base → Rises (table_at base n)
rises_at [] n h = (tt, tt)
rises_at (t ∷ base) zero h = h.0
rises_at (t ∷ base) (suc n) h = rises_at base n h.1

read_joined : (trace : List Event) (v : View) (l : Log) → IsFast (catalog_of trace) v l
    → length (filter (λ r. is_logged (catalog_of trace) v l (Num (pos r.rowid))) (rows_at (base_now (catalog_of trace)) v.def.query.root))
    ≡ live_changed (base_now (catalog_of trace)) v.def.query.root (changes_after (catalog_of trace) v v.def.query.root)
read_joined trace v l fast =
    let c : Catalog = catalog_of trace in
    let root : ℕ = v.def.query.root in
    let s : Seat c v l = seat trace v l fast in
    let t : Table = table_at (base_now c) root in
    let point : point_of v ≡ s.point = ap (λ o. unwrap_or o 0) s.built in
    let now : (m : ℕ) → is_logged c v l (Num (pos m)) ≡ has_number (map (λ (d : Change). d.rowid) (root_changes c v s.point)) m = λ m. s.rowids (Num (pos m)) ∙ among_is (root_changes c v s.point) m in
    (λ i. length (filter (λ (r : RowAt). now r.rowid i) (map (row_at t) t.rows)))
    ∙ ap (λ (rs : List RowAt). length rs) (filter-map (λ (r : RowAt). has_number (map (λ (d : Change). d.rowid) (root_changes c v s.point)) r.rowid) (row_at t) t.rows)
    ∙ length-map (filter (λ r. has_number (map (λ (d : Change). d.rowid) (root_changes c v s.point)) r.rowid) t.rows) (row_at t)
    ∙ rows_met (λ (r : Row). r.rowid) t.rows (map (λ (d : Change). d.rowid) (root_changes c v s.point)) (rises_at (base_now c) root (trace_rises trace)).0
    ∙ ap (λ m. live_changed (base_now c) root (changes_of c root m c.scn)) (sym point)

pub fast_laws : FastLaws
fast_laws =
    record {
      still = still;
      inserted = inserted;
      moved = moved;
      inserted_alone = inserted_alone;
      moved_alone = moved_alone;
      covered = covered;
      joined = joined;
      logged = logged;
      placed = placed;
      read_still = read_still;
      read_root = read_root;
      read_all = read_all;
      read_joined = read_joined;
    }
