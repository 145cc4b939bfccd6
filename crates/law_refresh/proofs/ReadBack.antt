-- The rows that a log ever had, between two SCNs, read back as the sides of the changes between them.
use Rattle.std.proofs.Common.{◌≡◌, ◌∙◌, sym, ap, refl, arith, ℕ, ◌+◌, ◌≤◌, Bool, true, false, cond, List, [], ◌∷◌, map, Option, Some, None, nat_le, nat_lt, ◌==◌, ◌&&◌, ◌||◌, true≢false}
use Rattle.std.specs.Prelude.{flat_map, pos}
use Rattle.std.specs.List.{enumerate_from, filter, list_any}
use Rattle.std.proofs.lemmas.Bool.{ltb-true, lt-ltb}
use Rattle.std.proofs.lemmas.List.Folds.{list_any-append}
use Rattle.std.proofs.Math.Bool.{or-false}
use Rattle.wh_base.specs.Lists.{option_case, where_true}
use Rattle.wh_base.specs.Values.{same_value}
use Rattle.wh_base.specs.declared.logs.LogFacts.{LogFacts}
use Rattle.wh_base.specs.declared.logs.LogRow.{LogRow}
use Rattle.wh_base.specs.declared.logs.LogSide.{LogSide}
use Rattle.wh_base.specs.declared.logs.LogSide.TheVariants.{N, O}
use Rattle.wh_base.specs.declared.values.Value.{Value}
use Rattle.wh_base.specs.declared.values.Value.TheVariants.{Num}
use Rattle.def_history.specs.Catalog.{Catalog, Log, Noted}
use Rattle.def_history.specs.History.{changes_of, noted_changes, within}
use Rattle.def_history.specs.Logs.{log_history, log_side, sides_of}
use Rattle.law_delta.specs.ByRowid.{rowid_among}
use Rattle.law_delta.specs.Deltas.{new_rows, old_rows}
use Rattle.law_delta.specs.Restored.{logged_row}
use Rattle.law_refresh.proofs.Reading.{log_within, news_read, olds_read}
use Rattle.law_refresh.specs.SidesRead.{log_between, read_row, read_side, rowid_logged, same_side}
use Rattle.law_trace.proofs.Changes.{IsEither}
use Rattle.law_trace.proofs.Listed.{Each}

abbrev sequence : LogFacts → ℕ × LogRow → LogRow
sequence f p = record p.1 { seq = where_true f.sequence p.0 }

-- the sequence plays no part, also among the rows of some SCNs
module _ (f : LogFacts) (p : ℕ → Bool) where
  module _ (width : ℕ) (s : LogSide) where
    abbrev found : List LogRow → List LogRow
    found rows = filter (λ r. same_side r.side s) (filter (λ r. p r.scn) rows)

    read_within : (start : ℕ) (rows : List LogRow) → read_side width f.columns s (filter (λ r. p r.scn) (map (sequence f) (enumerate_from start rows))) ≡ read_side width f.columns s (filter (λ r. p r.scn) rows)
    read_within start [] = refl
    read_within start (r ∷ rs) = by (p r.scn) (same_side r.side s) (read_within (start + 1) rs)
      where
        by : (a b : Bool) → read_side width f.columns s (filter (λ r. p r.scn) (map (sequence f) (enumerate_from (start + 1) rs))) ≡ read_side width f.columns s (filter (λ r. p r.scn) rs)
            → map (read_row width f.columns) (filter (λ r. same_side r.side s) (cond a (sequence f (start, r) ∷ filter (λ r. p r.scn) (map (sequence f) (enumerate_from (start + 1) rs))) (filter (λ r. p r.scn) (map (sequence f) (enumerate_from (start + 1) rs)))))
            ≡ map (read_row width f.columns) (filter (λ r. same_side r.side s) (cond a (r ∷ filter (λ r. p r.scn) rs) (filter (λ r. p r.scn) rs)))
        by true b h = one (same_side r.side s) h
          where
            one : (b : Bool) → read_side width f.columns s (filter (λ r. p r.scn) (map (sequence f) (enumerate_from (start + 1) rs))) ≡ read_side width f.columns s (filter (λ r. p r.scn) rs)
                → map (read_row width f.columns) (cond b (sequence f (start, r) ∷ found (map (sequence f) (enumerate_from (start + 1) rs))) (found (map (sequence f) (enumerate_from (start + 1) rs))))
                ≡ map (read_row width f.columns) (cond b (r ∷ found rs) (found rs))
            one true h = ap (λ rest. read_row width f.columns r ∷ rest) h
            one false h = h
        by false b h = h

  -- the rowids neither
  rowid_within : (v : Value) (start : ℕ) (rows : List LogRow) → list_any (rowid_logged v) (filter (λ r. p r.scn) (map (sequence f) (enumerate_from start rows))) ≡ list_any (rowid_logged v) (filter (λ r. p r.scn) rows)
  rowid_within v start [] = refl
  rowid_within v start (r ∷ rs) = by (p r.scn) (rowid_within v (start + 1) rs)
    where
      by : (a : Bool) → list_any (rowid_logged v) (filter (λ r. p r.scn) (map (sequence f) (enumerate_from (start + 1) rs))) ≡ list_any (rowid_logged v) (filter (λ r. p r.scn) rs)
          → list_any (rowid_logged v) (cond a (sequence f (start, r) ∷ filter (λ r. p r.scn) (map (sequence f) (enumerate_from (start + 1) rs))) (filter (λ r. p r.scn) (map (sequence f) (enumerate_from (start + 1) rs))))
          ≡ list_any (rowid_logged v) (cond a (r ∷ filter (λ r. p r.scn) rs) (filter (λ r. p r.scn) rs))
      by true h = ap (λ b. rowid_logged v r || b) h
      by false h = h

module _ (f : LogFacts) (rowids : f.rowid ≡ true) (v : Value) where
  side_rowid : (n : Noted) (s : LogSide) (vs : List Value) → rowid_logged v (log_side f n s vs) ≡ same_value v (Num (pos n.change.rowid))
  side_rowid n s vs = ap (λ b. option_case (where_true b n.change.rowid) false (λ n. same_value v (Num (pos n)))) rowids

  sides_rowid : (n : Noted) → IsEither n.change → list_any (rowid_logged v) (sides_of f n) ≡ same_value v (Num (pos n.change.rowid))
  sides_rowid n either = by n.scn n.table n.change.rowid n.change.old n.change.new either
    where
      or_same : (b : Bool) → (b || (b || false)) ≡ b
      or_same true = refl
      or_same false = refl

      by : (scn table rowid : ℕ) (old new : Option (List Value)) → IsEither (record { rowid = rowid; old = old; new = new })
          → list_any (rowid_logged v) (sides_of f (record { scn = scn; table = table; change = record { rowid = rowid; old = old; new = new } })) ≡ same_value v (Num (pos rowid))
      by scn table rowid None None e = absurd (true≢false (sym e))
      by scn table rowid None (Some vs) e = ap (λ b. b || false) (side_rowid (record { scn = scn; table = table; change = record { rowid = rowid; old = None; new = Some vs } }) N vs) ∙ or-false (same_value v (Num (pos rowid)))
      by scn table rowid (Some us) None e = ap (λ b. b || false) (side_rowid (record { scn = scn; table = table; change = record { rowid = rowid; old = Some us; new = None } }) O us) ∙ or-false (same_value v (Num (pos rowid)))
      by scn table rowid (Some us) (Some vs) e =
          let n : Noted = record { scn = scn; table = table; change = record { rowid = rowid; old = Some us; new = Some vs } } in
          let same : Bool = same_value v (Num (pos rowid)) in
          (λ i. side_rowid n O us i || list_any (rowid_logged v) (cond f.new_values (log_side f n N vs ∷ []) [])) ∙ new f.new_values n same (side_rowid n N vs)
        where
          new : (b : Bool) (n : Noted) (same : Bool) → rowid_logged v (log_side f n N vs) ≡ same → (same || list_any (rowid_logged v) (cond b (log_side f n N vs ∷ []) [])) ≡ same
          new true n same e = ap (λ b. same || (b || false)) e ∙ or_same same
          new false n same e = or-false same

  pub sides_rowids : (ns : List Noted) → Each (λ n. IsEither n.change) ns → list_any (rowid_logged v) (flat_map (sides_of f) ns) ≡ rowid_among (map (λ n. n.change) ns) v
  sides_rowids [] h = refl
  sides_rowids (n ∷ ns) h = list_any-append (rowid_logged v) (sides_of f n) (flat_map (sides_of f) ns) ∙ (λ i. sides_rowid n h.0 i || sides_rowids ns h.1 i)

-- ---- the changes of a log since a later SCN than its birth

later_within : (table born q top : ℕ) → born ≤ q → (ns : List Noted)
    → filter (λ n. within q top n.scn) (filter (λ n. (n.table == table) && within born top n.scn) ns) ≡ filter (λ n. (n.table == table) && within q top n.scn) ns
later_within table born q top low [] = refl
later_within table born q top low (n ∷ ns) =
    by (n.table == table) (nat_lt born n.scn) (nat_lt q n.scn) (nat_le n.scn top) (λ e. lt-ltb born n.scn (omega (arith, ltb-true q n.scn e))) (later_within table born q top low ns) refl
  where
    later : List Noted
    later = filter (λ n. (n.table == table) && within born top n.scn) ns

    wanted : List Noted
    wanted = filter (λ n. (n.table == table) && within q top n.scn) ns

    by : (a b c d : Bool) → (c ≡ true → b ≡ true) → filter (λ n. within q top n.scn) later ≡ wanted
        → filter (λ n. within q top n.scn) (n ∷ later) ≡ cond (c && d) (n ∷ filter (λ n. within q top n.scn) later) (filter (λ n. within q top n.scn) later)
        → filter (λ n. within q top n.scn) (cond (a && (b && d)) (n ∷ later) later) ≡ cond (a && (c && d)) (n ∷ wanted) wanted
    by false b c d within_born h e = h
    by true true c true within_born h e = e ∙ ap (λ rest. cond (c && true) (n ∷ rest) rest) h
    by true true true false within_born h e = h
    by true true false false within_born h e = h
    by true false true d within_born h e = absurd (true≢false (sym (within_born refl)))
    by true false false d within_born h e = h

-- ---- what is read

module _ (c : Catalog) (l : Log) (q : ℕ) (since : l.born ≤ q) where
  abbrev history : List LogRow
  history = flat_map (sides_of l.facts) (noted_changes c l.table l.born c.scn)

  sides_between : filter (λ r. within q c.scn r.scn) history ≡ flat_map (sides_of l.facts) (noted_changes c l.table q c.scn)
  sides_between =
      log_within l.facts (λ n. within q c.scn n) (noted_changes c l.table l.born c.scn)
      ∙ ap (flat_map (sides_of l.facts)) (later_within l.table l.born q c.scn since c.changes)

  pub olds_back : (width : ℕ) → l.facts.rowid ≡ true → l.facts.new_values ≡ true
      → read_side width l.facts.columns O (log_between q c.scn (log_history c l)) ≡ map (logged_row width l.facts.columns) (old_rows (changes_of c l.table q c.scn))
  olds_back width rowids both =
      read_within l.facts (λ n. within q c.scn n) width O 1 history
      ∙ ap (read_side width l.facts.columns O) sides_between
      ∙ olds_read l.facts width rowids both (noted_changes c l.table q c.scn)

  pub news_back : (width : ℕ) → l.facts.rowid ≡ true → l.facts.new_values ≡ true
      → read_side width l.facts.columns N (log_between q c.scn (log_history c l)) ≡ map (logged_row width l.facts.columns) (new_rows (changes_of c l.table q c.scn))
  news_back width rowids both =
      read_within l.facts (λ n. within q c.scn n) width N 1 history
      ∙ ap (read_side width l.facts.columns N) sides_between
      ∙ news_read l.facts width rowids both (noted_changes c l.table q c.scn)

  pub rowids_back : (v : Value) → l.facts.rowid ≡ true → Each (λ n. IsEither n.change) (noted_changes c l.table q c.scn)
      → list_any (rowid_logged v) (log_between q c.scn (log_history c l)) ≡ rowid_among (changes_of c l.table q c.scn) v
  rowids_back v rowids each =
      rowid_within l.facts (λ n. within q c.scn n) v 1 history
      ∙ ap (list_any (rowid_logged v)) sides_between
      ∙ sides_rowids l.facts rowids v (noted_changes c l.table q c.scn) each
