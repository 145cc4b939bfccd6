-- The rows of a log read back are the old sides and the new sides of the changes, by the logged columns.
use Rattle.std.proofs.Common.{◌≡◌, ◌∙◌, sym, ap, refl, ℕ, ◌+◌, Bool, true, false, cond, List, [], ◌∷◌, ◌++◌, map, Option, Some, None}
use Rattle.std.specs.Prelude.{filter, flat_map}
use Rattle.std.specs.List.{enumerate_from}
use Rattle.std.proofs.lemmas.List.{map-append}
use Rattle.std.proofs.lemmas.List.Elements.{filter-append}
use Rattle.wh_base.specs.Lists.{where_true}
use Rattle.wh_base.specs.declared.logs.LogFacts.{LogFacts}
use Rattle.wh_base.specs.declared.logs.LogRow.{LogRow}
use Rattle.wh_base.specs.declared.logs.LogSide.{LogSide}
use Rattle.wh_base.specs.declared.logs.LogSide.TheVariants.{N, O}
use Rattle.wh_base.specs.declared.values.Value.{Value}
use Rattle.def_history.specs.Catalog.{Noted}
use Rattle.def_history.specs.Logs.{log_side, sequenced, sides_of}
use Rattle.law_delta.specs.Deltas.{new_rows, old_rows, side}
use Rattle.law_delta.specs.Restored.{logged_row}
use Rattle.law_refresh.specs.SidesRead.{read_row, read_side, same_side}

module _ (f : LogFacts) (width : ℕ) (rowids : f.rowid ≡ true) (both_sides : f.new_values ≡ true) where
  rowid_read : (scn table rowid : ℕ) (vs : List Value) (s : LogSide) (old new : Option (List Value)) → read_row width f.columns (log_side f (record { scn = scn; table = table; change = record { rowid = rowid; old = old; new = new } }) s vs) ≡ logged_row width f.columns (record { rowid = rowid; values = vs })
  rowid_read scn table rowid vs s old new = ap (λ b. read_row width f.columns (record (log_side f (record { scn = scn; table = table; change = record { rowid = rowid; old = old; new = new } }) s vs) { rowid = where_true b rowid })) rowids

  olds_of : (n : Noted) → read_side width f.columns O (sides_of f n) ≡ map (logged_row width f.columns) (side n.change.rowid n.change.old)
  olds_of n = by n.scn n.table n.change.rowid n.change.old n.change.new
    where
      by : (scn table rowid : ℕ) (old new : Option (List Value)) → read_side width f.columns O (sides_of f (record { scn = scn; table = table; change = record { rowid = rowid; old = old; new = new } })) ≡ map (logged_row width f.columns) (side rowid old)
      by scn table rowid None None = refl
      by scn table rowid None (Some vs) = refl
      by scn table rowid (Some us) None = ap (λ r. r ∷ []) (rowid_read scn table rowid us O (Some us) None)
      by scn table rowid (Some us) (Some vs) = λ i. rowid_read scn table rowid us O (Some us) (Some vs) i ∷ map (read_row width f.columns) (filter (λ r. same_side r.side O) (cond (both_sides i) (log_side f (record { scn = scn; table = table; change = record { rowid = rowid; old = Some us; new = Some vs } }) N vs ∷ []) []))

  news_of : (n : Noted) → read_side width f.columns N (sides_of f n) ≡ map (logged_row width f.columns) (side n.change.rowid n.change.new)
  news_of n = by n.scn n.table n.change.rowid n.change.old n.change.new
    where
      by : (scn table rowid : ℕ) (old new : Option (List Value)) → read_side width f.columns N (sides_of f (record { scn = scn; table = table; change = record { rowid = rowid; old = old; new = new } })) ≡ map (logged_row width f.columns) (side rowid new)
      by scn table rowid None None = refl
      by scn table rowid None (Some vs) = ap (λ r. r ∷ []) (rowid_read scn table rowid vs N None (Some vs))
      by scn table rowid (Some us) None = refl
      by scn table rowid (Some us) (Some vs) =
          (λ i. read_side width f.columns N (log_side f (record { scn = scn; table = table; change = record { rowid = rowid; old = Some us; new = Some vs } }) O us ∷ cond (both_sides i) (log_side f (record { scn = scn; table = table; change = record { rowid = rowid; old = Some us; new = Some vs } }) N vs ∷ []) []))
          ∙ ap (λ r. r ∷ []) (rowid_read scn table rowid vs N (Some us) (Some vs))

  read-append : (s : LogSide) (xs ys : List LogRow) → read_side width f.columns s (xs ++ ys) ≡ read_side width f.columns s xs ++ read_side width f.columns s ys
  read-append s xs ys =
      ap (map (read_row width f.columns)) (filter-append (λ r. same_side r.side s) xs ys)
      ∙ map-append (read_row width f.columns) (filter (λ r. same_side r.side s) xs) (filter (λ r. same_side r.side s) ys)

  -- the old sides
  pub olds_read : (ns : List Noted) → read_side width f.columns O (flat_map (sides_of f) ns) ≡ map (logged_row width f.columns) (old_rows (map (λ n. n.change) ns))
  olds_read [] = refl
  olds_read (n ∷ ns) =
      read-append O (sides_of f n) (flat_map (sides_of f) ns)
      ∙ (λ i. olds_of n i ++ olds_read ns i)
      ∙ sym (map-append (logged_row width f.columns) (side n.change.rowid n.change.old) (old_rows (map (λ n. n.change) ns)))

  -- the new sides
  pub news_read : (ns : List Noted) → read_side width f.columns N (flat_map (sides_of f) ns) ≡ map (logged_row width f.columns) (new_rows (map (λ n. n.change) ns))
  news_read [] = refl
  news_read (n ∷ ns) =
      read-append N (sides_of f n) (flat_map (sides_of f) ns)
      ∙ (λ i. news_of n i ++ news_read ns i)
      ∙ sym (map-append (logged_row width f.columns) (side n.change.rowid n.change.new) (new_rows (map (λ n. n.change) ns)))

-- the sequence plays no part
read_numbered : (f : LogFacts) (width : ℕ) (s : LogSide) (start : ℕ) (rows : List LogRow) → read_side width f.columns s (map (λ (p : ℕ × LogRow). record p.1 { seq = where_true f.sequence p.0 }) (enumerate_from start rows)) ≡ read_side width f.columns s rows
read_numbered f width s start [] = refl
read_numbered f width s start (r ∷ rs) = by (same_side r.side s) (read_numbered f width s (start + 1) rs)
  where
    by : (b : Bool) → read_side width f.columns s (map (λ (p : ℕ × LogRow). record p.1 { seq = where_true f.sequence p.0 }) (enumerate_from (start + 1) rs)) ≡ read_side width f.columns s rs
        → map (read_row width f.columns) (cond b (record r { seq = where_true f.sequence start } ∷ filter (λ r. same_side r.side s) (map (λ (p : ℕ × LogRow). record p.1 { seq = where_true f.sequence p.0 }) (enumerate_from (start + 1) rs))) (filter (λ r. same_side r.side s) (map (λ (p : ℕ × LogRow). record p.1 { seq = where_true f.sequence p.0 }) (enumerate_from (start + 1) rs))))
        ≡ map (read_row width f.columns) (cond b (r ∷ filter (λ r. same_side r.side s) rs) (filter (λ r. same_side r.side s) rs))
    by true h = ap (λ rest. read_row width f.columns r ∷ rest) h
    by false h = h

pub read_sequenced : (f : LogFacts) (width : ℕ) (s : LogSide) (rows : List LogRow) → read_side width f.columns s (sequenced f rows) ≡ read_side width f.columns s rows
read_sequenced f width s rows = read_numbered f width s 1 rows

-- ---- the rows of a log with an SCN that passes a test are the sides of the changes that do

nothing_left : (b : Bool) (none : List LogRow) → none ≡ [] → none ≡ cond b none []
nothing_left true none h = refl
nothing_left false none h = h

two_left : (b : Bool) (x : LogRow) (rest left : List LogRow) → left ≡ cond b rest [] → cond b (x ∷ left) left ≡ cond b (x ∷ rest) []
two_left true x rest left h = ap (λ more. x ∷ more) h
two_left false x rest left h = h

second_left : (p : ℕ → Bool) (y : LogRow) (c : Bool) → filter (λ r. p r.scn) (cond c (y ∷ []) []) ≡ cond (p y.scn) (cond c (y ∷ []) []) []
second_left p y true = refl
second_left p y false = nothing_left (p y.scn) [] refl

sides_within : (f : LogFacts) (p : ℕ → Bool) (n : Noted) → filter (λ r. p r.scn) (sides_of f n) ≡ cond (p n.scn) (sides_of f n) []
sides_within f p n = by n.scn n.table n.change.rowid n.change.old n.change.new
  where
    by : (scn table rowid : ℕ) (old new : Option (List Value)) → filter (λ r. p r.scn) (sides_of f (record { scn = scn; table = table; change = record { rowid = rowid; old = old; new = new } })) ≡ cond (p scn) (sides_of f (record { scn = scn; table = table; change = record { rowid = rowid; old = old; new = new } })) []
    by scn table rowid None None = nothing_left (p scn) [] refl
    by scn table rowid None (Some vs) = refl
    by scn table rowid (Some us) None = refl
    by scn table rowid (Some us) (Some vs) =
        let n : Noted = record { scn = scn; table = table; change = record { rowid = rowid; old = Some us; new = Some vs } } in
        let y : LogRow = log_side f n N vs in
        two_left (p scn) (log_side f n O us) (cond f.new_values (y ∷ []) []) (filter (λ r. p r.scn) (cond f.new_values (y ∷ []) [])) (second_left p y f.new_values)

pub log_within : (f : LogFacts) (p : ℕ → Bool) (ns : List Noted) → filter (λ r. p r.scn) (flat_map (sides_of f) ns) ≡ flat_map (sides_of f) (filter (λ n. p n.scn) ns)
log_within f p [] = refl
log_within f p (n ∷ ns) = filter-append (λ r. p r.scn) (sides_of f n) (flat_map (sides_of f) ns) ∙ (λ i. sides_within f p n i ++ log_within f p ns i) ∙ by (p n.scn)
  where
    by : (b : Bool) → cond b (sides_of f n) [] ++ flat_map (sides_of f) (filter (λ n. p n.scn) ns) ≡ flat_map (sides_of f) (cond b (n ∷ filter (λ n. p n.scn) ns) (filter (λ n. p n.scn) ns))
    by true = refl
    by false = refl
