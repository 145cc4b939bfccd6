-- Where the walk joins nothing back and doesn't fail, each wanted column is available by the view.
use Rattle.std.proofs.Common.{◌≡◌, ◌∙◌, sym, ap, refl, ℕ, zero, suc, length, Bool, true, false, cond, List, [], ◌∷◌, ◌++◌, map, Option, Some, None}
use Rattle.std.specs.Prelude.{◌&&◌, ◌||◌, ◌==◌, find, fold, is_some, not, option_and_then}
use Rattle.std.specs.List.{filter, list_any}
use Rattle.std.proofs.lemmas.List.{append-nil}
use Rattle.std.proofs.lemmas.List.Folds.{list_any-append}
use Rattle.wh_base.specs.Columns.{has_column, same_column, same_item}
use Rattle.wh_base.specs.declared.queries.Edge.{Edge}
use Rattle.wh_base.specs.declared.queries.Item.{Item}
use Rattle.wh_base.specs.declared.queries.Item.TheVariants as item
use Rattle.def_meaning.specs.Ranges.{equal_columns, other_end, spread, spread_times}
use Rattle.def_restrictions.specs.Definition.{selects_column}
use Rattle.std.proofs.lemmas.Bool.Decides.{Decides-eqb}
use Rattle.std.proofs.Math.Bool.{or-true}
use Rattle.wh_base.specs.Lists.{has_number, is_empty, where_true}
use Rattle.wh_base.specs.declared.columns.ColRef.{ColRef}
use Rattle.wh_base.specs.declared.queries.StarQuery.{StarQuery}
use Rattle.wh_base.specs.declared.statements.Level.{Level}
use Rattle.wh_base.specs.declared.tables.TableDef.{TableDef}
use Rattle.wh_base.specs.declared.views.Back.{Back}
use Rattle.def_dimensions.specs.Dimensions.{Dimension}
use Rattle.def_rewriting.specs.Compatible.{is_table_of}
use Rattle.def_rewriting.specs.Reaching.{Place, Walk, available, back_alone, back_common, is_declared, item_place, layout, mark_missing, missing, reach, stands_at, view_layout, walk, walk_alone, walk_common, walk_table, wanted}
use Rattle.law_lists.proofs.Each.{Each-both, Each-from_none, Each-map, Each-turn}
use Rattle.law_rewrite.specs.Words.{Each}
use Rattle.wh_base.specs.declared.views.Requirement.{Requirement}
use Rattle.wh_base.specs.declared.views.Requirement.TheVariants as requirement

-- what is available by the view alone stands in its layout
pub found_any : (p : Place → Bool) (places : List Place) → is_some (option_and_then (λ x. x.column) (find p places)) ≡ true → list_any p places ≡ true
found_any p [] h = cc
found_any p (x ∷ xs) h = by (p x) h (found_any p xs)
  where
    by : (b : Bool) → is_some (option_and_then (λ y. y.column) (cond b (Some x) (find p xs))) ≡ true → (is_some (option_and_then (λ y. y.column) (find p xs)) ≡ true → list_any p xs ≡ true) → (b || list_any p xs) ≡ true
    by true h k = refl
    by false h k = k h

pub available_stands : (q v : StarQuery) (c : ColRef) → available q v [] c ≡ true → list_any (stands_at c) (view_layout v) ≡ true
available_stands q v c h = found_any (stands_at c) (view_layout v) (ap (λ ps. is_some (option_and_then (λ p. p.column) (find (stands_at c) ps))) (sym (places (is_declared c.part))) ∙ h)
  where
    places : (b : Bool) → cond b (layout q v []) (view_layout v) ≡ view_layout v
    places true = append-nil (view_layout v)
    places false = refl

-- ---- the walk

abbrev pub Fine : Walk → Type 0
Fine w = (w.back ≡ []) × (w.fails_e3 ≡ false) × (w.fails_e6 ≡ false)

nil_left : {A : Type 0} (xs ys : List A) → xs ++ ys ≡ [] → xs ≡ []
nil_left [] ys h = refl
nil_left (x ∷ xs) ys h = cc

not_more : {A : Type 0} (xs : List A) (y : A) → xs ++ (y ∷ []) ≡ [] → ⊥
not_more [] y h = absurd (let e : is_empty (y ∷ []) ≡ true = ap is_empty h in cc)
not_more (x ∷ xs) y h = absurd (let e : is_empty (x ∷ (xs ++ (y ∷ []))) ≡ true = ap is_empty h in cc)

abbrev pub failed_by : Bool → Bool → Option Requirement
failed_by third sixth = cond third (Some requirement.E3) (where_true sixth requirement.E6)

module _ (defs : List TableDef) (dims : List Dimension) (level : Level) (q v : StarQuery) where
  -- a table of both, of which nothing is missing
  abbrev pub Whole : ℕ → Type 0
  Whole n = (is_table_of v n ≡ true) × (is_empty (missing q v [] n) ≡ true) × (mark_missing q v n ≡ false)

  -- a table that leaves the walk fine had nothing missing
  step_fine : (w : Walk) (n : ℕ) → Fine (walk_table defs dims level q v w n) → Fine w × (is_table_of v n ≡ true) × (is_empty (missing q v w.back n) ≡ true) × (mark_missing q v n ≡ false)
  step_fine w n h = by (is_table_of v n) (mark_missing q v n) (is_empty (missing q v w.back n)) (back_alone defs q v w.back n) (back_common defs dims level q v w.back n) refl refl refl h
    where
      by : (a m b : Bool) (x y : Option Back) → is_table_of v n ≡ a → mark_missing q v n ≡ m → is_empty (missing q v w.back n) ≡ b
          → Fine (cond a (walk_common m b w y) (walk_alone m w x)) → Fine w × (is_table_of v n ≡ true) × (is_empty (missing q v w.back n) ≡ true) × (mark_missing q v n ≡ false)
      by true true b x y e g f h = absurd (let k : true ≡ false = h.2 in cc)
      by true false true x y e g f h = (h, e, f, g)
      by true false false x None e g f h = absurd (let k : true ≡ false = h.2 in cc)
      by true false false x (Some b) e g f h = absurd (not_more w.back b h.0)
      by false m b None y e g f h = absurd (let k : true ≡ false = h.1 in cc)
      by false true b (Some z) y e g f h = absurd (let k : true ≡ false = h.2 in cc)
      by false false b (Some z) y e g f h = absurd (not_more w.back z h.0)

  walk_fine : (tables : List ℕ) (w : Walk) → Fine (fold (walk_table defs dims level q v) w tables) → Fine w × Each Whole tables
  walk_fine [] w h = (h, tt)
  walk_fine (n ∷ ns) w h =
      let rest : Fine (walk_table defs dims level q v w n) × Each Whole ns = walk_fine ns (walk_table defs dims level q v w n) h in
      let here : Fine w × (is_table_of v n ≡ true) × (is_empty (missing q v w.back n) ≡ true) × (mark_missing q v n ≡ false) = step_fine w n rest.0 in
      (here.0, ((here.1, ap (λ bs. is_empty (missing q v bs n)) (sym here.0.0) ∙ here.2, here.3), rest.1))

  -- nothing that is wanted of the query's tables is missing
  pub nothing_missing : Fine (walk defs dims level q v) → Each Whole q.tables
  nothing_missing h = (walk_fine q.tables (record { back = []; fails_e3 = false; fails_e6 = false }) h).1

  fine_of : reach defs dims level q v ≡ record { failed = None; back = [] } → Fine (walk defs dims level q v)
  fine_of e =
      let both : ((walk defs dims level q v).fails_e3 ≡ false) × ((walk defs dims level q v).fails_e6 ≡ false) = by (walk defs dims level q v).fails_e3 (walk defs dims level q v).fails_e6 (ap (λ r. r.failed) e) in
      (ap (λ r. r.back) e, both.0, both.1)
    where
      by : (a b : Bool) → failed_by a b ≡ None → (a ≡ false) × (b ≡ false)
      by true b h = cc
      by false true h = cc
      by false false h = (refl, refl)

-- ---- each wanted column

pub none_left : {A : Type 0} (p : A → Bool) (xs : List A) → is_empty (filter p xs) ≡ true → Each (λ x. p x ≡ false) xs
none_left p [] h = tt
none_left {A} p (x ∷ xs) h = by (p x) refl h (none_left p xs)
  where
    by : (b : Bool) → p x ≡ b → is_empty (cond b (x ∷ filter p xs) (filter p xs)) ≡ true → (is_empty (filter p xs) ≡ true → Each (λ y. p y ≡ false) xs) → (p x ≡ false) × Each (λ y. p y ≡ false) xs
    by true e h k = absurd (let f : true ≡ false = sym h in cc)
    by false e h k = (e, k h)

-- what each table of a list says of the things of that table
pub at_own : {A : Type 0} (P : A → Type 0) (x : A) (table : ℕ) (tables : List ℕ) → has_number tables table ≡ true → Each (λ n. table ≡ n → P x) tables → P x
at_own P x table [] h k = absurd (let e : false ≡ true = h in cc)
at_own P x table (n ∷ ns) h k = by (n == table) refl h (λ e. at_own P x table ns e k.1)
  where
    by : (b : Bool) → (n == table) ≡ b → (b || has_number ns table) ≡ true → (has_number ns table ≡ true → P x) → P x
    by true e h more = k.0 (sym ((Decides-eqb n table).0 e))
    by false e h more = more h

-- a column is linked to itself
itself_spread : (edges : List Edge) (columns : List ColRef) (c : ColRef) → has_column columns c ≡ true → has_column (spread edges columns) c ≡ true
itself_spread [] columns c h = h
itself_spread (e ∷ edges) columns c h =
    itself_spread edges (columns ++ other_end columns e) c (list_any-append (same_column c) columns (other_end columns e) ∙ ap (λ b. b || list_any (same_column c) (other_end columns e)) h)

pub itself_times : (n : ℕ) (edges : List Edge) (columns : List ColRef) (c : ColRef) → has_column columns c ≡ true → has_column (spread_times n edges columns) c ≡ true
itself_times zero edges columns c h = h
itself_times (suc n) edges columns c h = itself_times n edges (spread edges columns) c (itself_spread edges columns c h)

pub selected_stands : (v : StarQuery) (c : ColRef) (items : List Item) → list_any (λ i. same_item (item.Col c) i) items ≡ true → list_any (stands_at c) (map (item_place v) items) ≡ true
selected_stands v c [] h = cc
selected_stands v c (item.Col d ∷ items) h = by (same_column c d) refl h (selected_stands v c items)
  where
    by : (b : Bool) → same_column c d ≡ b → (b || list_any (λ i. same_item (item.Col c) i) items) ≡ true
        → (list_any (λ i. same_item (item.Col c) i) items ≡ true → list_any (stands_at c) (map (item_place v) items) ≡ true)
        → list_any (stands_at c) (map (item_place v) (item.Col d ∷ items)) ≡ true
    by true e h k =
        ap (λ b. b || list_any (stands_at c) (map (item_place v) items))
        (itself_times (length v.edges) v.edges (d ∷ []) c (ap (λ b. b || false) e))
    by false e h k = ap (λ b. has_column (equal_columns v.edges d) c || b) (k h) ∙ or-true (has_column (equal_columns v.edges d) c)
selected_stands v c (item.Agg a ∷ items) h = selected_stands v c items h

-- nothing is missing of a column, if it is of the table
abbrev Unmissed : StarQuery → StarQuery → ℕ → ColRef → Type 0
Unmissed q v n c = (((c.table == n) && (is_declared c.part && not (available q v [] c))) ≡ false) × (((c.table == n) && (not (is_declared c.part) && not (selects_column v c))) ≡ false)

-- **where nothing is joined back, all that is wanted stands in the view's layout**
pub wanted_stand : (defs : List TableDef) (dims : List Dimension) (level : Level) (q v : StarQuery) → reach defs dims level q v ≡ record { failed = None; back = [] }
    → Each (λ c. has_number q.tables c.table ≡ true) (wanted q v) → Each (λ c. list_any (stands_at c) (view_layout v) ≡ true) (wanted q v)
wanted_stand defs dims level q v e own =
    Each-map (λ c. (has_number q.tables c.table ≡ true) × Each (λ n. Unmissed q v n c) q.tables) (λ c. list_any (stands_at c) (view_layout v) ≡ true) one (wanted q v)
    (Each-both (λ c. has_number q.tables c.table ≡ true) (λ c. Each (λ n. Unmissed q v n c) q.tables) (wanted q v) own
    (Each-turn (λ n c. Unmissed q v n c) q.tables (wanted q v)
    (Each-map (Whole defs dims level q v) (λ n. Each (λ c. Unmissed q v n c) (wanted q v)) unmissed q.tables (nothing_missing defs dims level q v (fine_of defs dims level q v e)))))
  where
    unmissed : (n : ℕ) → Whole defs dims level q v n → Each (λ c. Unmissed q v n c) (wanted q v)
    unmissed n h =
        Each-both (λ c. ((c.table == n) && (is_declared c.part && not (available q v [] c))) ≡ false) (λ c. ((c.table == n) && (not (is_declared c.part) && not (selects_column v c))) ≡ false) (wanted q v)
        (none_left (λ c. (c.table == n) && (is_declared c.part && not (available q v [] c))) (wanted q v) h.1)
        (Each-from_none (λ c. (c.table == n) && (not (is_declared c.part) && not (selects_column v c))) (wanted q v) h.2)

    one : (c : ColRef) → (has_number q.tables c.table ≡ true) × Each (λ n. Unmissed q v n c) q.tables → list_any (stands_at c) (view_layout v) ≡ true
    one c h =
        at_own (λ x. list_any (stands_at x) (view_layout v) ≡ true) c c.table q.tables h.0
        (Each-map (λ n. Unmissed q v n c) (λ n. c.table ≡ n → list_any (stands_at c) (view_layout v) ≡ true)
        (λ n k g. let own : (c.table == n) ≡ true = (Decides-eqb c.table n).1 g in by (is_declared c.part) (available q v [] c) (selects_column v c) refl refl
        (sym (ap (λ b. b && (is_declared c.part && not (available q v [] c))) own) ∙ k.0) (sym (ap (λ b. b && (not (is_declared c.part) && not (selects_column v c))) own) ∙ k.1))
        q.tables h.1)
      where
        by : (d a s : Bool) → available q v [] c ≡ a → selects_column v c ≡ s → (d && not a) ≡ false → (not d && not s) ≡ false → list_any (stands_at c) (view_layout v) ≡ true
        by true true s f g h k = available_stands q v c f
        by true false s f g h k = cc
        by false a true f g h k = selected_stands v c v.items g
        by false a false f g h k = cc
