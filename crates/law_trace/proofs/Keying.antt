-- Keys hold: no two rows of a table have the same value in a key.
use Rattle.std.proofs.Common.{◌≡◌, ◌∙◌, sym, ap, refl, subst, ℕ, suc, ◌+◌, not, ◌++◌, true≢false, Bool, true, false, cond, List, [], ◌∷◌, map, None, Some}
use Rattle.std.proofs.lemmas.Bool.{or_from, or_parts}
use Rattle.std.specs.List.{enumerate_from, filter, list_any}
use Rattle.std.proofs.lemmas.List.{map-append}
use Rattle.std.proofs.lemmas.List.Elements.{filter-append}
use Rattle.wh_base.specs.declared.tables.Part.{Part}
use Rattle.wh_base.specs.declared.values.Interval.{Interval}
use Rattle.def_effect.specs.Partitions.{is_row_of, moved_rows, regrouped, with_movement}
use Rattle.wh_base.specs.Lists.{first_of, repeated, repeated_after}
use Rattle.wh_base.specs.Tables.{Row, Table, table_after, table_at, value_at}
use Rattle.wh_base.specs.Values.{same_value}
use Rattle.wh_base.proofs.Same.{same_value-Decides}
use Rattle.wh_base.specs.declared.statements.Event.{Event}
use Rattle.wh_base.specs.declared.values.Value.{Value}
use Rattle.def_effect.specs.Block.{Asks, Progress, column_values, key_refusal}
use Rattle.def_history.specs.Catalog.{base_now}
use Rattle.def_meaning.specs.Meaning.{not_null}
use Rattle.wh_base.specs.declared.statements.Statement.{Statement}
use Rattle.law_trace.proofs.Basing.{KeepsTable, Passes, each_table, made, made_of, none_each, none_first, none_map}
use Rattle.law_trace.proofs.Listed.{Each, Pairs, each_every, each_two, each_weaker, pairs_append}
use Rattle.law_trace.specs.Reached.{catalog_of}
use Rattle.law_trace.specs.Rows.{IsUnique}

-- ---- lists with fewer items

keep_each : {A : Type 0} (P : A → Type 0) (b : Bool) (y : A) (xs ys : List A) → (Each P xs → Each P ys) → Each P (cond b (y ∷ xs) xs) → Each P (cond b (y ∷ ys) ys)
keep_each P true y xs ys k h = (h.0, k h.1)
keep_each P false y xs ys k h = k h

skip_each : {A : Type 0} (P : A → Type 0) (b : Bool) (y : A) (xs ys : List A) → (Each P xs → Each P ys) → Each P (cond b (y ∷ xs) xs) → Each P ys
skip_each P true y xs ys k h = k h.1
skip_each P false y xs ys k h = k h

-- items made of rows, of which some are gone
pub thin_each : {A B : Type 0} (P : B → Type 0) (q : B → Bool) (f : A → B) (p : A → Bool) (xs : List A) → Each P (filter q (map f xs)) → Each P (filter q (map f (filter p xs)))
thin_each P q f p [] h = tt
thin_each P q f p (x ∷ xs) h = by (p x) (thin_each P q f p xs)
  where
    by : (b : Bool) → (Each P (filter q (map f xs)) → Each P (filter q (map f (filter p xs)))) → Each P (filter q (map f (cond b (x ∷ filter p xs) (filter p xs))))
    by true k = keep_each P (q (f x)) (f x) (filter q (map f xs)) (filter q (map f (filter p xs))) k h
    by false k = skip_each P (q (f x)) (f x) (filter q (map f xs)) (filter q (map f (filter p xs))) k h

keep_pairs : {A : Type 0} (R : A → A → Type 0) (b : Bool) (y : A) (xs ys : List A) → ((P : A → Type 0) → Each P xs → Each P ys) → (Pairs R xs → Pairs R ys)
    → Pairs R (cond b (y ∷ xs) xs) → Pairs R (cond b (y ∷ ys) ys)
keep_pairs R true y xs ys e k h = (e (R y) h.0, k h.1)
keep_pairs R false y xs ys e k h = k h

skip_pairs : {A : Type 0} (R : A → A → Type 0) (b : Bool) (y : A) (xs ys : List A) → (Pairs R xs → Pairs R ys) → Pairs R (cond b (y ∷ xs) xs) → Pairs R ys
skip_pairs R true y xs ys k h = k h.1
skip_pairs R false y xs ys k h = k h

pub thin_pairs : {A B : Type 0} (R : B → B → Type 0) (q : B → Bool) (f : A → B) (p : A → Bool) (xs : List A) → Pairs R (filter q (map f xs)) → Pairs R (filter q (map f (filter p xs)))
thin_pairs R q f p [] h = tt
thin_pairs R q f p (x ∷ xs) h = by (p x) (thin_pairs R q f p xs)
  where
    by : (b : Bool) → (Pairs R (filter q (map f xs)) → Pairs R (filter q (map f (filter p xs)))) → Pairs R (filter q (map f (cond b (x ∷ filter p xs) (filter p xs))))
    by true k = keep_pairs R (q (f x)) (f x) (filter q (map f xs)) (filter q (map f (filter p xs))) (λ P. thin_each P q f p xs) k h
    by false k = skip_pairs R (q (f x)) (f x) (filter q (map f xs)) (filter q (map f (filter p xs))) k h

-- ---- nothing repeats where each item differs from those before it

module _ {A : Type 0} (same : A → A → Bool) where
  -- the item differs from all that were seen
  abbrev IsUnseen : List A → A → Type 0
  IsUnseen seen x = list_any (same x) seen ≡ false

  abbrev pub IsApart : A → A → Type 0
  IsApart x y = same y x ≡ false

  pub repeated_apart : (seen xs : List A) → repeated_after same seen xs ≡ None → Each (IsUnseen seen) xs × Pairs IsApart xs
  repeated_apart seen [] e = (tt, tt)
  repeated_apart seen (x ∷ xs) e = by (list_any (same x) seen) refl e (repeated_apart (x ∷ seen) xs)
    where
      by : (b : Bool) → list_any (same x) seen ≡ b → cond b (Some x) (repeated_after same (x ∷ seen) xs) ≡ None
          → (repeated_after same (x ∷ seen) xs ≡ None → Each (IsUnseen (x ∷ seen)) xs × Pairs IsApart xs) → (IsUnseen seen x × Each (IsUnseen seen) xs) × (Each (IsApart x) xs × Pairs IsApart xs)
      by true is e later = absurd (cc)
      by false is e later =
          let h : Each (IsUnseen (x ∷ seen)) xs × Pairs IsApart xs = later e in (
            (is, each_weaker (IsUnseen (x ∷ seen)) (IsUnseen seen) (λ y k. (or_parts (same y x) (list_any (same y) seen) k).1) xs h.0),
            (each_weaker (IsUnseen (x ∷ seen)) (IsApart x) (λ y k. (or_parts (same y x) (list_any (same y) seen) k).0) xs h.0, h.1),
          )

  pub apart_repeated : (seen xs : List A) → Each (IsUnseen seen) xs → Pairs IsApart xs → repeated_after same seen xs ≡ None
  apart_repeated seen [] h k = refl
  apart_repeated seen (x ∷ xs) h k =
      ap (λ b. cond b (Some x) (repeated_after same (x ∷ seen) xs)) h.0
      ∙ apart_repeated (x ∷ seen) xs
      (each_weaker (λ y. IsApart x y × IsUnseen seen y) (IsUnseen (x ∷ seen)) (λ y both. or_from (same y x) (list_any (same y) seen) both.0 both.1) xs
      (each_two (IsApart x) (IsUnseen seen) xs k.0 h.1)) k.1

unseen_none : (vs : List Value) → Each (λ v. list_any (same_value v) [] ≡ false) vs
unseen_none vs = each_every (λ v. list_any (same_value v) [] ≡ false) (λ v. refl) vs

-- ---- the keys of a table

abbrev pub KeysHold : Table → Type 0
KeysHold t = Each (IsUnique t) t.def.keys

abbrev fewer : Table → (Row → Bool) → Table
fewer t p = record t { rows = filter p t.rows }

fewer_unique : (t : Table) (p : Row → Bool) (k : ℕ) → IsUnique t k → IsUnique (fewer t p) k
fewer_unique t p k h =
    apart_repeated same_value [] (column_values (fewer t p) k) (unseen_none (column_values (fewer t p) k))
    (thin_pairs (IsApart same_value) not_null (λ r. value_at r.values k) p t.rows (repeated_apart same_value [] (column_values t k) h).1)

-- ---- rows in another order

-- each item that was taken from among them differs from each that stayed
pub split_pairs : {A B : Type 0} (R : B → B → Type 0) → ((x y : B) → R x y → R y x) → (q : B → Bool) (f : A → B) (e : A → Bool) (xs : List A) → Pairs R (filter q (map f xs))
    → Each (λ a. Each (R a) (filter q (map f (filter e xs)))) (filter q (map f (filter (λ x. not (e x)) xs)))
split_pairs R turned q f e [] h = tt
split_pairs {A} {B} R turned q f e (x ∷ xs) h = by (e x) (q (f x)) refl refl h (split_pairs R turned q f e xs)
  where
    taken : List B
    taken = filter q (map f (filter e xs))

    stayed : List B
    stayed = filter q (map f (filter (λ x. not (e x)) xs))

    by : (b c : Bool) → e x ≡ b → q (f x) ≡ c → Pairs R (cond c (f x ∷ filter q (map f xs)) (filter q (map f xs))) → (Pairs R (filter q (map f xs)) → Each (λ a. Each (R a) taken) stayed)
        → Each (λ a. Each (R a) (filter q (map f (cond b (x ∷ filter e xs) (filter e xs))))) (filter q (map f (cond (not b) (x ∷ filter (λ x. not (e x)) xs) (filter (λ x. not (e x)) xs))))
    by true true is on k rest =
        subst (λ c. Each (λ a. Each (R a) (cond c (f x ∷ taken) taken)) stayed) (sym on)
        (each_weaker (λ a. R (f x) a × Each (R a) taken) (λ a. Each (R a) (f x ∷ taken)) (λ a both. (turned (f x) a both.0, both.1)) stayed
        (each_two (R (f x)) (λ a. Each (R a) taken) stayed (thin_each (R (f x)) q f (λ x. not (e x)) xs k.0) (rest k.1)))
    by true false is on k rest = subst (λ c. Each (λ a. Each (R a) (cond c (f x ∷ taken) taken)) stayed) (sym on) (rest k)
    by false true is on k rest = subst (λ c. Each (λ a. Each (R a) taken) (cond c (f x ∷ stayed) stayed)) (sym on) (thin_each (R (f x)) q f e xs k.0, rest k.1)
    by false false is on k rest = subst (λ c. Each (λ a. Each (R a) taken) (cond c (f x ∷ stayed) stayed)) (sym on) (rest k)

-- the values of rows with other rowids
moved_values : (c m : ℕ) (rs : List Row) → map (λ (r : Row). value_at r.values c) (map (λ p. record { rowid = p.0; values = p.1.values }) (enumerate_from m rs)) ≡ map (λ (r : Row). value_at r.values c) rs
moved_values c m [] = refl
moved_values c m (r ∷ rs) = ap (λ vs. value_at r.values c ∷ vs) (moved_values c (m + 1) rs)

-- the values of a column after a SPLIT or MERGE
pub regrouped_values : (t : Table) (before after : List (Part × Interval)) (c : ℕ) → let moves = is_row_of (map (λ p. p.0.number) before) t in
    column_values (regrouped t before after).table c ≡ filter not_null (map (λ (r : Row). value_at r.values c) (filter (λ r. not (moves r)) t.rows)) ++ filter not_null (map (λ (r : Row). value_at r.values c) (filter moves t.rows))
regrouped_values t before after c =
    let moves : Row → Bool = is_row_of (map (λ p. p.0.number) before) t in
    let value : Row → Value = λ r. value_at r.values c in
    let stay : List Row = filter (λ r. not (moves r)) t.rows in
    let moved : List Row = moved_rows t (map (λ p. p.0.number) before) in
    ap (filter not_null) (map-append value stay moved ∙ ap (λ vs. map value stay ++ vs) (moved_values c (suc t.given) (filter moves t.rows)))
    ∙ filter-append not_null (map value stay) (map value (filter moves t.rows))

same_turned : (x y : Value) → IsApart same_value x y → IsApart same_value y x
same_turned x y h = by (same_value x y) refl
  where
    by : (b : Bool) → same_value x y ≡ b → same_value x y ≡ false
    by true e = absurd (true≢false (sym ((same_value-Decides y x).1 (sym ((same_value-Decides x y).0 e))) ∙ h))
    by false e = e

regrouped_unique : (t : Table) (before after : List (Part × Interval)) (k : ℕ) → IsUnique t k → IsUnique (regrouped t before after).table k
regrouped_unique t before after k h =
    let moves : Row → Bool = is_row_of (map (λ p. p.0.number) before) t in
    let value : Row → Value = λ r. value_at r.values k in
    let stay : List Value = filter not_null (map value (filter (λ r. not (moves r)) t.rows)) in
    let moved : List Value = filter not_null (map value (filter moves t.rows)) in
    let apart : Pairs (IsApart same_value) (filter not_null (map value t.rows)) = (repeated_apart same_value [] (column_values t k) h).1 in
    let all : Pairs (IsApart same_value) (stay ++ moved) =
    pairs_append (IsApart same_value) stay moved (thin_pairs (IsApart same_value) not_null value (λ r. not (moves r)) t.rows apart) (thin_pairs (IsApart same_value) not_null value moves t.rows apart)
    (split_pairs (IsApart same_value) same_turned not_null value moves t.rows apart) in
    ap (repeated same_value) (regrouped_values t before after k) ∙ apart_repeated same_value [] (stay ++ moved) (unseen_none (stay ++ moved)) all

fewer_keys : (t : Table) (p : Row → Bool) → KeysHold t → KeysHold (fewer t p)
fewer_keys t p h = each_weaker (IsUnique t) (IsUnique (fewer t p)) (fewer_unique t p) t.def.keys h

abbrev NoneRefused : Table → Type 0
NoneRefused t = first_of (key_refusal t) t.def.keys ≡ None

keys_passed : (t : Table) → NoneRefused t → KeysHold t
keys_passed t none = each_weaker (λ k. key_refusal t k ≡ None) (IsUnique t) (λ k e. none_map _ (repeated same_value (column_values t k)) e) t.def.keys (none_each (key_refusal t) t.def.keys none)

keys_asked : (kept : ℕ) (p : Progress) (s : Statement) (a : Asks) → Passes kept p s a
    → table_at (made p.base a) a.table ≡ table_after (table_at p.base a.table) (made_of p.base a) → KeysHold (table_after (table_at p.base a.table) (made_of p.base a))
keys_asked kept p s a passes same =
    keys_passed (table_after (table_at p.base a.table) (made_of p.base a))
    (subst NoneRefused same (none_first (first_of (key_refusal (table_at (made p.base a) a.table)) (table_at (made p.base a) a.table).def.keys) _ passes.whole))

keep_keys : KeepsTable KeysHold
keep_keys =
    record {
      asked = λ kept p s a passes same h. keys_asked kept p s a passes same;
      created = λ taken defs t fits. each_every _ (λ k. refl) _;
      cut = record {
        adds = λ t r key none h. h;
        truncates = λ base n t p none h. fewer_keys t _ h;
        drops = λ base n t p none h. fewer_keys t _ h;
        regroups = λ kept t before after groups h. each_weaker (IsUnique t) (IsUnique (regrouped t before after).table) (λ k u. regrouped_unique t before after k u) t.def.keys h;
        moves = λ t on h. each_weaker (IsUnique t) (IsUnique (with_movement t on).table) (λ k u. u) t.def.keys h;
      };
    }

pub trace_keys : (trace : List Event) → Each KeysHold (base_now (catalog_of trace))
trace_keys trace = each_table KeysHold keep_keys trace
