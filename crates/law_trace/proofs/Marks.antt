-- The partition of a key: the first whose upper bound is above the key. And rows by their keys.
use Rattle.std.proofs.Common.{◌≡◌, ◌∙◌, sym, ap, refl, ℕ, Bool, true, false, true≢false, cond, List, [], ◌∷◌, ◌++◌, map, Option, None, Some, ◌&&◌, ◌⊎◌, inl, inr}
use Rattle.std.specs.List.{filter, find}
use Rattle.std.specs.Ordering.{is_ge, is_lt}
use Rattle.std.specs.Prelude.{is_none, is_some, option_map}
use Rattle.std.specs.declared.cmp.Ordering.{Ordering}
use Rattle.std.specs.declared.cmp.Ordering.TheVariants.{Equal, Greater, Less}
use Rattle.std.proofs.lemmas.List.{append-nil}
use Rattle.std.proofs.lemmas.List.Elements.{filter-append}
use Rattle.wh_base.specs.Lists.{option_case}
use Rattle.wh_base.specs.Tables.{Row, Table, mark_of, part_of_key, row_at, value_at, with_intervals}
use Rattle.wh_base.specs.Values.{interval_has, value_cmp}
use Rattle.wh_base.specs.declared.tables.Part.{Part}
use Rattle.wh_base.specs.declared.tables.RowAt.{RowAt}
use Rattle.wh_base.specs.declared.values.Interval.{Interval}
use Rattle.wh_base.specs.declared.values.Value.{Value}
use Rattle.def_effect.specs.Block.{has_no_partition}
use Rattle.law_trace.proofs.Listed.{Each}
pub use Rattle.law_lists.proofs.Options.{find_more}

-- ---- bounds

abbrev pub is_over : Value → Option Value → Bool
is_over key lo = option_case lo true (λ lo. is_ge (value_cmp key lo))

abbrev pub is_below : Value → Part → Bool
is_below key p = option_case p.below true (λ hi. is_lt (value_cmp key hi))

-- the partition of a key
abbrev pub part_for : List Part → Value → Option Part
part_for parts key = find (is_below key) parts

pub over_next : (key : Value) (p : Part) → is_below key p ≡ false → is_over key p.below ≡ true
over_next key p e = by p.below e
  where
    after : (o : Ordering) → is_lt o ≡ false → is_ge o ≡ true
    after Less f = absurd (cc)
    after Equal f = refl
    after Greater f = refl

    by : (o : Option Value) → option_case o true (λ hi. is_lt (value_cmp key hi)) ≡ false → is_over key o ≡ true
    by None f = absurd (true≢false f)
    by (Some hi) f = after (value_cmp key hi) f

abbrev Has : Value → Part × Interval → Bool
Has key p = interval_has p.1 key

-- the first partition with the key in its interval is the first whose bound is above the key
pub first_below : (key : Value) (lo : Option Value) (parts : List Part) → is_over key lo ≡ true → option_map (λ p. p.0) (find (Has key) (with_intervals lo parts)) ≡ part_for parts key
first_below key lo [] over = refl
first_below key lo (p ∷ parts) over =
    ap (λ b. option_map (λ r. r.0) (cond (b && is_below key p) (Some (p, record { lo = lo; hi = p.below })) (find (Has key) (with_intervals p.below parts)))) over
    ∙ by (is_below key p) refl (first_below key p.below parts)
  where
    by : (b : Bool) → is_below key p ≡ b → (is_over key p.below ≡ true → option_map (λ r. r.0) (find (Has key) (with_intervals p.below parts)) ≡ part_for parts key)
        → option_map (λ r. r.0) (cond b (Some (p, record { lo = lo; hi = p.below })) (find (Has key) (with_intervals p.below parts))) ≡ cond b (Some p) (part_for parts key)
    by true e rest = refl
    by false e rest = rest (over_next key p e)

pub found_part : (t : Table) (key : Value) → option_map (λ p. p.0) (part_of_key t key) ≡ part_for t.parts key
found_part t key = first_below key None t.parts refl

-- the number of the partition of a key
abbrev pub number_for : List Part → Value → ℕ
number_for parts key = option_case (part_for parts key) 0 (λ p. p.number)

pub found_number : (t : Table) (key : Value) → option_case (part_of_key t key) 0 (λ p. p.0.number) ≡ number_for t.parts key
found_number t key = by (part_of_key t key) ∙ ap (λ (o : Option Part). option_case o 0 (λ p. p.number)) (found_part t key)
  where
    by : (o : Option (Part × Interval)) → option_case o 0 (λ p. p.0.number) ≡ option_case (option_map (λ p. p.0) o) 0 (λ p. p.number)
    by None = refl
    by (Some p) = refl

-- ---- more partitions, and fewer

find_fewer : {A : Type 0} (p keep : A → Bool) (xs : List A) (x : A) → find p xs ≡ Some x → keep x ≡ true → find p (filter keep xs) ≡ Some x
find_fewer p keep [] x e stays = absurd (cc)
find_fewer p keep (y ∷ xs) x e stays = by (p y) refl e (find_fewer p keep xs x)
  where
    here : (b : Bool) → p y ≡ b → (o : Bool) → find p (filter keep xs) ≡ Some x → b ≡ false → find p (cond o (y ∷ filter keep xs) (filter keep xs)) ≡ Some x
    here b e true rest none = ap (λ b. cond b (Some y) (find p (filter keep xs))) (e ∙ none) ∙ rest
    here b e false rest none = rest

    by : (b : Bool) → p y ≡ b → cond b (Some y) (find p xs) ≡ Some x → (find p xs ≡ Some x → keep x ≡ true → find p (filter keep xs) ≡ Some x)
        → find p (cond (keep y) (y ∷ filter keep xs) (filter keep xs)) ≡ Some x
    by true e f rest =
        let same : y ≡ x = cc in
        ap (λ b. find p (cond b (y ∷ filter keep xs) (filter keep xs))) (ap keep same ∙ stays) ∙ ap (λ b. cond b (Some y) (find p (filter keep xs))) e ∙ f
    by false e f rest = here false e (keep y) (rest f stays) refl

pub part_more : (parts more : List Part) (key : Value) (p : Part) → part_for parts key ≡ Some p → part_for (parts ++ more) key ≡ Some p
part_more parts more key p e = find_more (is_below key) parts more p e

pub part_fewer : (keep : Part → Bool) (parts : List Part) (key : Value) (p : Part) → part_for parts key ≡ Some p → keep p ≡ true → part_for (filter keep parts) key ≡ Some p
part_fewer keep parts key p e stays = find_fewer (is_below key) keep parts p e stays

-- ---- rows by their keys

-- the row as a tuple has it, in a table with this partition key and these partitions
abbrev pub marked : Option ℕ → List Part → Row → RowAt
marked key parts r = record { rowid = r.rowid; mark = option_case key 0 (λ k. number_for parts (value_at r.values k)); values = r.values }

-- the partition of a key, by its number, and the key are asked for
abbrev pub says : (ℕ → Value → Bool) → Value → Option Part → Bool
says out key o = option_case o false (λ p. out p.number key)

-- the row has a partition, and it and its key are among those asked for
abbrev pub stays : (ℕ → Value → Bool) → Option ℕ → List Part → List Value → Bool
stays out key parts vs = option_case key false (λ k. says out (value_at vs k) (part_for parts (value_at vs k)))

-- these rows as tuples have them
abbrev pub kept : (ℕ → Value → Bool) → Option ℕ → List Part → List Row → List RowAt
kept out key parts rows = map (marked key parts) (filter (λ r. stays out key parts r.values) rows)

abbrev pub kept_of : (ℕ → Value → Bool) → Table → List RowAt
kept_of out t = kept out t.def.part_key t.parts t.rows

mark_is : (t : Table) (vs : List Value) → mark_of t vs ≡ option_case t.def.part_key 0 (λ k. number_for t.parts (value_at vs k))
mark_is t vs = by t.def.part_key
  where
    by : (o : Option ℕ) → option_case (option_map (value_at vs) o) 0 (λ key. option_case (part_of_key t key) 0 (λ p. p.0.number)) ≡ option_case o 0 (λ k. number_for t.parts (value_at vs k))
    by None = refl
    by (Some k) = found_number t (value_at vs k)

pub row_marked : (t : Table) (r : Row) → row_at t r ≡ marked t.def.part_key t.parts r
row_marked t r = ap (λ (m : ℕ). record { rowid = r.rowid; mark = m; values = r.values }) (mark_is t r.values)

-- the mark of a row that has a partition
pub number_is : (t : Table) (vs : List Value) (k : ℕ) → t.def.part_key ≡ Some k → mark_of t vs ≡ number_for t.parts (value_at vs k)
number_is t vs k e = mark_is t vs ∙ ap (λ o. option_case o 0 (λ k. number_for t.parts (value_at vs k))) e

-- the row has a partition, where the table has any
abbrev pub IsPlaced : Option ℕ → List Part → Row → Type 0
IsPlaced key parts r = option_case key true (λ k. is_some (part_for parts (value_at r.values k))) ≡ true

pub placed_of : (t : Table) (r : Row) → has_no_partition t r.values ≡ false → IsPlaced t.def.part_key t.parts r
placed_of t r e = by t.def.part_key e
  where
    some : (o : Option (Part × Interval)) → is_none o ≡ false → is_some (option_map (λ p. p.0) o) ≡ true
    some None f = absurd (true≢false f)
    some (Some p) f = refl

    by : (o : Option ℕ) → option_case (option_map (value_at r.values) o) false (λ key. is_none (part_of_key t key)) ≡ false
        → option_case o true (λ k. is_some (part_for t.parts (value_at r.values k))) ≡ true
    by None f = refl
    by (Some k) f = ap is_some (sym (found_part t (value_at r.values k))) ∙ some (part_of_key t (value_at r.values k)) f

-- ---- the same rows are kept

-- by partitions that say the same of each row
pub kept_alike : (out : ℕ → Value → Bool) (key : Option ℕ) (parts others : List Part) (rows : List Row)
    → Each (λ r. (stays out key parts r.values ≡ stays out key others r.values) × (marked key parts r ≡ marked key others r)) rows → kept out key parts rows ≡ kept out key others rows
kept_alike out key parts others [] h = refl
kept_alike out key parts others (r ∷ rows) h =
    ap (λ b. map (marked key parts) (cond b (r ∷ filter (λ q. stays out key parts q.values) rows) (filter (λ q. stays out key parts q.values) rows))) h.0.0
    ∙ by (stays out key others r.values) (kept_alike out key parts others rows h.1)
  where
    by : (b : Bool) → kept out key parts rows ≡ kept out key others rows
        → map (marked key parts) (cond b (r ∷ filter (λ q. stays out key parts q.values) rows) (filter (λ q. stays out key parts q.values) rows))
        ≡ map (marked key others) (cond b (r ∷ filter (λ q. stays out key others q.values) rows) (filter (λ q. stays out key others q.values) rows))
    by true rest = λ i. h.0.1 i ∷ rest i
    by false rest = rest

module _ (out : ℕ → Value → Bool) (key : Option ℕ) (parts : List Part) where
  -- the row of these values isn't kept
  abbrev pub IsGone : List Value → Type 0
  IsGone vs = stays out key parts vs ≡ false

  abbrev keeps : Row → Bool
  keeps r = stays out key parts r.values

  -- without rows that aren't kept
  pub kept_fewer : (test : Row → Bool) (rows : List Row) → Each (λ r. test r ≡ false → IsGone r.values) rows → kept out key parts (filter test rows) ≡ kept out key parts rows
  kept_fewer test [] h = refl
  kept_fewer test (r ∷ rows) h = by (test r) refl (kept_fewer test rows h.1)
    where
      by : (b : Bool) → test r ≡ b → kept out key parts (filter test rows) ≡ kept out key parts rows → kept out key parts (cond b (r ∷ filter test rows) (filter test rows)) ≡ kept out key parts (r ∷ rows)
      by true e rest = also (keeps r)
        where
          also : (b : Bool) → map (marked key parts) (cond b (r ∷ filter keeps (filter test rows)) (filter keeps (filter test rows))) ≡ map (marked key parts) (cond b (r ∷ filter keeps rows) (filter keeps rows))
          also true = ap (λ rs. marked key parts r ∷ rs) rest
          also false = rest
      by false e rest = rest ∙ sym (ap (λ b. map (marked key parts) (cond b (r ∷ filter keeps rows) (filter keeps rows))) (h.0 e))

  -- with a row more that isn't kept
  pub kept_more : (rows : List Row) (r : Row) → IsGone r.values → kept out key parts (rows ++ r ∷ []) ≡ kept out key parts rows
  kept_more rows r gone =
      ap (map (marked key parts)) (filter-append keeps rows (r ∷ []) ∙ ap (λ b. filter keeps rows ++ cond b (r ∷ []) []) gone ∙ append-nil (filter keeps rows))

  -- a row that stays as it is, or that isn't kept before and after
  abbrev pub IsApart : (Row → Row) → Row → Type 0
  IsApart f r = (f r ≡ r) ⊎ (IsGone r.values × IsGone (f r).values)

  pub kept_changed : (f : Row → Row) (rows : List Row) → Each (IsApart f) rows → kept out key parts (map f rows) ≡ kept out key parts rows
  kept_changed f [] h = refl
  kept_changed f (r ∷ rows) h = by h.0 (kept_changed f rows h.1)
    where
      also : (b : Bool) → kept out key parts (map f rows) ≡ kept out key parts rows
          → map (marked key parts) (cond b (r ∷ filter keeps (map f rows)) (filter keeps (map f rows))) ≡ map (marked key parts) (cond b (r ∷ filter keeps rows) (filter keeps rows))
      also true rest = ap (λ rs. marked key parts r ∷ rs) rest
      also false rest = rest

      by : IsApart f r → kept out key parts (map f rows) ≡ kept out key parts rows → kept out key parts (f r ∷ map f rows) ≡ kept out key parts (r ∷ rows)
      by (inl same) rest = ap (λ q. kept out key parts (q ∷ map f rows)) same ∙ also (keeps r) rest
      by (inr gone) rest =
          ap (λ b. map (marked key parts) (cond b (f r ∷ filter keeps (map f rows)) (filter keeps (map f rows)))) gone.1
          ∙ rest
          ∙ sym (ap (λ b. map (marked key parts) (cond b (r ∷ filter keeps rows) (filter keeps rows))) gone.0)
