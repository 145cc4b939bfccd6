-- The indexes of all tables after each call.
use Rattle.std.proofs.Common.{◌≡◌, ◌∙◌, ◌≤◌, ◌++◌, sym, ap, subst, refl, arith, List, [], ◌∷◌, Some, None, Option, Result, Ok, ℕ, zero, suc, length, map, slice_get, option_map, unwrap_or}
use Rattle.std.proofs.lemmas.Option.{none-some}
use Rattle.std.proofs.lemmas.List.{take-map}
use Rattle.std.specs.FinMap as fin
use Rattle.std.specs.List.{slice_set}
use Rattle.std.specs.Prelude.{take}
use Rattle.std.specs.Ordering.{nat_cmp}
use Rattle.wh_base.specs.Lists.{◌>>=◌}
use Rattle.wh_base.specs.Values.{value_cmp}
use Rattle.wh_base.specs.declared.tables.ForeignDef.{ForeignDef}
use Rattle.wh_base.specs.declared.values.Value.{Value}
use Rattle.wh_dml.specs.declared.changes.RowChange.{RowChange}
use Rattle.wh_keyindex.specs.Children.{places_with}
use Rattle.wh_keyindex.proofs.Numbered.{few_with}
use Rattle.wh_keys.specs.Coded.{Held, HeldIndexes}
use Rattle.wh_keys.specs.Indexes.{Indexes, Places}
use Rattle.wh_keys.specs.Made.{AnswersKeys, all_keys_changed, all_values_changed, foreign_at, foreign_made, indexes_at, key_at, keys_made, no_indexes, with_indexes, with_keys_of}
use Rattle.wh_keys.specs.Undoing.{Changing, all_before, all_now, kept, rolled_back}
use Rattle.wh_keys.proofs.Each.{before_kept, before_rolled_back, get_now, now_kept, now_rolled_back, past_end}

-- ---- one table more

module _ {M : Type 0} where
  now_pushed : (cs : List (Changing M)) (c : Changing M) → all_now (cs ++ c ∷ []) ≡ all_now cs ++ c.now ∷ []
  now_pushed [] c = refl
  now_pushed (b ∷ cs) c = ap (λ ms. b.now ∷ ms) (now_pushed cs c)

  before_pushed : (cs : List (Changing M)) (c : Changing M) → all_before (cs ++ c ∷ []) ≡ all_before cs ++ c.before ∷ []
  before_pushed [] c = refl
  before_pushed (b ∷ cs) c = ap (λ ms. b.before ∷ ms) (before_pushed cs c)

abbrev pub all_held : List HeldIndexes → Held
all_held ts = record { now = all_now ts; before = all_before ts }

pub held_pushed : (ts us : List HeldIndexes) (t : HeldIndexes) (i : Indexes) → us ≡ ts ++ t ∷ [] → t ≡ record { now = i; before = i }
    → all_held us ≡ record { now = all_now ts ++ i ∷ []; before = all_before ts ++ i ∷ [] }
held_pushed ts us t i pushed is =
    (λ k. all_held (pushed k))
    ∙ (λ k. record { now = now_pushed ts t k; before = before_pushed ts t k })
    ∙ (λ k. record { now = all_now ts ++ (is k).now ∷ []; before = all_before ts ++ (is k).before ∷ [] })

pub ruleset pushed = (held_pushed)

-- ---- the first tables alone

pub held_truncated : (ts us : List HeldIndexes) (n : ℕ) → us ≡ take n ts → all_held us ≡ record { now = take n (all_now ts); before = take n (all_before ts) }
held_truncated ts us n are =
    (λ k. all_held (are k))
    ∙ (λ k. record { now = sym (take-map (λ (c : HeldIndexes). c.now) n ts) k; before = sym (take-map (λ (c : HeldIndexes). c.before) n ts) k })

pub ruleset truncated = (held_truncated)

-- ---- the end of a block

pub held_rolled_back : (ts us : List HeldIndexes) → us ≡ map rolled_back ts → all_held us ≡ rolled_back (all_held ts)
held_rolled_back ts us are = (λ i. all_held (are i)) ∙ (λ i. record { now = now_rolled_back ts i; before = before_rolled_back ts i })

pub held_kept : (ts us : List HeldIndexes) → us ≡ map kept ts → all_held us ≡ kept (all_held ts)
held_kept ts us are = (λ i. all_held (are i)) ∙ (λ i. record { now = now_kept ts i; before = before_kept ts i })

-- ---- one table

pub indexes_there : (ts : List HeldIndexes) (n : ℕ) (t : HeldIndexes) → slice_get ts n ≡ Some t → indexes_at (all_now ts) n ≡ t.now
indexes_there ts n t there = ap (λ o. unwrap_or o no_indexes) (get_now ts n ∙ ap (option_map (λ (c : HeldIndexes). c.now)) there)

set_indexes : (ts : List HeldIndexes) (n : ℕ) (t u : HeldIndexes) → slice_get ts n ≡ Some t → all_now (slice_set ts n u) ≡ with_indexes n u.now (all_now ts)
set_indexes [] n t u there = absurd (none-some t there)
set_indexes (s ∷ ts) zero t u there = refl
set_indexes (s ∷ ts) (suc n) t u there = ap (λ is. s.now ∷ is) (set_indexes ts n t u there)

answer : (made : Result (List Places) ℕ) (clash : Option ℕ) (n : ℕ) (all : List Indexes) (i : Indexes) → AnswersKeys made clash i.keys → (indexes_at all n).foreign ≡ i.foreign
    → AnswersKeys (made >>= (λ ms. Ok (with_keys_of n all ms))) clash (with_indexes n i all)
answer made None n all i h others =
    ap (λ r. r >>= (λ ms. Ok (with_keys_of n all ms))) h ∙ (λ k. Ok (with_indexes n (record { keys = i.keys; foreign = others k }) all))
answer made (Some column) n all i h others = ap (λ r. r >>= (λ ms. Ok (with_keys_of n all ms))) h

pub keys_answer : (columns : List ℕ) (cs : List RowChange) (ts : List HeldIndexes) (n : ℕ) (t u : HeldIndexes) (clash : Option ℕ) → slice_get ts n ≡ Some t → u.now.foreign ≡ t.now.foreign
    → AnswersKeys (all_keys_changed columns cs t.now.keys) clash u.now.keys → AnswersKeys (keys_made n columns cs (all_now ts)) clash (all_now (slice_set ts n u))
keys_answer columns cs ts n t u clash there others h =
    let is = indexes_there ts n t there in
    subst (λ all. AnswersKeys (keys_made n columns cs (all_now ts)) clash all) (sym (set_indexes ts n t u there))
    (answer (all_keys_changed columns cs (indexes_at (all_now ts) n).keys) clash n (all_now ts) u.now
    (subst (λ (i : Indexes). AnswersKeys (all_keys_changed columns cs i.keys) clash u.now.keys) (sym is) h)
    (ap (λ (i : Indexes). i.foreign) is ∙ sym others))

pub foreign_answer : (fs : List ForeignDef) (cs : List RowChange) (ts : List HeldIndexes) (n : ℕ) (t u : HeldIndexes) → slice_get ts n ≡ Some t → u.now.keys ≡ t.now.keys
    → u.now.foreign ≡ all_values_changed fs cs t.now.foreign → all_now (slice_set ts n u) ≡ foreign_made n fs cs (all_now ts)
foreign_answer fs cs ts n t u there others h =
    let is = sym (indexes_there ts n t there) in
    set_indexes ts n t u there
    ∙ (λ k. with_indexes n (record { keys = (others ∙ ap (λ (i : Indexes). i.keys) is) k; foreign = (h ∙ ap (λ (i : Indexes). all_values_changed fs cs i.foreign) is) k }) (all_now ts))

-- ---- one index asked

pub found_in : (ts : List HeldIndexes) (n key : ℕ) (value : Value) (t : HeldIndexes) → Some t ≡ slice_get ts n
    → fin.get (key_at t.now.keys key) value ≡ fin.get (key_at (indexes_at (all_now ts) n).keys key) value
found_in ts n key value t there = ap (λ (i : Indexes). fin.get (key_at i.keys key) value) (sym (indexes_there ts n t (sym there)))

pub counted_in : (ts : List HeldIndexes) (n foreign : ℕ) (value : Value) (t : HeldIndexes) → Some t ≡ slice_get ts n
    → places_with value (foreign_at t.now.foreign foreign) ≡ places_with value (foreign_at (indexes_at (all_now ts) n).foreign foreign)
counted_in ts n foreign value t there = ap (λ (i : Indexes). places_with value (foreign_at i.foreign foreign)) (sym (indexes_there ts n t (sym there)))

none_there : (ts given : List HeldIndexes) (n : ℕ) → given ≡ ts → length given ≤ n → indexes_at (all_now ts) n ≡ no_indexes
none_there ts given n are past = ap (λ o. unwrap_or o no_indexes) (get_now ts n ∙ ap (option_map (λ (c : HeldIndexes). c.now)) (past_end ts given n are past))

pub no_table_key : (ts given : List HeldIndexes) (n key : ℕ) (value : Value) → given ≡ ts → length given ≤ n → None ≡ fin.get (key_at (indexes_at (all_now ts) n).keys key) value
no_table_key ts given n key value are past = sym (ap (λ (i : Indexes). fin.get (key_at i.keys key) value) (none_there ts given n are past) ∙ fin.get-empty value_cmp value)

pub no_table_foreign : (ts given : List HeldIndexes) (n foreign : ℕ) (value : Value) → given ≡ ts → length given ≤ n → 0 ≡ places_with value (foreign_at (indexes_at (all_now ts) n).foreign foreign)
no_table_foreign ts given n foreign value are past =
    let no_places : places_with value fin.empty ≡ 0 = omega (arith, few_with value fin.empty, fin.len-empty nat_cmp Value) in
    sym (ap (λ (i : Indexes). places_with value (foreign_at i.foreign foreign)) (none_there ts given n are past) ∙ no_places)

pub ruleset found = (found_in, counted_in)
