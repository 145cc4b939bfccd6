-- ALTER TABLE leaves the rows of a table whose keys aren't in the partition that it touches.
use Rattle.std.proofs.Common.{◌||◌, ◌≡◌, ◌∙◌, sym, ap, refl, subst, ℕ, suc, ◌+◌, Bool, true, false, true≢false, cond, not, List, [], ◌∷◌, ◌++◌, map, Option, None, Some, ◌==◌}
use Rattle.law_lists.proofs.Options.{find_passes}
use Rattle.law_lists.proofs.Each.{Each-passes}
use Rattle.std.proofs.lemmas.Option.{same_Some}
use Rattle.std.specs.List.{enumerate_from, filter, find}
use Rattle.std.specs.Prelude.{Ok, is_some, option_map}
use Rattle.std.proofs.lemmas.Bool.{eq-eqb, eqb-true, false_from_ne_true, not-false, or_parts}
use Rattle.std.proofs.lemmas.List.{append-nil, append_assoc}
use Rattle.wh_base.specs.Lists.{has_number, option_case, same_text}
use Rattle.wh_base.specs.Tables.{Base, Row, Table, mark_of, part_intervals, part_of_key, value_at, with_intervals}
use Rattle.wh_base.specs.Values.{interval_has}
use Rattle.wh_base.specs.declared.statements.NewRange.{NewRange}
use Rattle.wh_base.specs.declared.statements.PartChange.{PartChange}
use Rattle.wh_base.specs.declared.tables.Part.{Part}
use Rattle.wh_base.specs.declared.values.Interval.{Interval}
use Rattle.wh_base.specs.declared.values.Value.{Value}
use Rattle.def_effect.specs.Partitions.{Altering, added, added_part, alter_part, dropped, is_ended, is_row_of, moved_rows, part_named, replaced, truncated, without_rows}
use Rattle.law_trace.proofs.Basing.{ByAdd, ByDrop, ByMovement, ByRegroup, ByTruncate, CutBy, cut_by}
use Rattle.law_trace.proofs.Bordering.{AreNumbered, IsOther, PartsRight, spans_of}
use Rattle.law_trace.proofs.Regrouping.{Spans, any_below, numbers, top_of}
use Rattle.law_trace.proofs.Fitting.{AllFit}
use Rattle.law_trace.proofs.Listed.{Each, Pairs, each_filter, each_found, each_left, each_right, each_two, each_weaker}
use Rattle.law_trace.specs.Rows.{Fits}
use Rattle.law_trace.proofs.Blocks.{IsOutside}
use Rattle.law_trace.proofs.Marks.{IsGone, IsPlaced, first_below, found_part, is_below, is_over, kept, kept_alike, kept_fewer, kept_more, kept_of, over_next, marked, number_is, part_fewer, part_for, part_more, placed_of, says, stays}

-- ---- two of one number are one

one_of : {A : Type 0} (num : A → ℕ) (p r : A → Bool) (xs : List A) (x y : A) → Pairs (λ a b. (num a == num b) ≡ false) xs → find p xs ≡ Some x → find r xs ≡ Some y → num x ≡ num y → x ≡ y
one_of num p r [] x y h e f same = absurd (cc)
one_of {A} num p r (z ∷ xs) x y h e f same = by (p z) (r z) e f (one_of num p r xs x y h.1)
  where
    by : (b c : Bool) → cond b (Some z) (find p xs) ≡ Some x → cond c (Some z) (find r xs) ≡ Some y → (find p xs ≡ Some x → find r xs ≡ Some y → num x ≡ num y → x ≡ y) → x ≡ y
    by true true g k rest = sym (same_Some z x g) ∙ same_Some z y k
    by true false g k rest =
        let first : num z ≡ num x = ap num (same_Some z x g) in
        let other : (num z == num y) ≡ false = each_found (λ a. (num z == num a) ≡ false) r xs y h.0 k in
        absurd (true≢false (sym (eq-eqb (num z) (num y) (first ∙ same)) ∙ other))
    by false true g k rest =
        let first : num z ≡ num y = ap num (same_Some z y k) in
        let other : (num z == num x) ≡ false = each_found (λ a. (num z == num a) ≡ false) p xs x h.0 g in
        absurd (true≢false (sym (eq-eqb (num z) (num x) (first ∙ sym same)) ∙ other))
    by false false g k rest = rest g k same

intervals_each : (P : Part → Type 0) (lo : Option Value) (ps : List Part) → Each P ps → Each (λ (p : Part × Interval). P p.0) (with_intervals lo ps)
intervals_each P lo [] h = tt
intervals_each P lo (p ∷ ps) h = (h.0, intervals_each P p.below ps h.1)

pub intervals_rise : (lo : Option Value) (ps : List Part) → Pairs IsOther ps → Pairs (λ (p q : Part × Interval). (p.0.number == q.0.number) ≡ false) (with_intervals lo ps)
intervals_rise lo [] h = tt
intervals_rise lo (p ∷ ps) h = (intervals_each (IsOther p) p.below ps h.0, intervals_rise p.below ps h.1)

-- ---- rows of the partition that is cut

-- a row with the number of a partition, outside of its interval, isn't kept
cut_gone : (out : ℕ → Value → Bool) (t : Table) (name : List ℕ) (p : Part × Interval) (vs : List Value) → AreNumbered t → part_named t name ≡ Some p → IsOutside out p.0.number p.1
    → mark_of t vs ≡ p.0.number → IsGone out t.def.part_key t.parts vs
cut_gone out t name p vs numbered named outside mark = by t.def.part_key refl
  where
    no_key : (k : ℕ) → t.def.part_key ≡ Some k → (q : Part × Interval) → part_of_key t (value_at vs k) ≡ Some q → out q.0.number (value_at vs k) ≡ true → ⊥
    no_key k is q found e =
        let number : mark_of t vs ≡ q.0.number =
        number_is t vs k is ∙ ap (λ (o : Option Part). option_case o 0 (λ r. r.number)) (sym (found_part t (value_at vs k)) ∙ ap (λ (o : Option (Part × Interval)). option_map (λ r. r.0) o) found) in
        let same : q ≡ p =
        one_of (λ (r : Part × Interval). r.0.number) (λ r. interval_has r.1 (value_at vs k)) (λ r. same_text r.0.name name) (part_intervals t) q p
        (intervals_rise None t.parts numbered.0) found named (sym number ∙ mark) in
        let has : interval_has p.1 (value_at vs k) ≡ true = subst (λ (r : Part × Interval). interval_has r.1 (value_at vs k) ≡ true) same (find_passes (λ r. interval_has r.1 (value_at vs k)) (part_intervals t) q found) in
        true≢false (sym has ∙ outside (value_at vs k) (subst (λ (r : Part × Interval). out r.0.number (value_at vs k) ≡ true) same e))

    by_part : (k : ℕ) → t.def.part_key ≡ Some k → (o : Option (Part × Interval)) → part_of_key t (value_at vs k) ≡ o → says out (value_at vs k) (option_map (λ r. r.0) o) ≡ false
    by_part k is None found = refl
    by_part k is (Some q) found = false_from_ne_true (out q.0.number (value_at vs k)) (no_key k is q found)

    by : (o : Option ℕ) → t.def.part_key ≡ o → option_case o false (λ k. says out (value_at vs k) (part_for t.parts (value_at vs k))) ≡ false
    by None is = refl
    by (Some k) is = ap (says out (value_at vs k)) (sym (found_part t (value_at vs k))) ∙ by_part k is (part_of_key t (value_at vs k)) refl

fewer_kept : (out : ℕ → Value → Bool) (t : Table) (name : List ℕ) (p : Part × Interval) → AreNumbered t → part_named t name ≡ Some p → IsOutside out p.0.number p.1
    → kept out t.def.part_key t.parts (without_rows t p.0) ≡ kept_of out t
fewer_kept out t name p numbered named outside =
    kept_fewer out t.def.part_key t.parts (λ r. not (mark_of t r.values == p.0.number)) t.rows (all t.rows)
  where
    all : (rows : List Row) → Each (λ r. not (mark_of t r.values == p.0.number) ≡ false → IsGone out t.def.part_key t.parts r.values) rows
    all [] = tt
    all (r ∷ rows) = (
      λ e. cut_gone out t name p r.values numbered named outside (eqb-true (mark_of t r.values) p.0.number (not-false (mark_of t r.values == p.0.number) e)),
      all rows,
    )

-- ---- a row by the partitions before and after

abbrev IsAlike : (ℕ → Value → Bool) → Option ℕ → List Part → List Part → Row → Type 0
IsAlike out key parts others r = (stays out key parts r.values ≡ stays out key others r.values) × (marked key parts r ≡ marked key others r)

-- where the partition of its key stays
alike : (out : ℕ → Value → Bool) (key : Option ℕ) (parts others : List Part) (r : Row) → ((k : ℕ) → key ≡ Some k → part_for parts (value_at r.values k) ≡ part_for others (value_at r.values k)) → IsAlike out key parts others r
alike out key parts others r h = by key h
  where
    by : (o : Option ℕ) → ((k : ℕ) → o ≡ Some k → part_for parts (value_at r.values k) ≡ part_for others (value_at r.values k)) → IsAlike out o parts others r
    by None same = (refl, refl)
    by (Some k) same = (
      ap (says out (value_at r.values k)) (same k refl),
      ap (λ (q : Option Part). record { rowid = r.rowid; mark = option_case q 0 (λ p. p.number); values = r.values }) (same k refl),
    )

-- the partition of a placed row
placed_part : (key : Option ℕ) (parts : List Part) (r : Row) (k : ℕ) → key ≡ Some k → IsPlaced key parts r → (p : Part) × (part_for parts (value_at r.values k) ≡ Some p)
placed_part key parts r k is placed = by (part_for parts (value_at r.values k)) (sym (ap (λ o. option_case o true (λ k. is_some (part_for parts (value_at r.values k)))) is) ∙ placed)
  where
    by : (o : Option Part) → is_some o ≡ true → (p : Part) × (o ≡ Some p)
    by None e = absurd (true≢false (sym e))
    by (Some p) e = (p, refl)

alike_added : (out : ℕ → Value → Bool) (key : Option ℕ) (parts more : List Part) (r : Row) → IsPlaced key parts r → IsAlike out key parts (parts ++ more) r
alike_added out key parts more r placed =
    alike out key parts (parts ++ more) r
    (λ k is. let p = placed_part key parts r k is placed in p.1 ∙ sym (part_more parts more (value_at r.values k) p.0 p.1))

-- of another number than the partition that goes
alike_dropped : (out : ℕ → Value → Bool) (t : Table) (n : ℕ) (r : Row) → IsPlaced t.def.part_key t.parts r → not (mark_of t r.values == n) ≡ true
    → IsAlike out t.def.part_key (filter (λ q. not (q.number == n)) t.parts) t.parts r
alike_dropped out t n r placed other =
    alike out t.def.part_key (filter (λ q. not (q.number == n)) t.parts) t.parts r
    (λ k is.
    let p = placed_part t.def.part_key t.parts r k is placed in
    let number : mark_of t r.values ≡ p.0.number = number_is t r.values k is ∙ ap (λ (o : Option Part). option_case o 0 (λ q. q.number)) p.1 in
    let apart : not (p.0.number == n) ≡ true = ap (λ m. not (m == n)) (sym number) ∙ other in
    part_fewer (λ q. not (q.number == n)) t.parts (value_at r.values k) p.0 p.1 apart ∙ sym p.1)

all_placed : (t : Table) → AllFit t → Each (IsPlaced t.def.part_key t.parts) t.rows
all_placed t fits = each_weaker (λ r. Fits t r.values) (IsPlaced t.def.part_key t.parts) (λ r h. placed_of t r h.placed) t.rows fits

-- ---- SPLIT and MERGE

part_front : (front rest : List Part) (key : Value) → any_below key front ≡ true → part_for (front ++ rest) key ≡ part_for front key
part_front [] rest key e = absurd (true≢false (sym e))
part_front (p ∷ front) rest key e = by (is_below key p) e (part_front front rest key)
  where
    by : (b : Bool) → (b || any_below key front) ≡ true → (any_below key front ≡ true → part_for (front ++ rest) key ≡ part_for front key) → cond b (Some p) (part_for (front ++ rest) key) ≡ cond b (Some p) (part_for front key)
    by true f later = refl
    by false f later = later f

part_behind : (front rest : List Part) (key : Value) → any_below key front ≡ false → part_for (front ++ rest) key ≡ part_for rest key
part_behind [] rest key e = refl
part_behind (p ∷ front) rest key e = by (is_below key p) e (part_behind front rest key)
  where
    by : (b : Bool) → (b || any_below key front) ≡ false → (any_below key front ≡ false → part_for (front ++ rest) key ≡ part_for rest key) → cond b (Some p) (part_for (front ++ rest) key) ≡ part_for rest key
    by true f later = absurd (true≢false f)
    by false f later = later f

-- below none of these the key is over the last bound
over_top : (lo : Option Value) (front : List Part) (key : Value) → is_over key lo ≡ true → any_below key front ≡ false → is_over key (top_of lo front) ≡ true
over_top lo [] key over e = over
over_top lo (p ∷ front) key over e = over_top p.below front key (over_next key p (or_parts (is_below key p) (any_below key front) e).0) (or_parts (is_below key p) (any_below key front) e).1

-- a key of one of these partitions, of which none holds what is asked for, isn't asked for
none_said : (out : ℕ → Value → Bool) (lo : Option Value) (ps : List Part) (key : Value) → is_over key lo ≡ true → Each (λ p. IsOutside out p.0.number p.1) (with_intervals lo ps) → says out key (part_for ps key) ≡ false
none_said out lo ps key over outside = ap (says out key) (sym (first_below key lo ps over)) ∙ by (find (λ (p : Part × Interval). interval_has p.1 key) (with_intervals lo ps)) refl
  where
    by : (o : Option (Part × Interval)) → find (λ (p : Part × Interval). interval_has p.1 key) (with_intervals lo ps) ≡ o → says out key (option_map (λ p. p.0) o) ≡ false
    by None is = refl
    by (Some p) is =
        false_from_ne_true (out p.0.number key)
        (λ e. true≢false (sym (find_passes (λ (p : Part × Interval). interval_has p.1 key) (with_intervals lo ps) p is) ∙ each_found (λ p. IsOutside out p.0.number p.1) (λ (p : Part × Interval). interval_has p.1 key) (with_intervals lo ps) p outside is key e))

-- which of the three the key stands in
data Where (front mid : List Part) (key : Value) : Type 0 where
  InFront : any_below key front ≡ true → Where front mid key
  InMid : any_below key front ≡ false → any_below key mid ≡ true → Where front mid key
  InBack : any_below key front ≡ false → any_below key mid ≡ false → Where front mid key

where_is : (front mid : List Part) (key : Value) → Where front mid key
where_is front mid key = by (any_below key front) (any_below key mid) refl refl
  where
    by : (a b : Bool) → any_below key front ≡ a → any_below key mid ≡ b → Where front mid key
    by true b e f = InFront e
    by false true e f = InMid e f
    by false false e f = InBack e f

part_is : (ended : List ℕ) (b : Bool) (ps : List Part) (key : Value) (p : Part) → Each (λ q. is_ended ended q ≡ b) ps → part_for ps key ≡ Some p → is_ended ended p ≡ b
part_is ended b ps key p each found = each_found (λ q. is_ended ended q ≡ b) (is_below key) ps p each found

module _ (out : ℕ → Value → Bool) (t : Table) (before after : List (Part × Interval)) (sp : Spans t.parts before after) (fits : AllFit t)
    (free : Each (λ p. IsOutside out p.0.number p.1) (before ++ after)) where
  abbrev ended : List ℕ
  ended = map (λ p. p.0.number) before

  abbrev new_parts : List Part
  new_parts = sp.front ++ (sp.news ++ sp.back)

  ended_as : (p : Part) (b : Bool) → is_ended (numbers sp.mid) p ≡ b → is_ended ended p ≡ b
  ended_as p b e = ap (λ ns. is_ended ns p) sp.ended ∙ e

  free_mid : Each (λ p. IsOutside out p.0.number p.1) (with_intervals (top_of None sp.front) sp.mid)
  free_mid = subst (Each (λ p. IsOutside out p.0.number p.1)) (sym sp.was) (each_left (λ p. IsOutside out p.0.number p.1) before after free)

  free_news : Each (λ p. IsOutside out p.0.number p.1) (with_intervals (top_of None sp.front) sp.news)
  free_news = subst (Each (λ p. IsOutside out p.0.number p.1)) (sym sp.will) (each_right (λ p. IsOutside out p.0.number p.1) before after free)

  -- the partition of a key, by where it stands
  old_mid : (key : Value) → any_below key sp.front ≡ false → any_below key sp.mid ≡ true → part_for t.parts key ≡ part_for sp.mid key
  old_mid key e f = ap (λ ps. part_for ps key) sp.is ∙ part_behind sp.front (sp.mid ++ sp.back) key e ∙ part_front sp.mid sp.back key f

  new_mid : (key : Value) → any_below key sp.front ≡ false → any_below key sp.mid ≡ true → part_for new_parts key ≡ part_for sp.news key
  new_mid key e f = part_behind sp.front (sp.news ++ sp.back) key e ∙ part_front sp.news sp.back key (sym (sp.covers key) ∙ f)

  old_front : (key : Value) → any_below key sp.front ≡ true → part_for t.parts key ≡ part_for sp.front key
  old_front key e = ap (λ ps. part_for ps key) sp.is ∙ part_front sp.front (sp.mid ++ sp.back) key e

  old_back : (key : Value) → any_below key sp.front ≡ false → any_below key sp.mid ≡ false → part_for t.parts key ≡ part_for sp.back key
  old_back key e f = ap (λ ps. part_for ps key) sp.is ∙ part_behind sp.front (sp.mid ++ sp.back) key e ∙ part_behind sp.mid sp.back key f

  -- a key of a partition that stays has it afterwards
  stays_same : (key : Value) (p : Part) → part_for t.parts key ≡ Some p → is_ended ended p ≡ false → part_for new_parts key ≡ part_for t.parts key
  stays_same key p found stays = by (where_is sp.front sp.mid key)
    where
      by : Where sp.front sp.mid key → part_for new_parts key ≡ part_for t.parts key
      by (InFront e) = part_front sp.front (sp.news ++ sp.back) key e ∙ sym (old_front key e)
      by (InMid e f) = absurd (true≢false (sym (ended_as p true (part_is (numbers sp.mid) true sp.mid key p sp.mid_ends (sym (old_mid key e f) ∙ found))) ∙ stays))
      by (InBack e f) = part_behind sp.front (sp.news ++ sp.back) key e ∙ part_behind sp.news sp.back key (sym (sp.covers key) ∙ f) ∙ sym (old_back key e f)

  -- one of a partition that ends is asked for neither before nor afterwards
  ends_gone : (key : Value) (p : Part) → part_for t.parts key ≡ Some p → is_ended ended p ≡ true → (says out key (part_for t.parts key) ≡ false) × (says out key (part_for new_parts key) ≡ false)
  ends_gone key p found ends = by (where_is sp.front sp.mid key)
    where
      by : Where sp.front sp.mid key → (says out key (part_for t.parts key) ≡ false) × (says out key (part_for new_parts key) ≡ false)
      by (InFront e) = absurd (true≢false (sym ends ∙ ended_as p false (part_is (numbers sp.mid) false sp.front key p sp.front_stays (sym (old_front key e) ∙ found))))
      by (InMid e f) = (
        ap (says out key) (old_mid key e f) ∙ none_said out (top_of None sp.front) sp.mid key (over_top None sp.front key refl e) free_mid,
        ap (says out key) (new_mid key e f) ∙ none_said out (top_of None sp.front) sp.news key (over_top None sp.front key refl e) free_news,
      )
      by (InBack e f) = absurd (true≢false (sym ends ∙ ended_as p false (part_is (numbers sp.mid) false sp.back key p sp.back_stays (sym (old_back key e f) ∙ found))))

  row_ends : (vs : List Value) (k : ℕ) (p : Part) → t.def.part_key ≡ Some k → part_for t.parts (value_at vs k) ≡ Some p → has_number ended (mark_of t vs) ≡ is_ended ended p
  row_ends vs k p is found = ap (has_number ended) (number_is t vs k is ∙ ap (λ (o : Option Part). option_case o 0 (λ q. q.number)) found)

  row_stays : (r : Row) → IsPlaced t.def.part_key t.parts r → not (is_row_of ended t r) ≡ true → IsAlike out t.def.part_key new_parts t.parts r
  row_stays r placed stays =
      alike out t.def.part_key new_parts t.parts r
      (λ k is.
      let p = placed_part t.def.part_key t.parts r k is placed in
      stays_same (value_at r.values k) p.0 p.1 (sym (row_ends r.values k p.0 is p.1) ∙ was_not (is_row_of ended t r) stays))
    where
      was_not : (b : Bool) → not b ≡ true → b ≡ false
      was_not true e = absurd (true≢false (sym e))
      was_not false e = refl

  row_goes : (r : Row) → IsPlaced t.def.part_key t.parts r → is_row_of ended t r ≡ true → IsGone out t.def.part_key t.parts r.values × IsGone out t.def.part_key new_parts r.values
  row_goes r placed ends = by t.def.part_key refl
    where
      by : (o : Option ℕ) → t.def.part_key ≡ o → (option_case o false (λ k. says out (value_at r.values k) (part_for t.parts (value_at r.values k))) ≡ false) × (option_case o false (λ k. says out (value_at r.values k) (part_for new_parts (value_at r.values k))) ≡ false)
      by None is = (refl, refl)
      by (Some k) is = let p = placed_part t.def.part_key t.parts r k is placed in ends_gone (value_at r.values k) p.0 p.1 (sym (row_ends r.values k p.0 is p.1) ∙ ends)

  pub regroup_same : kept out t.def.part_key (replaced ended (map (λ p. p.0) after) t.parts) (filter (λ r. not (is_row_of ended t r)) t.rows ++ moved_rows t ended) ≡ kept_of out t
  regroup_same =
      ap (λ ps. kept out t.def.part_key ps (stay ++ moved_rows t ended)) parts
      ∙ joined stay (moved_rows t ended) (gone_all (suc t.given) (filter (is_row_of ended t) t.rows) goes)
      ∙ kept_alike out t.def.part_key new_parts t.parts stay
      (each_weaker (λ r. IsPlaced t.def.part_key t.parts r × (not (is_row_of ended t r) ≡ true)) (IsAlike out t.def.part_key new_parts t.parts) (λ r both. row_stays r both.0 both.1) stay
      (each_two (IsPlaced t.def.part_key t.parts) (λ r. not (is_row_of ended t r) ≡ true) stay (each_filter (IsPlaced t.def.part_key t.parts) (λ r. not (is_row_of ended t r)) t.rows placed) (Each-passes (λ r. not (is_row_of ended t r)) t.rows)))
      ∙ kept_fewer out t.def.part_key t.parts (λ r. not (is_row_of ended t r)) t.rows
      (each_weaker (IsPlaced t.def.part_key t.parts) (λ r. not (is_row_of ended t r) ≡ false → IsGone out t.def.part_key t.parts r.values) (λ r h e. (row_goes r h (not-false (is_row_of ended t r) e)).0) t.rows placed)
    where
      stay : List Row
      stay = filter (λ r. not (is_row_of ended t r)) t.rows

      parts : replaced ended (map (λ p. p.0) after) t.parts ≡ new_parts
      parts = (λ i. replaced (sp.ended i) (sp.new i) t.parts) ∙ sp.replaced_by

      placed : Each (IsPlaced t.def.part_key t.parts) t.rows
      placed = all_placed t fits

      goes : Each (λ r. IsGone out t.def.part_key new_parts r.values) (filter (is_row_of ended t) t.rows)
      goes =
          each_weaker (λ r. IsPlaced t.def.part_key t.parts r × (is_row_of ended t r ≡ true)) (λ r. IsGone out t.def.part_key new_parts r.values) (λ r both. (row_goes r both.0 both.1).1) (filter (is_row_of ended t) t.rows)
          (each_two (IsPlaced t.def.part_key t.parts) (λ r. is_row_of ended t r ≡ true) (filter (is_row_of ended t) t.rows) (each_filter (IsPlaced t.def.part_key t.parts) (is_row_of ended t) t.rows placed) (Each-passes (is_row_of ended t) t.rows))

      gone_all : (m : ℕ) (rs : List Row) → Each (λ r. IsGone out t.def.part_key new_parts r.values) rs → Each (λ (r : Row). IsGone out t.def.part_key new_parts r.values) (map (λ p. record { rowid = p.0; values = p.1.values }) (enumerate_from m rs))
      gone_all m [] h = tt
      gone_all m (r ∷ rs) h = (h.0, gone_all (m + 1) rs h.1)

      joined : (xs ys : List Row) → Each (λ (r : Row). IsGone out t.def.part_key new_parts r.values) ys → kept out t.def.part_key new_parts (xs ++ ys) ≡ kept out t.def.part_key new_parts xs
      joined xs [] h = ap (kept out t.def.part_key new_parts) (append-nil xs)
      joined xs (y ∷ ys) h =
          ap (kept out t.def.part_key new_parts) (sym (append_assoc xs (y ∷ []) ys)) ∙ joined (xs ++ y ∷ []) ys h.1 ∙ kept_more out t.def.part_key new_parts xs y h.0

-- ---- the forms

record Cut (t : Table) (a : Altering) : Type 0 where
  same : (out : ℕ → Value → Bool) → PartsRight t → AllFit t → Each (λ p. IsOutside out p.0.number p.1) a.touched → kept_of out a.table ≡ kept_of out t

add_same : (t : Table) (r : NewRange) → Cut t (added t r)
add_same t r =
    record {
      same = λ out right fits outside.
          sym (kept_alike out t.def.part_key t.parts (t.parts ++ added_part t r ∷ []) t.rows
          (each_weaker (IsPlaced t.def.part_key t.parts) (IsAlike out t.def.part_key t.parts (t.parts ++ added_part t r ∷ [])) (λ q h. alike_added out t.def.part_key t.parts (added_part t r ∷ []) q h) t.rows (all_placed t fits)));
    }

truncate_same : (t : Table) (name : List ℕ) (p : Part × Interval) → part_named t name ≡ Some p → Cut t (truncated t p)
truncate_same t name p named = record { same = λ out right fits outside. fewer_kept out t name p right.0 named outside.0 }

drop_same : (t : Table) (name : List ℕ) (p : Part × Interval) → part_named t name ≡ Some p → Cut t (dropped t p)
drop_same t name p named =
    record {
      same = λ out right fits outside.
          kept_alike out t.def.part_key (filter (λ q. not (q.number == p.0.number)) t.parts) t.parts (without_rows t p.0)
          (each_weaker (λ r. IsPlaced t.def.part_key t.parts r × (not (mark_of t r.values == p.0.number) ≡ true)) (IsAlike out t.def.part_key (filter (λ q. not (q.number == p.0.number)) t.parts) t.parts)
          (λ r both. alike_dropped out t p.0.number r both.0 both.1) (without_rows t p.0)
          (each_two (IsPlaced t.def.part_key t.parts) (λ r. not (mark_of t r.values == p.0.number) ≡ true) (without_rows t p.0)
          (each_filter (IsPlaced t.def.part_key t.parts) (λ r. not (mark_of t r.values == p.0.number)) t.rows (all_placed t fits))
          (Each-passes (λ r. not (mark_of t r.values == p.0.number)) t.rows)))
          ∙ fewer_kept out t name p right.0 named outside.0;
    }

cut_forms : (kept : ℕ) (base : Base) (n : ℕ) (t : Table) (a : Altering) → CutBy kept base n t a → Cut t a
cut_forms kept base n t a (ByAdd r key none is) = subst (Cut t) (sym is) (add_same t r)
cut_forms kept base n t a (ByDrop name p named none is) = subst (Cut t) (sym is) (drop_same t name p named)
cut_forms kept base n t a (ByTruncate name p named none is) = subst (Cut t) (sym is) (truncate_same t name p named)
cut_forms kept base n t a (ByRegroup before after groups is) =
    subst (Cut t) (sym is) (record { same = λ out right fits free. regroup_same out t before after (spans_of kept t before after groups right) fits free })
cut_forms kept base n t a (ByMovement on is) = subst (Cut t) (sym is) (record { same = λ out right fits free. refl })

-- the rows outside of the intervals that are touched are as before
pub cut_same : (out : ℕ → Value → Bool) (kept : ℕ) (base : Base) (n : ℕ) (t : Table) (change : PartChange) (a : Altering) → alter_part kept base n t change ≡ Ok a → PartsRight t → AllFit t
    → Each (λ p. IsOutside out p.0.number p.1) a.touched → kept_of out a.table ≡ kept_of out t
cut_same out kept base n t change a is right fits outside = (cut_forms kept base n t a (cut_by kept base n t change a is)).same out right fits outside
