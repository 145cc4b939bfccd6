-- A SPLIT or MERGE: the partitions before and behind those that end stay, and the new ones take over their intervals.
use Rattle.std.proofs.Common.{◌≡◌, ◌∙◌, sym, ap, refl, subst, ℕ, Bool, true, false, true≢false, cond, not, List, [], ◌∷◌, ◌++◌, map, Option, None, Some, ◌==◌, ◌&&◌, ◌||◌}
use Rattle.std.proofs.lemmas.Option.{none-some, same_Some}
use Rattle.std.specs.List.{filter, find, list_any}
use Rattle.std.specs.Ordering.{is_lt}
use Rattle.std.proofs.lemmas.Bool.{eq-eqb, eqb-true, or_right}
use Rattle.std.proofs.lemmas.List.{append_assoc}
use Rattle.wh_base.specs.Lists.{option_case, same_text}
use Rattle.wh_base.specs.Tables.{Table, with_intervals}
use Rattle.std.specs.declared.cmp.Ordering.{Ordering}
use Rattle.std.specs.declared.cmp.Ordering.TheVariants.{Equal, Greater, Less}
use Rattle.wh_base.specs.ValueLaws.{value_total}
use Rattle.wh_base.specs.Values.{literal_value, value_cmp}
use Rattle.wh_base.specs.declared.statements.MergeParts.{MergeParts}
use Rattle.wh_base.specs.declared.statements.SplitPart.{SplitPart}
use Rattle.wh_base.specs.declared.tables.Part.{Part}
use Rattle.wh_base.specs.declared.values.Interval.{Interval}
use Rattle.wh_base.specs.declared.values.Value.{Value}
use Rattle.def_effect.specs.Partitions.{adjoins, is_ended, is_inside, lower_half, merged_part, part_named, replaced, upper_half}
use Rattle.law_trace.proofs.Listed.{Each, Pairs, each_right, each_weaker, pairs_across, pairs_right}
use Rattle.law_trace.proofs.Marks.{is_below}

-- ---- values

less_of : (o : Ordering) → is_lt o ≡ true → o ≡ Less
less_of Less e = refl
less_of Equal e = absurd (true≢false (sym e))
less_of Greater e = absurd (true≢false (sym e))

pub less_on : (a b c : Value) → is_lt (value_cmp a b) ≡ true → is_lt (value_cmp b c) ≡ true → is_lt (value_cmp a c) ≡ true
less_on a b c h k = ap is_lt (value_total.trans a b c (less_of (value_cmp a b) h) (less_of (value_cmp b c) k))

abbrev IsOther : Part → Part → Type 0
IsOther p q = (p.number == q.number) ≡ false

-- the bound of the last partition, or the one before them
abbrev pub top_of : Option Value → List Part → Option Value
top_of lo [] = lo
top_of lo (p ∷ ps) = top_of p.below ps

abbrev pub numbers : List Part → List ℕ
numbers ps = map (λ p. p.number) ps

-- the key is below the bound of one of them
abbrev pub any_below : Value → List Part → Bool
any_below key ps = list_any (is_below key) ps

-- the partitions that end, and those around them
pub record Spans (parts : List Part) (before after : List (Part × Interval)) : Type 0 where
  pub front : List Part
  pub mid : List Part
  pub back : List Part
  pub news : List Part
  pub is : parts ≡ front ++ (mid ++ back)
  pub ended : map (λ p. p.0.number) before ≡ numbers mid
  pub new : map (λ p. p.0) after ≡ news
  pub front_stays : Each (λ p. is_ended (numbers mid) p ≡ false) front
  pub mid_ends : Each (λ p. is_ended (numbers mid) p ≡ true) mid
  pub back_stays : Each (λ p. is_ended (numbers mid) p ≡ false) back
  pub was : with_intervals (top_of None front) mid ≡ before
  pub will : with_intervals (top_of None front) news ≡ after
  pub covers : (key : Value) → any_below key mid ≡ any_below key news
  pub replaced_by : replaced (numbers mid) news parts ≡ front ++ (news ++ back)

-- ---- where a partition stands

record At (parts : List Part) (p : Part) : Type 0 where
  front : List Part
  back : List Part
  is : parts ≡ front ++ (p ∷ back)

record Found (lo : Option Value) (parts : List Part) (p : Part × Interval) : Type 0 where
  at : At parts p.0
  interval : p.1 ≡ record { lo = top_of lo at.front; hi = p.0.below }

found_at : (test : Part × Interval → Bool) (lo : Option Value) (parts : List Part) (p : Part × Interval) → find test (with_intervals lo parts) ≡ Some p → Found lo parts p
found_at test lo [] p e = absurd (none-some p e)
found_at test lo (q ∷ parts) p e = by (test (q, record { lo = lo; hi = q.below })) e (found_at test q.below parts p)
  where
    by : (b : Bool) → cond b (Some (q, record { lo = lo; hi = q.below })) (find test (with_intervals q.below parts)) ≡ Some p → (find test (with_intervals q.below parts) ≡ Some p → Found q.below parts p) → Found lo (q ∷ parts) p
    by true e later = subst (Found lo (q ∷ parts)) (same_Some (q, record { lo = lo; hi = q.below }) p e) (record { at = record { front = []; back = parts; is = refl }; interval = refl })
    by false e later =
        let f : Found q.below parts p = later e in
        record { at = record { front = q ∷ f.at.front; back = f.at.back; is = ap (λ ps. q ∷ ps) f.at.is }; interval = f.interval }

-- ---- those that stay

other_turned : (p q : Part) → IsOther p q → IsOther q p
other_turned p q h = by (q.number == p.number) refl
  where
    by : (b : Bool) → (q.number == p.number) ≡ b → b ≡ false
    by true e = let same : q.number ≡ p.number = eqb-true q.number p.number e in absurd (true≢false (sym (eq-eqb p.number q.number (sym same)) ∙ h))
    by false e = refl

-- one that differs from one number, and from two
apart_one : (p q : Part) → IsOther p q → is_ended (numbers (p ∷ [])) q ≡ false
apart_one p q h = ap (λ b. b || false) h

apart_two : (p r q : Part) → IsOther p q → IsOther r q → is_ended (numbers (p ∷ r ∷ [])) q ≡ false
apart_two p r q h k = ap (λ b. b || ((r.number == q.number) || false)) h ∙ ap (λ b. b || false) k

fewer_whole : (p : Part → Bool) (xs : List Part) → Each (λ x. p x ≡ false) xs → filter (λ x. not (p x)) xs ≡ xs
fewer_whole p [] h = refl
fewer_whole p (x ∷ xs) h = ap (λ b. cond (not b) (x ∷ filter (λ x. not (p x)) xs) (filter (λ x. not (p x)) xs)) h.0 ∙ ap (λ ys. x ∷ ys) (fewer_whole p xs h.1)

fewer_none : (p : Part → Bool) (xs ys : List Part) → Each (λ x. p x ≡ true) xs → filter (λ x. not (p x)) (xs ++ ys) ≡ filter (λ x. not (p x)) ys
fewer_none p [] ys h = refl
fewer_none p (x ∷ xs) ys h = ap (λ b. cond (not b) (x ∷ filter (λ x. not (p x)) (xs ++ ys)) (filter (λ x. not (p x)) (xs ++ ys))) h.0 ∙ fewer_none p xs ys h.1

replaced_mid : (ended : List ℕ) (news front : List Part) (p : Part) (more back : List Part) → Each (λ q. is_ended ended q ≡ false) front → Each (λ q. is_ended ended q ≡ true) (p ∷ more) → Each (λ q. is_ended ended q ≡ false) back
    → replaced ended news (front ++ ((p ∷ more) ++ back)) ≡ front ++ (news ++ back)
replaced_mid ended news [] p more back stays ends rest =
    ap (λ b. cond b (news ++ filter (λ q. not (is_ended ended q)) (more ++ back)) (p ∷ replaced ended news (more ++ back))) ends.0
    ∙ ap (λ ps. news ++ ps) (fewer_none (is_ended ended) more back ends.1 ∙ fewer_whole (is_ended ended) back rest)
replaced_mid ended news (q ∷ front) p more back stays ends rest =
    ap (λ b. cond b (news ++ filter (λ q. not (is_ended ended q)) (front ++ ((p ∷ more) ++ back))) (q ∷ replaced ended news (front ++ ((p ∷ more) ++ back)))) stays.0
    ∙ ap (λ ps. q ∷ ps) (replaced_mid ended news front p more back stays.1 ends rest)

-- ---- bounds

pub lower_bound : (i : Interval) (v : Value) (lo : Option Value) → i.lo ≡ lo → is_inside i v ≡ true → option_case lo true (λ lo. is_lt (value_cmp lo v)) ≡ true
lower_bound i v lo is h = sym (ap (λ o. option_case o true (λ lo. is_lt (value_cmp lo v))) is) ∙ first_true (option_case i.lo true (λ lo. is_lt (value_cmp lo v))) (option_case i.hi true (λ hi. is_lt (value_cmp v hi))) h
  where
    first_true : (a b : Bool) → (a && b) ≡ true → a ≡ true
    first_true true b e = refl
    first_true false b e = absurd (true≢false (sym e))

pub upper_bound : (i : Interval) (v : Value) (hi : Option Value) → i.hi ≡ hi → is_inside i v ≡ true → option_case hi true (λ hi. is_lt (value_cmp v hi)) ≡ true
upper_bound i v hi is h = sym (ap (λ o. option_case o true (λ hi. is_lt (value_cmp v hi))) is) ∙ second_true (option_case i.lo true (λ lo. is_lt (value_cmp lo v))) (option_case i.hi true (λ hi. is_lt (value_cmp v hi))) h
  where
    second_true : (a b : Bool) → (a && b) ≡ true → b ≡ true
    second_true true b e = e
    second_true false b e = absurd (true≢false (sym e))

-- ---- SPLIT

-- where the partition of this name stands
pub record Place (t : Table) (p : Part × Interval) : Type 0 where
  pub front : List Part
  pub back : List Part
  pub is : t.parts ≡ front ++ (p.0 ∷ back)
  pub interval : p.1 ≡ record { lo = top_of None front; hi = p.0.below }
  pub replaced_by : Pairs IsOther t.parts → (news : List Part) → replaced (p.0.number ∷ []) news t.parts ≡ front ++ (news ++ back)

pub split_place : (t : Table) (s : SplitPart) (p : Part × Interval) → part_named t s.name ≡ Some p → Place t p
split_place t s p named =
    let f : Found None t.parts p = found_at (λ r. same_text r.0.name s.name) None t.parts p named in
    record {
      front = f.at.front;
      back = f.at.back;
      is = f.at.is;
      interval = f.interval;
      replaced_by = λ others news.
          let all : Pairs IsOther (f.at.front ++ (p.0 ∷ f.at.back)) = subst (Pairs IsOther) f.at.is others in
          let front : Each (λ q. is_ended (numbers (p.0 ∷ [])) q ≡ false) f.at.front =
          each_weaker (λ q. Each (IsOther q) (p.0 ∷ f.at.back)) (λ q. is_ended (numbers (p.0 ∷ [])) q ≡ false) (λ q k. apart_one p.0 q (other_turned q p.0 k.0)) f.at.front (pairs_across IsOther f.at.front (p.0 ∷ f.at.back) all) in
          let back : Each (λ q. is_ended (numbers (p.0 ∷ [])) q ≡ false) f.at.back =
          each_weaker (IsOther p.0) (λ q. is_ended (numbers (p.0 ∷ [])) q ≡ false) (λ q k. apart_one p.0 q k) f.at.back (pairs_right IsOther f.at.front (p.0 ∷ f.at.back) all).0 in
          ap (replaced (numbers (p.0 ∷ [])) news) f.at.is
          ∙ replaced_mid (numbers (p.0 ∷ [])) news f.at.front p.0 [] f.at.back front (ap (λ b. b || false) (eq-eqb p.0.number p.0.number refl), tt) back;
    }

pub split_spans : (t : Table) (s : SplitPart) (p : Part × Interval) → part_named t s.name ≡ Some p → Pairs IsOther t.parts → is_inside p.1 (literal_value s.at) ≡ true
    → Spans t.parts (p ∷ []) (lower_half t s p ∷ upper_half t s p ∷ [])
split_spans t s p named others inside =
    let f : Found None t.parts p = found_at (λ r. same_text r.0.name s.name) None t.parts p named in
    let at : Value = literal_value s.at in
    let all : Pairs IsOther (f.at.front ++ (p.0 ∷ f.at.back)) = subst (Pairs IsOther) f.at.is others in
    let front : Each (λ q. is_ended (numbers (p.0 ∷ [])) q ≡ false) f.at.front =
    each_weaker (λ q. Each (IsOther q) (p.0 ∷ f.at.back)) (λ q. is_ended (numbers (p.0 ∷ [])) q ≡ false) (λ q k. apart_one p.0 q (other_turned q p.0 k.0)) f.at.front (pairs_across IsOther f.at.front (p.0 ∷ f.at.back) all) in
    let back : Each (λ q. is_ended (numbers (p.0 ∷ [])) q ≡ false) f.at.back =
    each_weaker (IsOther p.0) (λ q. is_ended (numbers (p.0 ∷ [])) q ≡ false) (λ q k. apart_one p.0 q k) f.at.back (pairs_right IsOther f.at.front (p.0 ∷ f.at.back) all).0 in
    let own : is_ended (numbers (p.0 ∷ [])) p.0 ≡ true = ap (λ b. b || false) (eq-eqb p.0.number p.0.number refl) in
    record {
      front = f.at.front;
      mid = p.0 ∷ [];
      back = f.at.back;
      news = (lower_half t s p).0 ∷ (upper_half t s p).0 ∷ [];
      is = f.at.is;
      ended = refl;
      new = refl;
      front_stays = front;
      mid_ends = (own, tt);
      back_stays = back;
      was = ap (λ (i : Interval). (p.0, i) ∷ []) (sym f.interval);
      will = ap (λ (i : Interval). ((lower_half t s p).0, record { lo = i.lo; hi = Some at }) ∷ ((upper_half t s p).0, record { lo = Some at; hi = i.hi }) ∷ []) (sym f.interval);
      covers = λ key. covered key (is_lt (value_cmp key at)) refl (upper_bound p.1 at p.0.below (ap (λ (i : Interval). i.hi) f.interval) inside);
      replaced_by = ap (replaced (numbers (p.0 ∷ [])) ((lower_half t s p).0 ∷ (upper_half t s p).0 ∷ [])) f.at.is
          ∙ replaced_mid (numbers (p.0 ∷ [])) ((lower_half t s p).0 ∷ (upper_half t s p).0 ∷ []) f.at.front p.0 [] f.at.back front (own, tt) back;
    }
  where
    under : (key at : Value) (hi : Option Value) → is_lt (value_cmp key at) ≡ true → option_case hi true (λ hi. is_lt (value_cmp at hi)) ≡ true → option_case hi true (λ hi. is_lt (value_cmp key hi)) ≡ true
    under key at None h k = refl
    under key at (Some v) h k = less_on key at v h k

    covered : (key : Value) (b : Bool) → is_lt (value_cmp key (literal_value s.at)) ≡ b → option_case p.0.below true (λ hi. is_lt (value_cmp (literal_value s.at) hi)) ≡ true
        → (is_below key p.0 || false) ≡ (is_lt (value_cmp key (literal_value s.at)) || (is_below key p.0 || false))
    covered key true e high = ap (λ b. b || false) (under key (literal_value s.at) p.0.below e high) ∙ sym (ap (λ b. b || (is_below key p.0 || false)) e)
    covered key false e high = sym (ap (λ b. b || (is_below key p.0 || false)) e)

-- ---- MERGE

record Adjoin (parts : List Part) (m n : ℕ) : Type 0 where
  front : List Part
  back : List Part
  x : Part
  y : Part
  is : parts ≡ front ++ (x ∷ y ∷ back)
  first : x.number ≡ m
  second : y.number ≡ n

adjoins_at : (parts : List Part) (m n : ℕ) → adjoins parts m n ≡ true → Adjoin parts m n
adjoins_at [] m n e = absurd (true≢false (sym e))
adjoins_at (p ∷ []) m n e = absurd (true≢false (sym e))
adjoins_at (p ∷ q ∷ ps) m n e = by (p.number == m) (q.number == n) refl refl e (adjoins_at (q ∷ ps) m n)
  where
    later : Adjoin (q ∷ ps) m n → Adjoin (p ∷ q ∷ ps) m n
    later a = record { front = p ∷ a.front; back = a.back; x = a.x; y = a.y; is = ap (λ rs. p ∷ rs) a.is; first = a.first; second = a.second }

    by : (a b : Bool) → (p.number == m) ≡ a → (q.number == n) ≡ b → ((a && b) || adjoins (q ∷ ps) m n) ≡ true → (adjoins (q ∷ ps) m n ≡ true → Adjoin (q ∷ ps) m n) → Adjoin (p ∷ q ∷ ps) m n
    by true true one other e rest = record { front = []; back = ps; x = p; y = q; is = refl; first = eqb-true p.number m one; second = eqb-true q.number n other }
    by true false one other e rest = later (rest e)
    by false true one other e rest = later (rest e)
    by false false one other e rest = later (rest e)

head_is : {A : Type 0} (x y : A) (xs ys : List A) → x ∷ xs ≡ y ∷ ys → x ≡ y
head_is x y xs ys e = cc

tail_is : {A : Type 0} (x y : A) (xs ys : List A) → x ∷ xs ≡ y ∷ ys → xs ≡ ys
tail_is x y xs ys e = cc

-- one of its number stands at one place
not_behind : (x y : Part) (xs front back : List Part) → Each (IsOther x) xs → xs ≡ front ++ (y ∷ back) → x.number ≡ y.number → ⊥
not_behind x y xs front back others is same =
    let all : Each (IsOther x) (front ++ (y ∷ back)) = subst (Each (IsOther x)) is others in
    true≢false (sym (eq-eqb x.number y.number same) ∙ (each_right (IsOther x) front (y ∷ back) all).0)

one_place : (front back front2 back2 : List Part) (x y : Part) → Pairs IsOther (front ++ (x ∷ back)) → front ++ (x ∷ back) ≡ front2 ++ (y ∷ back2) → x.number ≡ y.number → (front ≡ front2) × (x ≡ y)
one_place [] back [] back2 x y others is same = (refl, head_is x y back back2 is)
one_place [] back (q ∷ front2) back2 x y others is same = absurd (not_behind x y back front2 back2 others.0 (tail_is x q back (front2 ++ (y ∷ back2)) is) same)
one_place (q ∷ front) back [] back2 x y others is same =
    let one : q ≡ y = head_is q y (front ++ (x ∷ back)) back2 is in
    absurd (not_behind q x (front ++ (x ∷ back)) front back others.0 refl (ap (λ (p : Part). p.number) one ∙ sym same))
one_place (q ∷ front) back (r ∷ front2) back2 x y others is same =
    let rest = one_place front back front2 back2 x y others.1 (tail_is q r (front ++ (x ∷ back)) (front2 ++ (y ∷ back2)) is) same in
    let one : q ≡ r = head_is q r (front ++ (x ∷ back)) (front2 ++ (y ∷ back2)) is in
    (λ i. one i ∷ rest.0 i, rest.1)

top_push : (lo : Option Value) (front : List Part) (x : Part) → top_of lo (front ++ x ∷ []) ≡ x.below
top_push lo [] x = refl
top_push lo (q ∷ front) x = top_push q.below front x

-- where the two stand
pub record Pair (parts : List Part) (p q : Part × Interval) : Type 0 where
  pub front : List Part
  pub back : List Part
  pub is : parts ≡ front ++ (p.0 ∷ q.0 ∷ back)
  pub first : p.1 ≡ record { lo = top_of None front; hi = p.0.below }
  pub second : q.1 ≡ record { lo = p.0.below; hi = q.0.below }
  pub replaced_by : (news : List Part) → replaced (p.0.number ∷ q.0.number ∷ []) news parts ≡ front ++ (news ++ back)

each_pair : (P Q : Part → Type 0) (xs : List Part) → Each P xs → Each Q xs → Each (λ x. P x × Q x) xs
each_pair P Q [] h k = tt
each_pair P Q (x ∷ xs) h k = ((h.0, k.0), each_pair P Q xs h.1 k.1)

two_replaced : (front : List Part) (p q : Part) (back news : List Part) → Pairs IsOther (front ++ (p ∷ q ∷ back)) → replaced (p.number ∷ q.number ∷ []) news (front ++ (p ∷ q ∷ back)) ≡ front ++ (news ++ back)
two_replaced front p q back news all =
    let rest : Pairs IsOther (p ∷ q ∷ back) = pairs_right IsOther front (p ∷ q ∷ back) all in
    replaced_mid (numbers (p ∷ q ∷ [])) news front p (q ∷ []) back
    (each_weaker (λ r. Each (IsOther r) (p ∷ q ∷ back)) (λ r. is_ended (numbers (p ∷ q ∷ [])) r ≡ false) (λ r k. apart_two p q r (other_turned r p k.0) (other_turned r q k.1.0)) front (pairs_across IsOther front (p ∷ q ∷ back) all))
    (ap (λ b. b || ((q.number == p.number) || false)) (eq-eqb p.number p.number refl), (or_right (p.number == q.number) ((q.number == q.number) || false) (ap (λ b. b || false) (eq-eqb q.number q.number refl)), tt))
    (each_weaker (λ r. IsOther p r × IsOther q r) (λ r. is_ended (numbers (p ∷ q ∷ [])) r ≡ false) (λ r k. apart_two p q r k.0 k.1) back (each_pair (IsOther p) (IsOther q) back rest.0.1 rest.1.0))

pub pair_at : (t : Table) (s : MergeParts) (p q : Part × Interval) → part_named t s.lower ≡ Some p → part_named t s.upper ≡ Some q → Pairs IsOther t.parts → adjoins t.parts p.0.number q.0.number ≡ true → Pair t.parts p q
pair_at t s p q one other others next =
    let a : Adjoin t.parts p.0.number q.0.number = adjoins_at t.parts p.0.number q.0.number next in
    let f : Found None t.parts p = found_at (λ r. same_text r.0.name s.lower) None t.parts p one in
    let g : Found None t.parts q = found_at (λ r. same_text r.0.name s.upper) None t.parts q other in
    let all : Pairs IsOther (a.front ++ (a.x ∷ (a.y ∷ a.back))) = subst (Pairs IsOther) a.is others in
    let here : (a.front ≡ f.at.front) × (a.x ≡ p.0) = one_place a.front (a.y ∷ a.back) f.at.front f.at.back a.x p.0 all (sym a.is ∙ f.at.is) a.first in
    let shifted : a.front ++ (a.x ∷ (a.y ∷ a.back)) ≡ (a.front ++ a.x ∷ []) ++ (a.y ∷ a.back) = sym (append_assoc a.front (a.x ∷ []) (a.y ∷ a.back)) in
    let there : (a.front ++ a.x ∷ [] ≡ g.at.front) × (a.y ≡ q.0) =
    one_place (a.front ++ a.x ∷ []) a.back g.at.front g.at.back a.y q.0 (subst (Pairs IsOther) shifted all) (sym shifted ∙ sym a.is ∙ g.at.is) a.second in
    record {
      front = a.front;
      back = a.back;
      is = a.is ∙ (λ i. a.front ++ (here.1 i ∷ there.1 i ∷ a.back));
      first = f.interval ∙ ap (λ front. record { lo = top_of None front; hi = p.0.below }) (sym here.0);
      replaced_by = λ news.
          let is : t.parts ≡ a.front ++ (p.0 ∷ q.0 ∷ a.back) = a.is ∙ (λ i. a.front ++ (here.1 i ∷ there.1 i ∷ a.back)) in
          ap (replaced (p.0.number ∷ q.0.number ∷ []) news) is ∙ two_replaced a.front p.0 q.0 a.back news (subst (Pairs IsOther) is others);
      second = g.interval
          ∙ ap (λ lo. record { lo = lo; hi = q.0.below }) (ap (top_of None) (sym there.0) ∙ top_push None a.front a.x ∙ ap (λ (r : Part). r.below) here.1);
    }

pub merge_spans : (t : Table) (s : MergeParts) (p q : Part × Interval) → Pair t.parts p q → Pairs IsOther t.parts → ((key : Value) → is_below key p.0 ≡ true → is_below key q.0 ≡ true)
    → Spans t.parts (p ∷ q ∷ []) (merged_part t s p q ∷ [])
merge_spans t s p q w others under =
    let m : Part = (merged_part t s p q).0 in
    let mid : List Part = p.0 ∷ q.0 ∷ [] in
    let all : Pairs IsOther (w.front ++ (p.0 ∷ q.0 ∷ w.back)) = subst (Pairs IsOther) w.is others in
    let rest : Pairs IsOther (p.0 ∷ q.0 ∷ w.back) = pairs_right IsOther w.front (p.0 ∷ q.0 ∷ w.back) all in
    let front : Each (λ r. is_ended (numbers mid) r ≡ false) w.front =
    each_weaker (λ r. Each (IsOther r) (p.0 ∷ q.0 ∷ w.back)) (λ r. is_ended (numbers mid) r ≡ false) (λ r k. apart_two p.0 q.0 r (other_turned r p.0 k.0) (other_turned r q.0 k.1.0)) w.front (pairs_across IsOther w.front (p.0 ∷ q.0 ∷ w.back) all) in
    let back : Each (λ r. is_ended (numbers mid) r ≡ false) w.back =
    each_weaker (λ r. IsOther p.0 r × IsOther q.0 r) (λ r. is_ended (numbers mid) r ≡ false) (λ r k. apart_two p.0 q.0 r k.0 k.1) w.back (both (λ r. IsOther p.0 r) (λ r. IsOther q.0 r) w.back rest.0.1 rest.1.0) in
    let ends : Each (λ r. is_ended (numbers mid) r ≡ true) mid = (
      ap (λ b. b || ((q.0.number == p.0.number) || false)) (eq-eqb p.0.number p.0.number refl),
      (or_right (p.0.number == q.0.number) (ap (λ b. b || false) (eq-eqb q.0.number q.0.number refl)), tt),
    ) in
    record {
      front = w.front;
      mid = mid;
      back = w.back;
      news = m ∷ [];
      is = w.is;
      ended = refl;
      new = refl;
      front_stays = front;
      mid_ends = ends;
      back_stays = back;
      was = λ i. (p.0, sym w.first i) ∷ (q.0, sym w.second i) ∷ [];
      will = λ i. (m, record { lo = (sym w.first i).lo; hi = (sym w.second i).hi }) ∷ [];
      covers = λ key. covered (is_below key p.0) (is_below key q.0) (under key);
      replaced_by = ap (replaced (numbers mid) (m ∷ [])) w.is ∙ replaced_mid (numbers mid) (m ∷ []) w.front p.0 (q.0 ∷ []) w.back front ends back;
    }
  where
    both : (P Q : Part → Type 0) (xs : List Part) → Each P xs → Each Q xs → Each (λ x. P x × Q x) xs
    both P Q [] h k = tt
    both P Q (x ∷ xs) h k = ((h.0, k.0), both P Q xs h.1 k.1)

    or_right : (a : Bool) {b : Bool} → b ≡ true → (a || b) ≡ true
    or_right true e = refl
    or_right false e = e

    covered : (a b : Bool) → (a ≡ true → b ≡ true) → (a || (b || false)) ≡ (b || false)
    covered true b k = sym (ap (λ b. b || false) (k refl))
    covered false b k = refl
