-- The lists of partitions, one after another.
use Rattle.std.proofs.Common.{◌≡◌, ◌-◌, ◌<◌, ◌≤◌, ◌++◌, ℕ, suc, Bool, true, false, cond, List, [], ◌∷◌, Option, Some, None, length, reverse, get_or, refl, arith, sym, ap, ◌∙◌, subst, nat_le, nat_lt}
use Rattle.std.proofs.lemmas.Bool.Decides.{nat_tests}
use Rattle.std.proofs.lemmas.List.{get_or-reverse, length-reverse, reverse-append}
use Rattle.std.proofs.lemmas.List.Elements.{All-head, All-tail}
use Rattle.std.specs.List.{All, AllPairs, filter, find}
use Rattle.std.specs.List.Sorted.{IsPartitionedBy}
use Rattle.wh_base.specs.Lists.{option_case}
use Rattle.wh_base.specs.declared.tables.Part.{Part}
use Rattle.wh_base.specs.declared.values.Value.{Value}
use Rattle.wh_partmap.proofs.Points.{parted}
use Rattle.wh_partmap.specs.History.{PartHistory, lists_of, next_part, parts_at, with_added, with_parts}
use Rattle.wh_partmap.specs.Laws.{ChangesFrom, IsPartHistory, ListsFall, first_since}
use Rattle.wh_partmap.specs.declared.lists.PartList.{PartList}

pub lists_parted : (lists : List PartList) (scn : ℕ) → AllPairs (λ (l : PartList) m. l.since < m.since) lists → IsPartitionedBy (λ l. nat_le l.since scn) lists
lists_parted lists scn up = parted (λ l. nat_le l.since scn) (λ l m. l.since < m.since) lists up (λ l m r h. grind (arith, nat_tests))

-- lists that fall from behind rise
pub lists_rise : (xs : List PartList) → ListsFall (reverse xs) → AllPairs (λ (l : PartList) m. l.since < m.since) xs
lists_rise xs fall i j d less within =
    let n = length xs in
    let same : length (reverse xs) ≡ n = length-reverse xs in
    let pair : (get_or (reverse xs) (n - 1 - i) d).since < (get_or (reverse xs) (n - 1 - j) d).since = fall (n - 1 - j) (n - 1 - i) d (omega arith) (omega arith) in
    let at_i : get_or (reverse xs) (n - 1 - i) d ≡ get_or xs i d =
    get_or-reverse xs (n - 1 - i) d (omega arith) ∙ ap (λ k. get_or xs k d) (let e : n - 1 - (n - 1 - i) ≡ i = omega arith in e) in
    let at_j : get_or (reverse xs) (n - 1 - j) d ≡ get_or xs j d =
    get_or-reverse xs (n - 1 - j) d (omega arith) ∙ ap (λ k. get_or xs k d) (let e : n - 1 - (n - 1 - j) ≡ j = omega arith in e) in
    subst (λ (l : PartList). l.since < (get_or xs j d).since) at_i (subst (λ (m : PartList). (get_or (reverse xs) (n - 1 - i) d).since < m.since) at_j pair)

pub earlier_rise : (h : PartHistory) (xs : List PartList) → IsPartHistory h → h.earlier ≡ reverse xs → AllPairs (λ (l : PartList) m. l.since < m.since) xs
earlier_rise h xs kept e = lists_rise xs (subst ListsFall e (λ i j d l m. kept.lists (suc i) (suc j) d (omega arith) (omega arith)))

-- ---- the list at an SCN

test_true : (m n : ℕ) → m ≤ n → nat_le m n ≡ true
test_true m n h = grind (arith, nat_tests)

test_false : (m n : ℕ) → n < m → nat_le m n ≡ false
test_false m n h = grind (arith, nat_tests)

below_true : (m n : ℕ) → m < n → nat_lt m n ≡ true
below_true m n h = grind (arith, nat_tests)

below_false : (m n : ℕ) → n ≤ m → nat_lt m n ≡ false
below_false m n h = grind (arith, nat_tests)

pub at_now : (h : PartHistory) (scn : ℕ) → h.since ≤ scn → parts_at h scn ≡ h.parts
at_now h scn le = rw (test_true h.since scn le) refl

pub at_earlier : (h : PartHistory) (scn : ℕ) → scn < h.since → parts_at h scn ≡ option_case (find (λ l. nat_le l.since scn) h.earlier) [] (λ l. l.parts)
at_earlier h scn less = rw (test_false h.since scn less) refl

was_false : (m n : ℕ) → nat_le m n ≡ false → n < m
was_false m n h = grind (arith, nat_tests)

none_begun : (ls : List PartList) (since scn : ℕ) → scn < since → find (λ l. nat_le l.since scn) ls ≡ None → scn < first_since since ls
none_begun [] since scn less none = less
none_begun (l ∷ ls) since scn less none = by (none_begun ls l.since scn) (nat_le l.since scn) refl none
  where
    by : (scn < l.since → find (λ m. nat_le m.since scn) ls ≡ None → scn < first_since l.since ls) → (b : Bool) → nat_le l.since scn ≡ b → cond b (Some l) (find (λ m. nat_le m.since scn) ls) ≡ None → scn < first_since l.since ls
    by rec true e f = cc
    by rec false e f = rec (was_false l.since scn e) f

-- from the birth on there is a list
pub some_begun : (h : PartHistory) (scn : ℕ) → IsPartHistory h → h.born ≤ scn → scn < h.since → find (λ l. nat_le l.since scn) h.earlier ≡ None → ⊥
some_begun h scn kept born less none =
    let after : scn < first_since h.since h.earlier = none_begun h.earlier h.since scn less none in
    let first : first_since h.since h.earlier ≡ h.born = kept.begun in
    absurd (omega arith)

-- ---- a new list

filter_all : {X : Type 0} (p : X → Bool) (xs : List X) → All (λ x. p x ≡ true) xs → filter p xs ≡ xs
filter_all p [] all = refl
filter_all p (x ∷ xs) all =
    let head : p x ≡ true = All-head (λ y. p y ≡ true) x xs all in
    let rest : filter p xs ≡ xs = filter_all p xs (All-tail (λ y. p y ≡ true) x xs all) in
    rw (head, rest) refl

earlier_before : (h : PartHistory) (scn : ℕ) → IsPartHistory h → h.since ≤ scn → All (λ (l : PartList). nat_lt l.since scn ≡ true) h.earlier
earlier_before h scn kept le k d within =
    let pair : (get_or h.earlier k d).since < h.since = kept.lists 0 (suc k) d (omega arith) (omega arith) in
    below_true (get_or h.earlier k d).since scn (omega arith)

-- at a later SCN all lists stay
pub with_later : (h : PartHistory) (scn : ℕ) (parts : List Part) → IsPartHistory h → h.since < scn → (with_parts h scn parts).earlier ≡ lists_of h
with_later h scn parts kept less =
    let rest : filter (λ l. nat_lt l.since scn) h.earlier ≡ h.earlier = filter_all (λ l. nat_lt l.since scn) h.earlier (earlier_before h scn kept (omega arith)) in
    rw (below_true h.since scn less, rest) refl

-- at the same SCN the last one goes
pub with_same : (h : PartHistory) (scn : ℕ) (parts : List Part) → IsPartHistory h → h.since ≡ scn → (with_parts h scn parts).earlier ≡ h.earlier
with_same h scn parts kept e =
    let rest : filter (λ l. nat_lt l.since scn) h.earlier ≡ h.earlier = filter_all (λ l. nat_lt l.since scn) h.earlier (earlier_before h scn kept (omega arith)) in
    rw (below_false h.since scn (omega arith), rest) refl

-- ---- what a change makes of the history

pub put_same : (h : PartHistory) (parts : List Part) (scn : ℕ) → IsPartHistory h → h.since ≡ scn → record h { parts = parts } ≡ with_parts h scn parts
put_same h parts scn kept e = λ i. record h { parts = parts; since = e i; earlier = sym (with_same h scn parts kept e) i }

pub added_later : (h : PartHistory) (name : List ℕ) (below : Option Value) (scn number : ℕ) → IsPartHistory h → h.since < scn → number ≡ suc h.made → record h { parts = h.parts ++ record { name = name; number = number; below = below } ∷ []; since = scn; earlier = lists_of h; made = suc h.made } ≡ with_added h name below scn
added_later h name below scn number kept less e =
    λ i. record h { parts = h.parts ++ record { name = name; number = e i; below = below } ∷ []; since = scn; earlier = sym (with_later h scn (h.parts ++ next_part h name below ∷ []) kept less) i; made = suc h.made }

pub added_same : (h : PartHistory) (name : List ℕ) (below : Option Value) (scn number : ℕ) → IsPartHistory h → h.since ≡ scn → number ≡ suc h.made → record h { parts = h.parts ++ record { name = name; number = number; below = below } ∷ []; made = suc h.made } ≡ with_added h name below scn
added_same h name below scn number kept same e =
    λ i. record h { parts = h.parts ++ record { name = name; number = e i; below = below } ∷ []; since = same i; earlier = sym (with_same h scn (h.parts ++ next_part h name below ∷ []) kept same) i; made = suc h.made }

-- the last list goes behind those before it
pub kept_before : (h : PartHistory) (old new : List PartList) (parts : List Part) → h.earlier ≡ reverse old → new ≡ old ++ record { since = h.since; parts = parts } ∷ [] → parts ≡ h.parts → reverse new ≡ lists_of h
kept_before h old new parts e f g = ap reverse f ∙ reverse-append old (record { since = h.since; parts = parts } ∷ []) ∙ (λ i. record { since = h.since; parts = g i } ∷ sym e i)

-- ---- a change shows from its SCN on alone

find_kept : {X : Type 0} (p q : X → Bool) (xs : List X) → ((x : X) → p x ≡ true → q x ≡ true) → find p (filter q xs) ≡ find p xs
find_kept p q [] within = refl
find_kept p q (x ∷ xs) within = by (find_kept p q xs within) (q x) refl (p x) refl
  where
    by : find p (filter q xs) ≡ find p xs → (b : Bool) → q x ≡ b → (a : Bool) → p x ≡ a → find p (cond b (x ∷ filter q xs) (filter q xs)) ≡ cond a (Some x) (find p xs)
    by rec true e true f = rw f refl
    by rec true e false f = rw f rec
    by rec false e true f = let both : q x ≡ true = within x f in cc
    by rec false e false f = rec

pub changes_from : (h : PartHistory) → ChangesFrom h
changes_from h =
    record {
      before = λ scn n parts le less. rw (test_false scn n less) (ap (λ o. option_case o [] (λ (l : PartList). l.parts)) (find_kept (λ l. nat_le l.since n) (λ l. nat_lt l.since scn) (lists_of h) (λ l e. grind (arith, nat_tests))));
      after = λ scn n parts le. rw (test_true scn n le) refl;
    }
