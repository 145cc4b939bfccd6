-- An index of a foreign key after each call: places with the numbers of their values, and how often each value is there.
use Rattle.std.proofs.Common.{◌≡◌, ◌∙◌, sym, ap, subst, refl, Bool, true, false, cond, List, [], ◌∷◌, ◌+◌, ◌-◌, ◌<◌, ◌≤◌, Some, None, Option, ℕ, zero, suc, length, map, nat_eq, nat_lt, not, ◌&&◌, ◌||◌, option_map, unwrap_or, slice_get, arith, if◌then◌else◌}
use Rattle.std.proofs.Math.Bool.{and-false}
use Rattle.std.specs.Cmp.{nat_cmp_total, eq_by_cmp_equiv}
use Rattle.std.specs.List.{IsDistinct, position_or_len}
use Rattle.std.specs.Map.{lookup, keys_of}
use Rattle.std.specs.Ordering.{eq_by_cmp, nat_cmp}
use Rattle.std.specs.FinMap as fin
use Rattle.std.proofs.lemmas.Bool.Decides.{same_from_decides, Decides-eqb, Decides-ltb}
use Rattle.std.proofs.lemmas.List.Recursion.{is_position_or_len}
use Rattle.indexmap.specs.IndexMap.{IndexMap, Updates, UpdatesBy, get, insert_entry, keys, with_value_at}
use Rattle.indexmap.proofs.CallerLemmas.{updates-with_value_at}
use Rattle.std.proofs.lemmas.Map.Entries.{lookup_from_place}
use Rattle.std.proofs.lemmas.Option.{slice_get_past}
use Rattle.wh_base.proofs.Same.{same_value-Decides}
use Rattle.wh_base.specs.Tables.{value_at}
use Rattle.wh_base.specs.Values.{same_value, value_cmp}
use Rattle.wh_base.specs.ValueLaws.{value_total, equal_values}
use Rattle.wh_base.specs.declared.values.Value.{Value}
use Rattle.wh_keyindex.specs.Children.{Values, places_with, unmarked_places}
use Rattle.wh_keyindex.specs.Marks.{is_marked}
use Rattle.wh_keyindex.specs.Tied.{AreCounted, AreKnown, count_in, named, values_of}
use Rattle.wh_keyindex.proofs.Looked.{counted, get-lookup, is_equal}
use Rattle.wh_keyindex.proofs.Tallied.{one_if, passing-insert, passing-most, passing-remove}

-- ---- sameness

same_number : (x y : ℕ) → nat_eq x y ≡ eq_by_cmp nat_cmp x y
same_number x y =
    same_from_decides (nat_eq x y) (eq_by_cmp nat_cmp x y) (Decides-eqb x y)
    (λ h. fin.nat_cmp-IsAntisymmetric x y (is_equal (nat_cmp x y) h), λ e. subst (λ z. eq_by_cmp nat_cmp x z ≡ true) e ((eq_by_cmp_equiv nat_cmp_total).refl x))

same_numbers : nat_eq ≡ eq_by_cmp nat_cmp
same_numbers = λ i x y. same_number x y i

one_number : (x y : ℕ) → nat_eq x y ≡ true → x ≡ y
one_number x y h = (Decides-eqb x y).0 h

abbrev eqv : Value → Value → Bool
eqv = eq_by_cmp value_cmp

same_by_cmp : (v w : Value) → eqv v w ≡ same_value v w
same_by_cmp v w =
    same_from_decides (eqv v w) (same_value v w)
    (equal_values v w, λ e. subst (λ u. eqv v u ≡ true) e ((eq_by_cmp_equiv value_total).refl v))
    (same_value-Decides v w)

same_turns : (v w : Value) → eqv v w ≡ same_value w v
same_turns v w = (eq_by_cmp_equiv value_total).symm v w ∙ same_by_cmp w v

-- ---- what look-ups find

lookup-named : (known : List Value) (test : ℕ → Bool) (es : List (ℕ × ℕ)) → lookup test (named known es) ≡ option_map (value_at known) (lookup test es)
lookup-named known test [] = refl
lookup-named known test (e ∷ es) = by (test e.0) (lookup-named known test es)
  where
    by : (b : Bool) → lookup test (named known es) ≡ option_map (value_at known) (lookup test es)
        → cond b (Some (value_at known e.1)) (lookup test (named known es)) ≡ option_map (value_at known) (cond b (Some e.1) (lookup test es))
    by true more = refl
    by false more = more

pub find_number : (known : List Value) (es : List (ℕ × ℕ)) (place : ℕ) → fin.get (values_of known es) place ≡ option_map (value_at known) (lookup (nat_eq place) es)
find_number known es place =
    get-lookup nat_cmp_total fin.nat_cmp-IsAntisymmetric (named known es) place
    ∙ lookup-named known (eq_by_cmp nat_cmp place) es
    ∙ ap (λ same. option_map (value_at known) (lookup (same place) es)) (sym same_numbers)

keys-named : (known : List Value) (es : List (ℕ × ℕ)) → keys_of (named known es) ≡ keys_of es
keys-named known [] = refl
keys-named known (e ∷ es) = ap (λ ks. e.0 ∷ ks) (keys-named known es)

pub places_counted : (known : List Value) (es : List (ℕ × ℕ)) → IsDistinct nat_eq (keys_of es) → fin.len (values_of known es) ≡ length es
places_counted known es once =
    counted nat_cmp_total fin.nat_cmp-IsAntisymmetric (named known es)
    (subst (λ ks. IsDistinct (eq_by_cmp nat_cmp) ks) (sym (keys-named known es)) (subst (λ same. IsDistinct same (keys_of es)) same_numbers once))
    ∙ length-named es
  where
    length-named : (es : List (ℕ × ℕ)) → length (named known es) ≡ length es
    length-named [] = refl
    length-named (e ∷ es) = ap suc (length-named es)

pub few_with : (value : Value) (values : Values) → places_with value values ≤ fin.len values
few_with value values = let most = passing-most (same_value value) (fin.values values) in let as_long = length-values (fin.entries values) in let all = fin.len-entries values in omega (arith, most, as_long, all)
  where
    length-values : (es : List (ℕ × Value)) → length (map {A = ℕ × Value} (λ e. e.1) es) ≡ length es
    length-values [] = refl
    length-values (e ∷ es) = ap suc (length-values es)

-- ---- a value more

first_of : (Value → Bool) → List Value → ℕ
first_of test [] = 0
first_of test (k ∷ ks) = cond (test k) 0 (suc (first_of test ks))

first_is : (test : Value → Bool) (ks : List Value) → first_of test ks ≡ position_or_len test ks
unfolding first_of
first_is test ks = is_position_or_len (first_of test) test refl (λ k ks. let e : suc (first_of test ks) ≡ 1 + first_of test ks = omega arith in ap (λ n. cond (test k) 0 n) e) ks

abbrev Counts : Type 0
Counts = List (Value × ℕ)

kept_at : (es : Counts) (k : Value) (n i : ℕ) → i < length (keys_of es) → value_at (keys_of (insert_entry eqv es k n)) i ≡ value_at (keys_of es) i
kept_at [] k n i h = absurd (omega arith)
kept_at (e ∷ es) k n zero h = by (eqv k e.0)
  where
    by : (b : Bool) → value_at (keys_of (if b then (e.0, n) ∷ es else e ∷ insert_entry eqv es k n)) 0 ≡ e.0
    by true = refl
    by false = refl
kept_at (e ∷ es) k n (suc i) h = by (eqv k e.0) (kept_at es k n i (omega arith))
  where
    by : (b : Bool) → value_at (keys_of (insert_entry eqv es k n)) i ≡ value_at (keys_of es) i
        → value_at (keys_of (if b then (e.0, n) ∷ es else e ∷ insert_entry eqv es k n)) (suc i) ≡ value_at (keys_of es) i
    by true more = refl
    by false more = more

put_at : (es : Counts) (k : Value) (n : ℕ) → value_at (keys_of (insert_entry eqv es k n)) (first_of (eqv k) (keys_of es)) ≡ k
unfolding first_of
put_at [] k n = refl
put_at (e ∷ es) k n = by (eqv k e.0) refl (put_at es k n)
  where
    by : (b : Bool) → eqv k e.0 ≡ b → value_at (keys_of (insert_entry eqv es k n)) (first_of (eqv k) (keys_of es)) ≡ k
        → value_at (keys_of (if b then (e.0, n) ∷ es else e ∷ insert_entry eqv es k n)) (cond b 0 (suc (first_of (eqv k) (keys_of es)))) ≡ k
    by true e more = sym (equal_values k _ e)
    by false e more = more

no_fewer : (es : Counts) (k : Value) (n : ℕ) → length (keys_of es) ≤ length (keys_of (insert_entry eqv es k n))
no_fewer [] k n = omega arith
no_fewer (e ∷ es) k n = by (eqv k e.0) (no_fewer es k n)
  where
    by : (b : Bool) → length (keys_of es) ≤ length (keys_of (insert_entry eqv es k n))
        → suc (length (keys_of es)) ≤ length (keys_of (if b then (e.0, n) ∷ es else e ∷ insert_entry eqv es k n))
    by true more = omega arith
    by false more = omega arith

-- a place more with this number, in maps where `known` goes on as `more`
module _ {S : Type 0} (known more : List Value) (old new : IndexMap ℕ ℕ S) (place number : ℕ) (value : Value) (goes_on : (i : ℕ) → i < length known → value_at more i ≡ value_at known i)
    (stands : value_at more number ≡ value) (updates : Updates nat_eq old new place (Some number)) (are_known : AreKnown known old) where
  named_before : (q : ℕ) (o : Option ℕ) → get nat_eq old q ≡ o → option_map (value_at more) o ≡ option_map (value_at known) o
  named_before q None e = refl
  named_before q (Some i) e = ap Some (goes_on i (are_known q i e))

  with_place : values_of more new.entries ≡ fin.insert (values_of known old.entries) place value
  with_place =
      fin.same_map nat_cmp_total fin.nat_cmp-IsAntisymmetric _ _
      (λ q.
      find_number more new.entries q ∙ ap (option_map (value_at more)) (updates.0 q) ∙ by q (nat_eq place q)
      ∙ ap (λ b. cond b (Some value) (option_map (value_at known) (get nat_eq old q))) (same_number place q ∙ (eq_by_cmp_equiv nat_cmp_total).symm place q)
      ∙ ap (cond (eq_by_cmp nat_cmp q place) (Some value)) (sym (find_number known old.entries q))
      ∙ sym (fin.get-insert nat_cmp_total (values_of known old.entries) place value q))
    where
      by : (q : ℕ) (b : Bool) → option_map (value_at more) (cond b (Some number) (get nat_eq old q)) ≡ cond b (Some value) (option_map (value_at known) (get nat_eq old q))
      by q true = ap Some stands
      by q false = named_before q (get nat_eq old q) refl

-- the value is counted once more
counted_with : {S : Type 0} (old new : IndexMap Value ℕ S) (values : Values) (place : ℕ) (value : Value) → fin.get values place ≡ None → AreCounted old values
    → Updates eqv old new value (Some (places_with value values + 1)) → AreCounted new (fin.insert values place value)
counted_with old new values place value absent are_counted updates v = ap (λ o. unwrap_or o 0) (updates.0 v) ∙ by (eqv value v) refl
  where
    by : (b : Bool) → eqv value v ≡ b → unwrap_or (cond b (Some (places_with value values + 1)) (get eqv old v)) 0 ≡ places_with v (fin.insert values place value)
    by true e =
        let law = passing-insert nat_cmp_total fin.nat_cmp-IsAntisymmetric (same_value v) values place value absent in
        let one : one_if (same_value v value) ≡ 1 = ap one_if (sym (same_turns value v) ∙ e) in
        let same : places_with value values ≡ places_with v values = ap (λ w. places_with w values) (equal_values value v e) in
        omega (arith, law, one, same)
    by false e =
        let law = passing-insert nat_cmp_total fin.nat_cmp-IsAntisymmetric (same_value v) values place value absent in
        let none : one_if (same_value v value) ≡ 0 = ap one_if (sym (same_turns value v) ∙ e) in
        let before = are_counted v in
        omega (arith, law, none, before)

pub values_added : {S T : Type 0} (counts counts' : IndexMap Value ℕ T) (old new : IndexMap ℕ ℕ S) (place number n : ℕ) (value : Value)
    → counts'.entries ≡ insert_entry eqv counts.entries value n → number ≡ position_or_len (eqv value) (keys counts) → Updates nat_eq old new place (Some number) → AreKnown (keys counts) old
    → values_of (keys counts') new.entries ≡ fin.insert (values_of (keys counts) old.entries) place value
values_added counts counts' old new place number n value entries is updates are_known =
    subst (λ es. values_of (keys_of es) new.entries ≡ fin.insert (values_of (keys counts) old.entries) place value) (sym entries)
    (with_place (keys counts) (keys_of (insert_entry eqv counts.entries value n)) old new place number value (kept_at counts.entries value n)
    (ap (value_at (keys_of (insert_entry eqv counts.entries value n))) (is ∙ sym (first_is (eqv value) (keys counts))) ∙ put_at counts.entries value n) updates are_known)

no_longer : (es : Counts) → length (keys_of es) ≡ length es
no_longer [] = refl
no_longer (e ∷ es) = ap suc (no_longer es)

pub known_added : {S T : Type 0} (counts counts' : IndexMap Value ℕ T) (old new : IndexMap ℕ ℕ S) (place number n : ℕ) (value : Value)
    → counts'.entries ≡ insert_entry eqv counts.entries value n → number < length counts'.entries → Updates nat_eq old new place (Some number) → AreKnown (keys counts) old
    → AreKnown (keys counts') new
known_added counts counts' old new place number n value entries within updates are_known q m e = by (nat_eq place q) (sym (updates.0 q) ∙ e)
  where
    by : (b : Bool) → cond b (Some number) (get nat_eq old q) ≡ Some m → m < length (keys counts')
    by true f = let same : number ≡ m = cc in let as_long = no_longer counts'.entries in omega (arith, as_long, same, within)
    by false f =
        let before : m < length (keys counts) = are_known q m f in
        let wider : length (keys counts) ≤ length (keys counts') = subst (λ es. length (keys counts) ≤ length (keys_of es)) (sym entries) (no_fewer counts.entries value n) in
        omega (arith, before, wider)

pub counts_added : {S T : Type 0} (counts counts' : IndexMap Value ℕ T) (old new : IndexMap ℕ ℕ S) (place number n : ℕ) (value : Value)
    → counts'.entries ≡ insert_entry eqv counts.entries value n → number ≡ position_or_len (eqv value) (keys counts) → Updates nat_eq old new place (Some number) → AreKnown (keys counts) old
    → Updates eqv counts counts' value (Some n) → n ≡ places_with value (values_of (keys counts) old.entries) + 1 → fin.get (values_of (keys counts) old.entries) place ≡ None
    → AreCounted counts (values_of (keys counts) old.entries) → AreCounted counts' (values_of (keys counts') new.entries)
counts_added counts counts' old new place number n value entries is updates are_known raised one_more absent are_counted =
    subst (AreCounted counts') (sym (values_added counts counts' old new place number n value entries is updates are_known))
    (counted_with counts counts' (values_of (keys counts) old.entries) place value absent are_counted (subst (λ m. Updates eqv counts counts' value (Some m)) one_more raised))

-- ---- a place less

pub values_removed : {S : Type 0} (known : List Value) (old new : IndexMap ℕ ℕ S) (place : ℕ) → UpdatesBy nat_eq (nat_eq place) old new None
    → values_of known new.entries ≡ fin.remove (values_of known old.entries) place
values_removed known old new place updates =
    fin.same_map nat_cmp_total fin.nat_cmp-IsAntisymmetric _ _
    (λ q.
    find_number known new.entries q ∙ ap (option_map (value_at known)) (updates.0 q) ∙ by q (nat_eq place q)
    ∙ ap (λ b. cond b None (option_map (value_at known) (get nat_eq old q))) (same_number place q ∙ (eq_by_cmp_equiv nat_cmp_total).symm place q)
    ∙ ap (cond (eq_by_cmp nat_cmp q place) None) (sym (find_number known old.entries q))
    ∙ sym (fin.get-remove nat_cmp_total (values_of known old.entries) place q))
  where
    by : (q : ℕ) (b : Bool) → option_map (value_at known) (cond b None (get nat_eq old q)) ≡ cond b None (option_map (value_at known) (get nat_eq old q))
    by q true = refl
    by q false = refl

pub known_removed : {S : Type 0} (known : List Value) (old new : IndexMap ℕ ℕ S) (place : ℕ) → UpdatesBy nat_eq (nat_eq place) old new None → AreKnown known old → AreKnown known new
known_removed known old new place updates are_known q n e = by (nat_eq place q) (sym (updates.0 q) ∙ e)
  where
    by : (b : Bool) → cond b None (get nat_eq old q) ≡ Some n → n < length known
    by true f = cc
    by false f = are_known q n f

-- the place's value was counted
pub counted_there : {S T : Type 0} (counts : IndexMap Value ℕ T) (numbers : IndexMap ℕ ℕ S) (place number : ℕ) → AreCounted counts (values_of (keys counts) numbers.entries)
    → get nat_eq numbers place ≡ Some number → 0 < count_in counts (value_at (keys counts) number)
counted_there counts numbers place number are_counted there =
    let value = value_at (keys counts) number in
    let law =
    passing-remove nat_cmp_total fin.nat_cmp-IsAntisymmetric (same_value value) (values_of (keys counts) numbers.entries) place value
    (find_number (keys counts) numbers.entries place ∙ ap (option_map (value_at (keys counts))) there) in
    let one : one_if (same_value value value) ≡ 1 = ap one_if ((same_value-Decides value value).1 refl) in
    let all = are_counted value in
    omega (arith, law, one, all)

pub counts_removed : {S T : Type 0} (counts counts' : IndexMap Value ℕ T) (old new : IndexMap ℕ ℕ S) (place number : ℕ) → keys counts' ≡ keys counts
    → Updates eqv counts counts' (value_at (keys counts) number) (Some (count_in counts (value_at (keys counts) number) - 1)) → UpdatesBy nat_eq (nat_eq place) old new None
    → get nat_eq old place ≡ Some number → AreCounted counts (values_of (keys counts) old.entries) → AreCounted counts' (values_of (keys counts') new.entries)
counts_removed counts counts' old new place number same updates removes there are_counted v =
    ap (λ o. unwrap_or o 0) (updates.0 v) ∙ by (eqv (value_at (keys counts) number) v) refl
    ∙ ap (places_with v) (sym (values_removed (keys counts) old new place removes) ∙ ap (λ ks. values_of ks new.entries) (sym same))
  where
    by : (b : Bool) → eqv (value_at (keys counts) number) v ≡ b
        → unwrap_or (cond b (Some (count_in counts (value_at (keys counts) number) - 1)) (get eqv counts v)) 0 ≡ places_with v (fin.remove (values_of (keys counts) old.entries) place)
    by true e =
        let w = value_at (keys counts) number in
        let law =
        passing-remove nat_cmp_total fin.nat_cmp-IsAntisymmetric (same_value v) (values_of (keys counts) old.entries) place w
        (find_number (keys counts) old.entries place ∙ ap (option_map (value_at (keys counts))) there) in
        let one : one_if (same_value v w) ≡ 1 = ap one_if (sym (same_turns w v) ∙ e) in
        let is : count_in counts w ≡ places_with v (values_of (keys counts) old.entries) = are_counted w ∙ ap (λ u. places_with u (values_of (keys counts) old.entries)) (equal_values w v e) in
        omega (arith, law, one, is)
    by false e =
        let w = value_at (keys counts) number in
        let law =
        passing-remove nat_cmp_total fin.nat_cmp-IsAntisymmetric (same_value v) (values_of (keys counts) old.entries) place w
        (find_number (keys counts) old.entries place ∙ ap (option_map (value_at (keys counts))) there) in
        let none : one_if (same_value v w) ≡ 0 = ap one_if (sym (same_turns w v) ∙ e) in
        let before = are_counted v in
        omega (arith, law, none, before)

-- ---- a count written by number

entry_at : (es : Counts) (number n : ℕ) → slice_get (map (λ e. e.1) es) number ≡ Some n → slice_get es number ≡ Some (value_at (keys_of es) number, n)
entry_at [] number n e = cc
entry_at (e ∷ es) zero n is = let same : e.1 ≡ n = cc in λ i. Some (e.0, same i)
entry_at (e ∷ es) (suc number) n is = entry_at es number n is

pub count_at : {S : Type 0} (counts : IndexMap Value ℕ S) (number n : ℕ) → IsDistinct eqv (keys counts) → Some n ≡ slice_get (map (λ e. e.1) counts.entries) number
    → count_in counts (value_at (keys counts) number) ≡ n
count_at counts number n once is =
    ap (λ o. unwrap_or o 0) (lookup_from_place (eq_by_cmp_equiv value_total) counts.entries number (value_at (keys counts) number) n once (entry_at counts.entries number n (sym is)))

pub written_at : {S : Type 0} (counts : IndexMap Value ℕ S) (number n : ℕ) → IsDistinct eqv (keys counts) → Some n ≡ slice_get (map (λ e. e.1) counts.entries) number
    → Updates eqv counts (with_value_at counts number (n - 1)) (value_at (keys counts) number) (Some (count_in counts (value_at (keys counts) number) - 1))
written_at counts number n once is =
    subst (λ m. Updates eqv counts (with_value_at counts number (n - 1)) (value_at (keys counts) number) (Some (m - 1))) (sym (count_at counts number n once is))
    (updates-with_value_at counts number (n - 1) (eq_by_cmp_equiv value_total) once (value_at (keys counts) number) n (entry_at counts.entries number n (sym is)))

-- ---- no places

pub none_known : {S : Type 0} (known : List Value) (numbers : IndexMap ℕ ℕ S) → numbers.entries ≡ [] → AreKnown known numbers
none_known known numbers empty place number e = let none : lookup (nat_eq place) numbers.entries ≡ None = ap (lookup (nat_eq place)) empty in let no : None ≡ Some number = sym none ∙ e in cc

pub none_counted : {S T : Type 0} (counts : IndexMap Value ℕ T) (numbers : IndexMap ℕ ℕ S) → counts.entries ≡ [] → numbers.entries ≡ [] → AreCounted counts (values_of (keys counts) numbers.entries)
none_counted counts numbers no_counts no_numbers v =
    let none : places_with v fin.empty ≡ 0 = omega (arith, few_with v fin.empty, fin.len-empty nat_cmp Value) in
    ap (λ es. unwrap_or (lookup (eqv v) es) 0) no_counts ∙ sym none ∙ ap (λ es. places_with v (values_of (keys counts) es)) (sym no_numbers)

-- ---- the value of a place

within : (known : List Value) (number : ℕ) → number < length known → slice_get known number ≡ Some (value_at known number)
within [] number h = absurd (omega arith)
within (v ∷ known) zero h = refl
within (v ∷ known) (suc number) h = within known number (omega arith)

pub value_found : {S : Type 0} (known : List Value) (numbers : IndexMap ℕ ℕ S) (place number : ℕ) → AreKnown known numbers → get nat_eq numbers place ≡ Some number
    → slice_get known number ≡ fin.get (values_of known numbers.entries) place
value_found known numbers place number are_known is =
    within known number (are_known place number is) ∙ sym (find_number known numbers.entries place ∙ ap (option_map (value_at known)) is)

pub none_found : {S : Type 0} (known : List Value) (numbers : IndexMap ℕ ℕ S) (place : ℕ) → get nat_eq numbers place ≡ None → None ≡ fin.get (values_of known numbers.entries) place
none_found known numbers place is = sym (find_number known numbers.entries place ∙ ap (option_map (value_at known)) is)

-- ---- marked places

past_end : (gone : List Bool) (place : ℕ) → nat_lt place (length gone) ≡ false → slice_get gone place ≡ None
past_end gone place e = let past : length gone ≤ place = grind (arith, Decides-ltb place (length gone)) in slice_get_past gone place past

-- the place is marked and below a bound
abbrev pub marked_below : List Bool → ℕ → ℕ → Bool
marked_below gone bound place = nat_lt place bound && is_marked gone place

-- the places that aren't
abbrev pub left_from : List Bool → ℕ → Values → Values
left_from gone bound values = fin.retain_keys values (λ place. not (marked_below gone bound place))

get-left : (gone : List Bool) (bound : ℕ) (values : Values) (place : ℕ) → fin.get (left_from gone bound values) place ≡ cond (not (marked_below gone bound place)) (fin.get values place) None
get-left gone bound values place =
    fin.get-retain_keys values (λ q. not (marked_below gone bound q)) place
    (λ x tied. ap (λ q. not (marked_below gone bound q)) (sym (fin.nat_cmp-IsAntisymmetric place x tied)))

below_next : (bound place : ℕ) → nat_lt place (bound + 1) ≡ (nat_eq place bound || nat_lt place bound)
below_next bound place = grind (arith, Decides-ltb place (bound + 1), Decides-ltb place bound, Decides-eqb place bound)

none_below : (place : ℕ) → nat_lt place 0 ≡ false
none_below place = grind (arith, Decides-ltb place 0)

pub next_gone : (gone : List Bool) (bound : ℕ) (values : Values) → is_marked gone bound ≡ true → fin.remove (left_from gone bound values) bound ≡ left_from gone (bound + 1) values
next_gone gone bound values marked =
    fin.same_map nat_cmp_total fin.nat_cmp-IsAntisymmetric _ _
    (λ q.
    fin.get-remove nat_cmp_total (left_from gone bound values) bound q
    ∙ ap (λ b. cond b None (fin.get (left_from gone bound values) q)) (sym (same_number q bound))
    ∙ ap (cond (nat_eq q bound) None) (get-left gone bound values q)
    ∙ by q (nat_eq q bound) refl
    ∙ ap (λ l. cond (not (l && is_marked gone q)) (fin.get values q) None) (sym (below_next bound q))
    ∙ sym (get-left gone (bound + 1) values q))
  where
    by : (q : ℕ) (b : Bool) → nat_eq q bound ≡ b
        → cond b None (cond (not (marked_below gone bound q)) (fin.get values q) None) ≡ cond (not ((b || nat_lt q bound) && is_marked gone q)) (fin.get values q) None
    by q true e = let m : is_marked gone q ≡ true = ap (is_marked gone) (one_number q bound e) ∙ marked in sym (ap (λ x. cond (not x) (fin.get values q) None) m)
    by q false e = refl

pub next_left : (gone : List Bool) (bound : ℕ) (values : Values) → is_marked gone bound ≡ false → left_from gone bound values ≡ left_from gone (bound + 1) values
next_left gone bound values unmarked = ap (fin.retain_keys values) (λ i q. (by q (nat_eq q bound) refl ∙ ap (λ l. not (l && is_marked gone q)) (sym (below_next bound q))) i)
  where
    by : (q : ℕ) (b : Bool) → nat_eq q bound ≡ b → not (marked_below gone bound q) ≡ not ((b || nat_lt q bound) && is_marked gone q)
    by q true e =
        let m : is_marked gone q ≡ false = ap (is_marked gone) (one_number q bound e) ∙ unmarked in
        ap (λ x. not (nat_lt q bound && x)) m ∙ ap not (and-false (nat_lt q bound)) ∙ sym (ap not m)
    by q false e = refl

pub all_left : (gone : List Bool) (values : Values) → left_from gone 0 values ≡ values
all_left gone values =
    fin.same_map nat_cmp_total fin.nat_cmp-IsAntisymmetric _ _
    (λ q. get-left gone 0 values q ∙ ap (λ l. cond (not (l && is_marked gone q)) (fin.get values q) None) (none_below q))

pub gone_all : (gone : List Bool) (values : Values) → left_from gone (length gone) values ≡ unmarked_places gone values
gone_all gone values = ap (fin.retain_keys values) (λ i q. by q (nat_lt q (length gone)) refl i)
  where
    by : (q : ℕ) (b : Bool) → nat_lt q (length gone) ≡ b → not (b && is_marked gone q) ≡ not (is_marked gone q)
    by q true e = refl
    by q false e = let past : slice_get gone q ≡ None = past_end gone q e in sym (ap (λ (o : Option Bool). not (unwrap_or o false)) past)

pub ruleset gone = (next_gone, next_left, all_left, gone_all)

pub ruleset after = (none_known, none_counted, values_added, known_added, counts_added, values_removed, known_removed, counted_there, counts_removed, few_with, places_counted)
